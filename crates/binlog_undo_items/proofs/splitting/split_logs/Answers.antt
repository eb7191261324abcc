use Rattle.std.proofs.Common.{Bor, List, ℕ, map}
use Rattle.std.proofs.lemmas.List.{nil_from_length}
use Rattle.binlog_undo_items.proofs.FirstLogs.{more_bytes, some_bytes, too_long}
use Rattle.binlog_undo_items.proofs.splitting.split_logs.Goals as goal

pub returns-in_default-split_at_checked-clause-err : goal.returns-in_default-split_at_checked-clause-err
returns-in_default-split_at_checked-clause-err c =
    too_long c.args.bytes.now c.args.sizes.now (map (λ (log : Bor (List ℕ)). log.now) c.sizes.logs.items) c.sizes.rest.now c.in-Some.size.now c.in-Some.others.now
    (rw c.in-Some.ensures.cases.0 at c.sizes.invariant) c.in_default-split_at_checked.ensures.cases

pub returns-clause-err : goal.returns-clause-err
returns-clause-err c =
    more_bytes c.args.bytes.now c.args.sizes.now (map (λ (log : Bor (List ℕ)). log.now) c.sizes.logs.items) c.sizes.rest.now c.sizes.left.now c.sizes.invariant
    (nil_from_length c.sizes.left.now c.in_default.ensures.cases) (some_bytes c.sizes.rest.now c.is_empty.result c.is_empty.ensures c.if-is_empty.false)
