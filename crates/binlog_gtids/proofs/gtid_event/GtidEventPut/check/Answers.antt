use Rattle.std.proofs.Common.{◌≡◌, ℕ, List, Option, Err, sym, subst}
use Rattle.std.specs.Prelude.{MatchOption, IsOk}
use Rattle.binlog_gtids.specs.Gtids.{by_tag}
use Rattle.binlog_gtids.specs.Writable.{unwritable_tagged, unwritable_untagged}
use Rattle.binlog_gtids.proofs.gtid_event.GtidEventPut.check.Goals as goal

pub returns-in-None : goal.returns-in-None
returns-in-None c =
    let g = c.args.self.now in
    let r = c.check_untagged.result in
    subst (λ (tag : Option (List ℕ)). MatchOption (by_tag tag (unwritable_tagged g) (unwritable_untagged g)) (IsOk r) (λ why. r ≡ Err why)) (sym c.in-None.is) c.check_untagged.ensures
