use Rattle.std.proofs.Common.{◌≡◌, ℕ, None, refl, sym, ap, ◌∙◌}
use Rattle.std.proofs.lemmas.Iterator.Consumers.{YieldsList-from_first, YieldsList-end}
use Rattle.std.proofs.lemmas.List.{map-id}
use Rattle.binlog_optional_metadata.specs.Numbers.{numbers_of}
use Rattle.binlog_undo_log.proofs.primary_key.all_numbers.Goals as goal

pub returns : goal.returns
returns c =
    let start : numbers_of c.into_iter-number-iterator.result ≡ numbers_of c.args.numbers = ap numbers_of c.into_iter-number-iterator.ensures.into_iter_gives in
    let ended = YieldsList-end (YieldsList-from_first (λ (x : ℕ). x) numbers_of (numbers_of c.args.numbers) start) c.numbers.yielded c.numbers.number-iterator c.numbers.yielded_by None c.next.new.self refl c.in-None.ensures.steps in
    c.numbers.invariant ∙ sym (map-id c.numbers.yielded) ∙ ended.0
