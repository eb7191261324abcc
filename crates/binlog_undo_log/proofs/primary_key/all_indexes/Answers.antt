use Rattle.std.proofs.Common.{◌≡◌, ℕ, List, None, map, refl, sym, ap, ◌∙◌}
use Rattle.std.proofs.lemmas.Iterator.Consumers.{YieldsList-from_first, YieldsList-end}
use Rattle.std.proofs.lemmas.List.{map-id}
use Rattle.binlog_optional_metadata.specs.IndexedNumbers.{indexed_of}
use Rattle.binlog_undo_log.proofs.primary_key.all_indexes.Goals as goal

pub returns : goal.returns
returns c =
    let start : indexed_of c.into_iter-index-iterator.result ≡ indexed_of c.args.pairs = ap indexed_of c.into_iter-index-iterator.ensures.into_iter_gives in
    let ended = YieldsList-end (YieldsList-from_first (λ (x : ℕ × ℕ). x) indexed_of (indexed_of c.args.pairs) start) c.pairs.yielded c.pairs.index-iterator c.pairs.yielded_by None c.next.new.self refl c.in-None.ensures.steps in
    c.pairs.invariant ∙ ap (λ (ps : List (ℕ × ℕ)). map (λ (pair : ℕ × ℕ). pair.0) ps) (sym (map-id c.pairs.yielded) ∙ ended.0)
