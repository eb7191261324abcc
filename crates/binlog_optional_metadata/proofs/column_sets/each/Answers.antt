use Rattle.std.proofs.Common.{◌≡◌, ℕ, List, Option, None, map, get_or, refl, sym, ap, ◌∙◌}
use Rattle.std.proofs.lemmas.Iterator.Consumers.{YieldsList-from_first, YieldsList-end}
use Rattle.std.proofs.lemmas.List.{map-id}
use Rattle.binlog_optional_metadata.specs.Numbers.{numbers_of}
use Rattle.binlog_optional_metadata.specs.Stated.{set_numbered}
use Rattle.character_sets.specs.declared.character_set.CharacterSet.{CharacterSet}
use Rattle.binlog_optional_metadata.proofs.ColumnSets.{own_set}
use Rattle.binlog_optional_metadata.proofs.column_sets.each.Goals as goal

pub returns : goal.returns
returns c =
    let start : numbers_of c.into_iter-collation-iterator.result ≡ numbers_of c.args.collations = ap numbers_of c.into_iter-collation-iterator.ensures.into_iter_gives in
    let ended = YieldsList-end (YieldsList-from_first (λ (x : ℕ). x) numbers_of (numbers_of c.args.collations) start) c.collations.yielded c.collations.collation-iterator c.collations.yielded_by None c.next.new.self refl c.in-None.ensures.steps in
    let are : c.collations.sets.items ≡ map (set_numbered c.args.is_maria_log) (numbers_of c.args.collations) =
    c.collations.invariant ∙ ap (λ (ns : List ℕ). map (set_numbered c.args.is_maria_log) ns) (sym (map-id c.collations.yielded) ∙ ended.0) in
    λ index. ap (λ (sets : List (Option CharacterSet)). get_or sets index None) are ∙ own_set c.args.is_maria_log (numbers_of c.args.collations) index
