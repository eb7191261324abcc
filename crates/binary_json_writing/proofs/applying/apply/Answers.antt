use Rattle.std.proofs.Common.{◌≡◌, ◌∷◌, ap, ◌∙◌, inr}
use Rattle.std.specs.Prelude.{Result}
use Rattle.std.proofs.lemmas.Result.{err_from_is_err_and}
use Rattle.binary_json.specs.Diffs.{diff_of, item_of, diffs_left}
use Rattle.binary_json.specs.declared.diffs.JsonDiff.{JsonDiff}
use Rattle.binary_json.specs.declared.diffs.JsonDiffError.{JsonDiffError}
use Rattle.binary_json_writing.specs.Owned.{owned_value}
use Rattle.binary_json_writing.proofs.DiffsLeft.{ok, made_more, refused_more, refused_here}
use Rattle.binary_json_writing.proofs.ValuesAfter.{owned_possible}
use Rattle.binary_json_writing.proofs.applying.apply.Goals as goal

pub returns-in_err-current-2-clause-refused : goal.returns-in_err-current-2-clause-refused
returns-in_err-current-2-clause-refused c =
    let p = err_from_is_err_and c.from_residual-in_err-current-2.result c.from_residual-in_err-current-2.ensures.1 in
    let rest = diffs_left c.next.new.self in
    let left : diffs_left c.diffs.item-iterator ≡ ok (diff_of c.in_ok-diff.diff) ∷ rest = c.in-Some.ensures.steps ∙ ap (λ (i : Result JsonDiff JsonDiffError). item_of i ∷ rest) c.in_ok-diff.was in
    rw (p.1, p.2) (inr (c.diffs.invariant.refused _ (refused_here (diffs_left c.diffs.item-iterator) rest (diff_of c.in_ok-diff.diff) (owned_value c.diffs.current) _ left c.in_err-current-2.ensures.refused)))

pub diffs-preserved : goal.diffs-preserved
diffs-preserved c =
    let rest = diffs_left c.next.new.self in
    let left : diffs_left c.diffs.item-iterator ≡ ok (diff_of c.in_ok-diff.diff) ∷ rest = c.in-Some.ensures.steps ∙ ap (λ (i : Result JsonDiff JsonDiffError). item_of i ∷ rest) c.in_ok-diff.was in
    let d = diff_of c.in_ok-diff.diff in
    let v = owned_value c.diffs.current in
    let u = owned_value c.in_ok-current-2.current in
    record {
      made = λ w all. c.diffs.invariant.made w (made_more (diffs_left c.diffs.item-iterator) rest d v u w left (owned_possible c.diffs.current) c.in_ok-current-2.ensures.made all);
      refused = λ e why. c.diffs.invariant.refused e (refused_more (diffs_left c.diffs.item-iterator) rest d v u e left c.in_ok-current-2.ensures.made why);
    }
