-- Lists of diffs that have a text, and what is read of them.
use Rattle.std.proofs.Common.{◌≡◌, true, false, List, [], ◌∷◌, ◌++◌, Option, Some, None, Ok, Err, refl, ap}
use Rattle.std.proofs.lemmas.Bool.{and_parts, and_from}
use Rattle.std.proofs.lemmas.Str.{IsUtf8-from_is_utf8, is_utf8-from_IsUtf8}
use Rattle.std.specs.Str.{is_utf8}
use Rattle.binary_json.specs.Values.{Json}
use Rattle.binary_json.specs.Diffs.{Diff, Read}
use Rattle.binary_json.proofs.DiffLists.{ok}
use Rattle.binary_json.proofs.DiffGrammar.{all_ok}
use Rattle.binary_json_lines.specs.Parts.{Part}
use Rattle.binary_json_lines.specs.Diffs.{value_has_text, diff_has_text, items_have_text, diff_parts, items_parts}
use Rattle.binary_json_lines.specs.TextDiffs.{ValueHasText, DiffsHaveText, each_parts}
use Rattle.binary_json_lines.proofs.TextTests.{tested, passes}

value_tested : (v : Option Json) → ValueHasText v → value_has_text v ≡ true
value_tested None has = refl
value_tested (Some v) has = tested v has

value_passes : (v : Option Json) → value_has_text v ≡ true → ValueHasText v
value_passes None e = tt
value_passes (Some v) e = passes v e

pub diffs_tested : (ds : List Diff) → DiffsHaveText ds → items_have_text (all_ok ds) ≡ true
diffs_tested [] have = refl
diffs_tested (d ∷ ds) have = and_from _ _ (and_from _ _ (is_utf8-from_IsUtf8 d.path have.0) (value_tested d.value have.1)) (diffs_tested ds have.2)

no_refusal : false ≡ true → ⊥
no_refusal e = cc

-- What passes the test is a list of diffs that have a text.
pub diffs_pass : (items : List (Read Diff)) → items_have_text items ≡ true → (ds : List Diff) × (items ≡ all_ok ds) × DiffsHaveText ds
diffs_pass [] e = ([], refl, tt)
diffs_pass (Err f ∷ items) e = absurd (no_refusal e)
diffs_pass (Ok d ∷ items) e =
    let both = and_parts (diff_has_text d) (items_have_text items) e in
    let first = and_parts (is_utf8 d.path) (value_has_text d.value) both.0 in
    let others = diffs_pass items both.1 in
    (d ∷ others.0, ap (λ (l : List (Read Diff)). ok d ∷ l) others.1, (IsUtf8-from_is_utf8 d.path first.0, value_passes d.value first.1, others.2))

pub each_written : (ds : List Diff) → items_parts (all_ok ds) ≡ each_parts ds
each_written [] = refl
each_written (d ∷ ds) = ap (λ (l : List Part). diff_parts d ++ l) (each_written ds)
