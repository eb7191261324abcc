-- Diffs that are written one after the other.
use Rattle.std.proofs.Common.{◌≡◌, ℕ, Bool, true, false, ◌&&◌, Result, Ok, Err, OnOk, List, [], ◌∷◌, ◌++◌, map, refl, sym, ap, subst, ◌∙◌, append-nil}
use Rattle.std.proofs.lemmas.Bool.{false_from_ne_true, and_parts}
use Rattle.std.proofs.lemmas.Str.{IsUtf8-from_is_utf8, is_utf8-from_IsUtf8}
use Rattle.std.specs.Prelude.{IsUtf8, Option, option_map}
use Rattle.std.specs.Str.{is_utf8}
use Rattle.json.specs.Token.{Token, end_object}
use Rattle.binary_json.specs.Values.{Json}
use Rattle.binary_json.specs.Views.{document_json}
use Rattle.binary_json.specs.Diffs.{Diff, Read}
use Rattle.binary_json.specs.declared.document.Document.{Document}
use Rattle.binary_json.specs.declared.diffs.JsonDiffOperation.{JsonDiffOperation}
use Rattle.binary_json_lines.specs.Parts.{Part, exactly, AreParts, Shows}
use Rattle.binary_json_lines.specs.Diffs.{value_has_text, diff_has_text, item_has_text, items_have_text, diff_head, value_member, diff_parts}
use Rattle.binary_json_lines.proofs.PartLemmas.{shows_both, shows_token}

pub utf8_tested : (s : List ℕ) → IsUtf8 s → is_utf8 s ≡ true
utf8_tested s is = is_utf8-from_IsUtf8 s is

pub utf8_fails : (s : List ℕ) → (IsUtf8 s → ⊥) → is_utf8 s ≡ false
utf8_fails s isnt = false_from_ne_true (is_utf8 s) (λ e. isnt (IsUtf8-from_is_utf8 s e))

are_exact : (tokens : List Token) → AreParts (map exactly tokens) tokens
are_exact [] = tt
are_exact (token ∷ tokens) = (refl, are_exact tokens)

pub shows_tokens : (old new : List Token) (tokens : List Token) → new ≡ old ++ tokens → Shows old new (map exactly tokens)
shows_tokens old new tokens is = record { tokens = tokens; are = are_exact tokens; is = is }

-- Nothing is written.
pub shows_nothing : (old : List Token) → Shows old old []
shows_nothing old = record { tokens = []; are = tt; is = sym (append-nil old) }

-- The tokens that begin an object, a part of it, and the token that ends it.
pub object_written : {A E : Type 0} (result : Result A E) (old mid next new head : List Token) (value : List Part) (last : Token) → mid ≡ old ++ head → Shows mid next value
    → OnOk result (new ≡ next ++ last ∷ []) → OnOk result (Shows old new (map exactly head ++ (value ++ exactly last ∷ [])))
object_written (Ok x) old mid next new head value last begun shown is =
    shows_both old mid new (map exactly head) (value ++ exactly last ∷ []) (shows_tokens old mid head begun) (shows_both mid next new value (exactly last ∷ []) shown (shows_token next new last is))
object_written (Err e) old mid next new head value last begun shown is = is

pub path_is_text : (d : Diff) → diff_has_text d ≡ true → IsUtf8 d.path
path_is_text d has = IsUtf8-from_is_utf8 d.path (and_parts (is_utf8 d.path) (value_has_text d.value) has).0

-- The head, the value and the end of a diff.
pub diff_written : {A E : Type 0} (result : Result A E) (old mid next new : List Token) (d : Diff) (o : JsonDiffOperation) (path : List ℕ) (document : Option Document)
    → o ≡ d.operation → path ≡ d.path → option_map document_json document ≡ d.value
    → mid ≡ old ++ diff_head o path → Shows mid next (value_member (option_map document_json document)) → OnOk result (new ≡ next ++ end_object ∷ []) → OnOk result (Shows old new (diff_parts d))
unfolding diff_parts
diff_written result old mid next new d o path document same_operation same_path same_value head value last =
    let by_operation : mid ≡ old ++ diff_head d.operation path = subst (λ (x : JsonDiffOperation). mid ≡ old ++ diff_head x path) same_operation head in
    let by_path : mid ≡ old ++ diff_head d.operation d.path = subst (λ (x : List ℕ). mid ≡ old ++ diff_head d.operation x) same_path by_operation in
    let by_value : Shows mid next (value_member d.value) = subst (λ (x : Option Json). Shows mid next (value_member x)) same_value value in
    object_written result old mid next new (diff_head d.operation d.path) (value_member d.value) end_object by_path by_value last

-- One item less is left.
pub one_less_has : (items rest all : List (Read Diff)) (item : Read Diff) → items ≡ item ∷ rest → item_has_text item ≡ true → items_have_text items ≡ items_have_text all → items_have_text rest ≡ items_have_text all
one_less_has items rest all item is has same =
    sym (ap (λ (b : Bool). b && items_have_text rest) has) ∙ sym (ap (λ (l : List (Read Diff)). items_have_text l) is) ∙ same

pub one_has_none : (items rest all : List (Read Diff)) (item : Read Diff) → items ≡ item ∷ rest → item_has_text item ≡ false → items_have_text items ≡ items_have_text all → false ≡ items_have_text all
one_has_none items rest all item is hasnt same =
    sym (ap (λ (b : Bool). b && items_have_text rest) hasnt) ∙ sym (ap (λ (l : List (Read Diff)). items_have_text l) is) ∙ same

pub none_left : (items all : List (Read Diff)) → items ≡ [] → items_have_text items ≡ items_have_text all → true ≡ items_have_text all
none_left items all none same = sym (ap (λ (l : List (Read Diff)). items_have_text l) none) ∙ same

pub first_has : (items rest : List (Read Diff)) (item : Read Diff) → items ≡ item ∷ rest → items_have_text items ≡ true → (item_has_text item ≡ true) × (items_have_text rest ≡ true)
first_has items rest item is all = and_parts (item_has_text item) (items_have_text rest) (sym (ap (λ (l : List (Read Diff)). items_have_text l) is) ∙ all)
