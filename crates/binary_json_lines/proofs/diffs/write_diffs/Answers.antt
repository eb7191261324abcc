use Rattle.std.proofs.Common.{◌≡◌, Result, Ok, Err, OnOk, List, [], ◌∷◌, ◌++◌, ap, ◌∙◌}
use Rattle.json.specs.Token.{Token, begin_array, end_array}
use Rattle.binary_json.specs.Diffs.{Diff, Read, diff_items, item_of, diffs_left}
use Rattle.binary_json.specs.declared.diffs.JsonDiffs.{JsonDiffs}
use Rattle.binary_json_lines.specs.Diffs.{items_have_text, item_parts, items_parts}
use Rattle.binary_json_lines.specs.Parts.{Part, exactly, Shows}
use Rattle.binary_json_lines.proofs.PartLemmas.{ShowsSome, begun, one_more, ended}
use Rattle.binary_json_lines.proofs.DiffLemmas.{first_has}
use Rattle.binary_json_lines.proofs.diffs.write_diffs.Goals as goal

pub diffs-init : goal.diffs-init
diffs-init c =
    let start : diffs_left c.into_iter-item-iterator.result ≡ diff_items c.args.bytes.now = ap (λ (i : JsonDiffs). diffs_left i) c.into_iter-item-iterator.ensures.into_iter_gives ∙ c.new-item-items.ensures in
    record {
      shown = begun begin_array c.args.line.now c.begin_array.new.self (items_parts (diffs_left c.into_iter-item-iterator.result)) (items_parts (diff_items c.args.bytes.now)) (ap (λ (l : List (Read Diff)). items_parts l) start) c.in_ok-begin_array.ensures.added;
      texts = ap (λ (l : List (Read Diff)). items_have_text l) start ∙ c.requires;
    }

pub write_item-requires : goal.write_item-requires
write_item-requires c = (first_has (diffs_left c.diffs.item-iterator) (diffs_left c.next.new.self) (item_of c.in-Some.item) c.in-Some.ensures.steps c.diffs.invariant.texts).0

pub diffs-preserved : goal.diffs-preserved
diffs-preserved c =
    let steps = c.in-Some.ensures.steps in
    record {
      shown = one_more begin_array c.args.line.now c.diffs.line c.write_item.new.line (item_parts (item_of c.in-Some.item)) _ _ (items_parts (diff_items c.args.bytes.now)) (ap (λ (l : List (Read Diff)). items_parts l) steps) c.diffs.invariant.shown c.in_ok-write_item.ensures;
      texts = (first_has (diffs_left c.diffs.item-iterator) (diffs_left c.next.new.self) (item_of c.in-Some.item) steps c.diffs.invariant.texts).1;
    }

all_written : {A E : Type 0} (result : Result A E) (old mid new : List Token) (left all : List Part) → left ≡ [] → ShowsSome begin_array old mid left all → OnOk result (new ≡ mid ++ end_array ∷ [])
    → OnOk result (Shows old new (exactly begin_array ∷ (all ++ exactly end_array ∷ [])))
all_written (Ok x) old mid new left all none shown is = ended begin_array end_array old mid new left all none shown is
all_written (Err e) old mid new left all none shown is = is

pub returns : goal.returns
returns c =
    all_written c.end_array.result c.args.line.now c.diffs.line c.end_array.new.self _ (items_parts (diff_items c.args.bytes.now)) (ap (λ (l : List (Read Diff)). items_parts l) c.in-None.ensures.steps.0) c.diffs.invariant.shown c.end_array.ensures.added
