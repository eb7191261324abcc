use Rattle.std.proofs.Common.{◌≡◌, List, ap, sym, ◌∙◌}
use Rattle.binary_json.specs.Diffs.{Diff, Read, diff_items, item_of, diffs_left}
use Rattle.binary_json.specs.declared.diffs.JsonDiffs.{JsonDiffs}
use Rattle.binary_json_lines.specs.Diffs.{items_have_text}
use Rattle.binary_json_lines.proofs.DiffLemmas.{one_less_has, one_has_none, none_left}
use Rattle.binary_json_lines.proofs.diffs.diffs_have_text.Goals as goal

pub diffs-init : goal.diffs-init
diffs-init c =
    let start : diffs_left c.into_iter-item-iterator.result ≡ diff_items c.args.bytes.now = ap (λ (i : JsonDiffs). diffs_left i) c.into_iter-item-iterator.ensures.into_iter_gives ∙ c.new-item-items.ensures in
    ap (λ (l : List (Read Diff)). items_have_text l) start

pub diffs-preserved : goal.diffs-preserved
diffs-preserved c = one_less_has (diffs_left c.diffs.item-iterator) (diffs_left c.next.new.self) (diff_items c.args.bytes.now) (item_of c.in-Some.item) c.in-Some.ensures.steps (sym c.item_has_text.ensures ∙ c.if-not-item_has_text.false) c.diffs.invariant

pub returns-then-not-item_has_text : goal.returns-then-not-item_has_text
returns-then-not-item_has_text c = one_has_none (diffs_left c.diffs.item-iterator) (diffs_left c.next.new.self) (diff_items c.args.bytes.now) (item_of c.in-Some.item) c.in-Some.ensures.steps (sym c.item_has_text.ensures ∙ c.if-not-item_has_text.true) c.diffs.invariant

pub returns : goal.returns
returns c = none_left (diffs_left c.diffs.item-iterator) (diff_items c.args.bytes.now) c.in-None.ensures.steps.0 c.diffs.invariant
