use Rattle.std.proofs.Common.{◌≡◌, true}
use Rattle.json.specs.Token.{begin_array}
use Rattle.binary_json.specs.Diffs.{diff_items, diffs_left}
use Rattle.binary_json_lines.specs.Diffs.{items_have_text, items_parts}
use Rattle.binary_json_lines.proofs.PartLemmas.{ShowsSome}
use Rattle.binary_json_lines.proofs.diffs.write_diffs.Given as goal

-- The diffs so far are written, and those that are left have a text.
abbrev pub invariant-diffs : goal.invariant-diffs
invariant-diffs l = record {
  shown : ShowsSome begin_array l.fn.line l.line (items_parts (diffs_left l.item-iterator)) (items_parts (diff_items l.bytes));
  texts : items_have_text (diffs_left l.item-iterator) ≡ true;
}
