use Rattle.std.proofs.Common.{◌≡◌}
use Rattle.binary_json.specs.Diffs.{diff_items, diffs_left}
use Rattle.binary_json_lines.specs.Diffs.{items_have_text}
use Rattle.binary_json_lines.proofs.diffs.diffs_have_text.Given as goal

-- All diffs have a text if those that are left have one.
abbrev pub invariant-diffs : goal.invariant-diffs
invariant-diffs l = items_have_text (diffs_left l.item-iterator) ≡ items_have_text (diff_items l.bytes)
