use Rattle.std.proofs.Common.{◌+◌, ◌*◌, suc}
use Rattle.binary_json.specs.Values.{nesting, entries_nesting}
use Rattle.binary_json.specs.Decoding.{entries_in}
use Rattle.binary_json.specs.Views.{json, elements, members}
use Rattle.binary_json.specs.Iterators.{elements_left, members_left}
use Rattle.binary_json_lines.specs.HasText.{HasText}
use Rattle.binary_json_lines.proofs.Every.{Every, IsLeft, MemberHasText, IsBelow, MemberIsBelow}
use Rattle.binary_json_lines.proofs.texts.+texts.Given as goal

abbrev pub decreases-value_has_text : goal.decreases-value_has_text
decreases-value_has_text l = 2 * nesting (json l.value.now) + 1

abbrev pub decreases-elements_have_text : goal.decreases-elements_have_text
decreases-elements_have_text l = 2 * suc (entries_nesting (entries_in l.array.now.container.kind l.array.now.container.bytes.now))

abbrev pub decreases-members_have_text : goal.decreases-members_have_text
decreases-members_have_text l = 2 * suc (entries_nesting (entries_in l.object.now.container.kind l.object.now.container.bytes.now))

-- The values that are left have a text if all have one, and the other way round.
abbrev pub invariant-elements_have_text-elements : goal.invariant-elements_have_text-elements
invariant-elements_have_text-elements l = record {
  texts : IsLeft HasText (elements_left l.value-iterator) (elements l.array);
  deep : Every (IsBelow (entries_nesting (entries_in l.array.container.kind l.array.container.bytes.now))) (elements_left l.value-iterator);
}

abbrev pub invariant-members_have_text-members : goal.invariant-members_have_text-members
invariant-members_have_text-members l = record {
  texts : IsLeft MemberHasText (members_left l.key-iterator) (members l.object);
  deep : Every (MemberIsBelow (entries_nesting (entries_in l.object.container.kind l.object.container.bytes.now))) (members_left l.key-iterator);
}
