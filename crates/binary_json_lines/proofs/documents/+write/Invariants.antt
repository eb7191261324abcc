use Rattle.std.proofs.Common.{◌+◌, ◌*◌, suc}
use Rattle.json.specs.Token.{begin_array, begin_object}
use Rattle.binary_json.specs.Values.{nesting, entries_nesting}
use Rattle.binary_json.specs.Decoding.{entries_in}
use Rattle.binary_json.specs.Views.{json, elements, members}
use Rattle.binary_json.specs.Iterators.{elements_left, members_left}
use Rattle.binary_json_lines.specs.HasText.{HasText}
use Rattle.binary_json_lines.specs.Documents.{elements_parts, members_parts}
use Rattle.binary_json_lines.proofs.Every.{Every, IsLeft, MemberHasText, IsBelow, MemberIsBelow}
use Rattle.binary_json_lines.proofs.PartLemmas.{ShowsSome, all_values, all_members}
use Rattle.binary_json_lines.proofs.documents.+write.Given as goal

abbrev pub decreases-write_text : goal.decreases-write_text
decreases-write_text l = 2 * nesting (json l.value.now) + 1

abbrev pub decreases-write_array : goal.decreases-write_array
decreases-write_array l = 2 * suc (entries_nesting (entries_in l.array.now.container.kind l.array.now.container.bytes.now))

abbrev pub decreases-write_object : goal.decreases-write_object
decreases-write_object l = 2 * suc (entries_nesting (entries_in l.object.now.container.kind l.object.now.container.bytes.now))

-- The values so far are written. All have a text if those that are left have one, and the other way round.
abbrev pub invariant-write_array-elements : goal.invariant-write_array-elements
invariant-write_array-elements l = record {
  shown : ShowsSome begin_array l.fn.line l.line (all_values (elements_left l.value-iterator)) (elements_parts (entries_in l.array.container.kind l.array.container.bytes.now));
  texts : IsLeft HasText (elements_left l.value-iterator) (elements l.array);
  deep : Every (IsBelow (entries_nesting (entries_in l.array.container.kind l.array.container.bytes.now))) (elements_left l.value-iterator);
}

abbrev pub invariant-write_object-members : goal.invariant-write_object-members
invariant-write_object-members l = record {
  shown : ShowsSome begin_object l.fn.line l.line (all_members (members_left l.key-iterator)) (members_parts (entries_in l.object.container.kind l.object.container.bytes.now));
  texts : IsLeft MemberHasText (members_left l.key-iterator) (members l.object);
  deep : Every (MemberIsBelow (entries_nesting (entries_in l.object.container.kind l.object.container.bytes.now))) (members_left l.key-iterator);
}
