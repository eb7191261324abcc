use Rattle.std.proofs.Common.{◌≡◌}
use Rattle.std.specs.Iterator.{Yields}
use Rattle.binlog_optional_metadata.specs.FieldStates.{GivesField}
use Rattle.binlog_optional_metadata.specs.StatedFields.{stated_of}
use Rattle.binlog_optional_metadata.proofs.FieldItems.{item_taken, given_to_end}
use Rattle.binlog_optional_metadata.proofs.stated_fields.StatedFields.read.Goals as goal

pub returns : goal.returns
returns c =
    let start : c.into_iter-item-iterator.result ≡ c.args.metadata = c.into_iter-item-iterator.ensures.into_iter_gives in
    let given : Yields GivesField c.into_iter-item-iterator.result c.fields.yielded c.fields.item-iterator = c.fields.yielded_by in
    given_to_end c.args.metadata c.fields.item-iterator c.next.new.self c.fields.yielded (stated_of c.fields.stated) c.fields.stated.refusal (rw start at given) c.in-None.ensures.steps c.fields.invariant

pub fields-preserved : goal.fields-preserved
fields-preserved c =
    item_taken c.fields.yielded c.in-Some.item (stated_of c.fields.stated) (stated_of c.take_item.new.self) c.fields.stated.refusal c.take_item.new.self.refusal c.fields.invariant c.take_item.ensures.fields
    c.take_item.ensures.refusal
