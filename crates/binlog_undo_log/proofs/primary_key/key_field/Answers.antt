use Rattle.std.proofs.Common.{◌≡◌, option_map}
use Rattle.std.specs.Iterator.{Yields}
use Rattle.binlog_optional_metadata.specs.FieldStates.{GivesField}
use Rattle.binlog_optional_metadata.specs.FieldValues.{content_of}
use Rattle.binlog_undo_log.proofs.Keys.{item_taken, given_to_end}
use Rattle.binlog_undo_log.proofs.primary_key.key_field.Goals as goal

pub returns : goal.returns
returns c =
    let start : c.into_iter-item-iterator.result ≡ c.args.metadata = c.into_iter-item-iterator.ensures.into_iter_gives in
    let given : Yields GivesField c.into_iter-item-iterator.result c.fields.yielded c.fields.item-iterator = c.fields.yielded_by in
    given_to_end c.args.metadata c.fields.item-iterator c.next.new.self c.fields.yielded (option_map content_of c.fields.found) (rw start at given) c.in-None.ensures.steps c.fields.invariant

pub fields-preserved : goal.fields-preserved
fields-preserved c =
    item_taken c.fields.yielded c.in-Some.item (option_map content_of c.fields.found) (option_map content_of c.newer_key-found.result) c.fields.invariant c.newer_key-found.ensures
