use Rattle.binlog_declared_columns.proofs.SignFields.{left_behind, ended, stays, turns}
use Rattle.binlog_declared_columns.proofs.signs.states_signs.Goals as goal

pub loop-item-preserved-then-is_stated : goal.loop-item-preserved-then-is_stated
loop-item-preserved-then-is_stated c =
    left_behind c.args.metadata c.loop-item.fields c.next.new.self c.in-Some.item c.loop-item.is_stated c.loop-item.is_stated c.loop-item.invariant c.in-Some.ensures.steps
    (stays c.loop-item.is_stated _ c.if-is_stated.true)

pub loop-item-preserved : goal.loop-item-preserved
loop-item-preserved c =
    left_behind c.args.metadata c.loop-item.fields c.next.new.self c.in-Some.item c.loop-item.is_stated c.is_sign_field-is_stated.result c.loop-item.invariant c.in-Some.ensures.steps
    (turns c.loop-item.is_stated _ c.is_sign_field-is_stated.result c.if-is_stated.false c.is_sign_field-is_stated.ensures)

pub returns : goal.returns
returns c = ended c.args.metadata c.loop-item.fields c.next.new.self c.loop-item.is_stated c.loop-item.invariant c.in_default.ensures.steps
