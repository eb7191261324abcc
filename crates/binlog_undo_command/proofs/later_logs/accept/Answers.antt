use Rattle.std.proofs.Common.{inl, inr, refl, sym, ◌∙◌}
use Rattle.binlog_undo_command.proofs.LaterFound.{nil_of, not_nil}
use Rattle.binlog_undo_command.proofs.later_logs.accept.Goals as goal

pub returns-then-is_skipped-clause-ok : goal.returns-then-is_skipped-clause-ok
returns-then-is_skipped-clause-ok g c = inr (sym c.skips_later-is_skipped.ensures ∙ c.if-is_skipped.true)

pub returns-then-is_empty-clause-ok : goal.returns-then-is_empty-clause-ok
returns-then-is_empty-clause-ok g c = inl (nil_of c.args.found.now (sym c.if-is_empty.ensures))

pub returns-clause-refused : goal.returns-clause-refused
returns-clause-refused g c = (refl, not_nil c.args.found.now (sym c.if-is_empty.ensures), sym c.skips_later-is_skipped.ensures ∙ c.if-is_skipped.false)
