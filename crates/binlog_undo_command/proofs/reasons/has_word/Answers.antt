use Rattle.std.proofs.Common.{sym, ◌∙◌}
use Rattle.binlog_undo_command.proofs.Words.{among_at}
use Rattle.binlog_undo_command.proofs.reasons.has_word.Goals as goal

pub returns-then-eq : goal.returns-then-eq
returns-then-eq c = sym (among_at c.args.wanted.now c.args.words.now c.loop-word.word-index _ c.loop-word-test.true (sym c.eq.ensures ∙ c.if-eq.true))
