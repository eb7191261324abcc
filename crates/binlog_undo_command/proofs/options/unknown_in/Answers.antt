use Rattle.binlog_undo_command.proofs.Words.{unknown_at}
use Rattle.binlog_undo_command.proofs.options.unknown_in.Goals as goal

pub returns-then-not-is_skip_word-clause-some : goal.returns-then-not-is_skip_word-clause-some
returns-then-not-is_skip_word-clause-some c = λ same.
    unknown_at c.args.words.now c.loop-word.word-index _ c.loop-word-test.true (c.is_skip_word.ensures.unknown c.if-not-is_skip_word.true)
