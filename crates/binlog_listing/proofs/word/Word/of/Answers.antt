use Rattle.std.proofs.Common.{rules}
use Rattle.binlog_listing.proofs.Words.{read_word, unknown_word, refused_word, no_memory}
use Rattle.binlog_listing.proofs.word.Word.of.Goals as goal

pub returns-then-is_environment_error-clause-memory : goal.returns-then-is_environment_error-clause-memory
returns-then-is_environment_error-clause-memory c = no_memory _ _ c.in-Err.error (search rules) (search rules) c.check_data.ensures

pub returns-in-Ok-true-clause-ok : goal.returns-in-Ok-true-clause-ok
returns-in-Ok-true-clause-ok c = read_word _ _ (search rules) c.check_data.ensures

pub returns-in-Ok-false-clause-ok : goal.returns-in-Ok-false-clause-ok
returns-in-Ok-false-clause-ok c = unknown_word _ _ (search rules) c.check_data.ensures

pub returns-else-is_environment_error-clause-ok : goal.returns-else-is_environment_error-clause-ok
returns-else-is_environment_error-clause-ok c = refused_word _ _ c.in-Err.error (search rules) (search rules) c.check_data.ensures
