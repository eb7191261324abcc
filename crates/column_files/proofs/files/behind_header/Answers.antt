use Rattle.column_files.proofs.Headers.{stripped}
use Rattle.column_files.specs.Files.{header}
use Rattle.column_files.proofs.files.behind_header.Goals as goal

pub returns-clause-some : goal.returns-clause-some
unfolding header
returns-clause-some c = stripped c.args.text.now header c.strip_prefix.result c.strip_prefix.ensures.cases
