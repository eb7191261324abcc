use Rattle.std.specs.Prelude.{Some}
use Rattle.binlog_json_values.proofs.DiffLists.{none_of_many, none_of_others, none_refused, none_textless}
use Rattle.binlog_json_values.proofs.laws.others_have_none_after.Goals as goal

pub returns-clause-many : goal.returns-clause-many
returns-clause-many c = λ before bytes many. none_of_many (Some before) bytes many

pub returns-clause-document : goal.returns-clause-document
returns-clause-document c = none_of_others

pub returns-clause-diffs : goal.returns-clause-diffs
returns-clause-diffs c = none_refused

pub returns-clause-text : goal.returns-clause-text
returns-clause-text c = none_textless
