use Rattle.binlog_rows.specs.Laws.TableMapRefusals.{refused_numbers, refused_else}
use Rattle.binlog_rows.proofs.laws.refused_table_maps.Goals as goal

pub returns-clause-numbers : goal.returns-clause-numbers
returns-clause-numbers c = refused_numbers

pub returns-clause-others : goal.returns-clause-others
returns-clause-others c = refused_else
