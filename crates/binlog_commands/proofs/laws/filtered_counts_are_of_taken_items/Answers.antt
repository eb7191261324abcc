use Rattle.binlog_commands.proofs.TakenCounts.{taken_counted}
use Rattle.binlog_commands.proofs.laws.filtered_counts_are_of_taken_items.Goals as goal

pub returns : goal.returns
returns c = taken_counted
