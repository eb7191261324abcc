use Rattle.binlog_undo_command.proofs.options.rules_in.Goals as goal

pub returns : goal.returns
returns c = record { skipped = c.skips_in.ensures; checks = c.flag.ensures }
