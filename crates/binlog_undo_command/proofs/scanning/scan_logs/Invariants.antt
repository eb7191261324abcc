use Rattle.std.proofs.Common.{◌≡◌, length, map, take}
use Rattle.clap.specs.Matches.{found_of}
use Rattle.binlog_cli.specs.declared.exit_status.Status.TheVariants.{Fine, Damaged, Usage}
use Rattle.binlog_undo_command.specs.Options.{RefusesOptions}
use Rattle.binlog_undo_command.specs.Scanned.{AreUndoneFrom, HasRefusedFrom}
use Rattle.binlog_undo_command.proofs.scanning.scan_logs.Given as goal

-- Of the logs of the names so far.
abbrev pub invariant-loop-name : goal.invariant-loop-name
invariant-loop-name g l = record {
  at : l.index ≡ l.name-index;
  undone : l.worst ≡ Fine → AreUndoneFrom (g.L.Logs.bytes l.logs) (found_of l.options) (length l.names) 0 (map (λ name. name.now) (take l.name-index l.names)) l.scanned.items;
  refused : l.worst ≡ Damaged → HasRefusedFrom (g.L.Logs.bytes l.logs) (found_of l.options) (length l.names) 0 (map (λ name. name.now) (take l.name-index l.names));
  usage : l.worst ≡ Usage → RefusesOptions (found_of l.options) Usage;
}
