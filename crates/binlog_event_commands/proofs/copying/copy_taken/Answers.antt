use Rattle.std.proofs.Common.{refl, rules}
use Rattle.binlog_event_commands.proofs.copying.copy_taken.Goals as goal

pub returns : goal.returns
returns g c = record {
  begun = record { output = c.write-header.new.output };
  header = search rules;
  copied = c.read_taken-copier.result.1;
  shown = c.read_taken-copier.ensures.shown;
  ends = refl;
}
