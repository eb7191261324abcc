use Rattle.std.proofs.Common.{subst}
use Rattle.binlog_payload_filters.specs.declared.filtered.PayloadFiltered.{PayloadFiltered}
use Rattle.binlog_payload_visits.specs.declared.checked.Checked.{Checked}
use Rattle.binlog_commands.specs.declared.tally.Tally.{Tally}
use Rattle.binlog_inputs.specs.Reports.{ReportedView}
use Rattle.binlog_inputs.specs.Reading.{unless_followed, ReadsFile}
use Rattle.binlog_event_commands.specs.Verifying.{CountsChecked, CountsNot}
use Rattle.binlog_event_commands.proofs.verifying.verify_file.Goals as goal

pub returns-clause-verifies : goal.returns-clause-verifies
returns-clause-verifies g c = record {
  start = c.no_counts.result;
  none = c.no_counts.ensures;
  read = c.read_file-read.result;
  reads = subst (λ (v : ReportedView (PayloadFiltered (Checked Tally))). ReadsFile CountsChecked CountsNot (λ counts. counts.damaged) c.args.reading.is_verified
      (unless_followed c.args.reading.is_followed (g.S.Inputs.bytes c.args.inputs.now c.args.file.now)) v c.read_file-read.result c.read_file-read.new.visitor) c.replace_visitor.ensures c.read_file-read.ensures.reads;
  shown = c.shown_name-name.result.now;
  input = c.shown_name-name.ensures.input;
  file = c.shown_name-name.ensures.file;
  ends = rw (c.tally_of-tally.ensures, c.is_cut.ensures, c.visitor.ensures) at c.write_line.ensures.line;
}

pub returns-clause-err : goal.returns-clause-err
returns-clause-err g c = c.write_line.ensures.err c.read_file-read.ensures.err
