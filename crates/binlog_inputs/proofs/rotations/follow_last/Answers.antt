use Rattle.std.proofs.Common.{ℕ, List, Bor, Ok, Err, false, refl, ap, ◌∙◌}
use Rattle.binlog_payload_filters.specs.declared.filtered.PayloadFiltered.{PayloadFiltered}
use Rattle.binlog_cli.specs.Outputs.{written}
use Rattle.binlog_inputs.specs.Positions.{positions_of}
use Rattle.binlog_inputs.specs.Reports.{ReportedView}
use Rattle.binlog_inputs.proofs.FollowedFiles.{then_followed, never_followed}
use Rattle.binlog_inputs.proofs.TakenFiles.{and_false}
use Rattle.binlog_inputs.proofs.rotations.follow_last.Goals as goal

pub returns-then-not-read-clause-read : goal.returns-then-not-read-clause-read
returns-then-not-read-clause-read g c = (
  c.read_files-read.new.visitor,
  never_followed g.T.Visitor.visits g.T.Visitor.refuses g.T.Refusing.refusals c.args.reading.is_verified (λ (name : Bor (List ℕ)). g.S.Inputs.bytes c.args.inputs.now name.now) (positions_of c.args.visitor.visitor.filtered.filter) c.args.last
      0 c.args.before.now _ c.args.visitor c.read_files-read.new.visitor c.read_files-read.result
      (rw (c.of_file-unfollowed.ensures, and_false c.args.reading.is_followed, c.in_file-unstopped.ensures, c.positions-asked.ensures) at c.read_files-read.ensures) c.if-not-read.true,
  c.into_visitor.ensures,
)

pub returns-in-Ok-default-clause-read : goal.returns-in-Ok-default-clause-read
returns-in-Ok-default-clause-read g c =
    let behind : ReportedView (PayloadFiltered g.row.T.Denot) = record { visitor = c.follow.result.1; has_errors = false; is_cut = false } in (
      behind,
      then_followed g.T.Visitor.visits g.T.Visitor.refuses g.T.Refusing.refusals c.args.reading.is_verified (λ (name : Bor (List ℕ)). g.S.Inputs.bytes c.args.inputs.now name.now) (positions_of c.args.visitor.visitor.filtered.filter) c.args.last
          0 c.args.before.now _ c.args.visitor c.read_files-read.new.visitor behind c.read_files-read.result c.written.result (Ok c.in-Ok-default.found)
          (rw (c.of_file-unfollowed.ensures, and_false c.args.reading.is_followed, c.in_file-unstopped.ensures, c.positions-asked.ensures) at c.read_files-read.ensures) c.if-not-read.false
          (c.written.ensures ∙ ap written c.worse.ensures, refl),
      refl,
    )

pub returns-in-Err-default-clause-read : goal.returns-in-Err-default-clause-read
returns-in-Err-default-clause-read g c =
    let behind : ReportedView (PayloadFiltered g.row.T.Denot) = record { visitor = c.follow.result.1; has_errors = false; is_cut = false } in (
      behind,
      then_followed g.T.Visitor.visits g.T.Visitor.refuses g.T.Refusing.refusals c.args.reading.is_verified (λ (name : Bor (List ℕ)). g.S.Inputs.bytes c.args.inputs.now name.now) (positions_of c.args.visitor.visitor.filtered.filter) c.args.last
          0 c.args.before.now _ c.args.visitor c.read_files-read.new.visitor behind c.read_files-read.result c.unwritten.result (Err c.in-Err-default.field-0-0)
          (rw (c.of_file-unfollowed.ensures, and_false c.args.reading.is_followed, c.in_file-unstopped.ensures, c.positions-asked.ensures) at c.read_files-read.ensures) c.if-not-read.false (c.unwritten.ensures, refl),
      refl,
    )
