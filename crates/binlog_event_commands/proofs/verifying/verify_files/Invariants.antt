use Rattle.std.proofs.Common.{drop}
use Rattle.binlog_cli.specs.declared.exit_status.Outcome.{Outcome}
use Rattle.binlog_cli.specs.declared.exit_status.Status.TheVariants.{Fine}
use Rattle.binlog_event_commands.specs.Verifying.{Verifying, verifying, VerifiesFrom}
use Rattle.binlog_event_commands.proofs.verifying.verify_files.Given as goal

-- Whatever is made of the files that are left, with those so far it is what is made of all.
abbrev pub invariant-loop-place : goal.invariant-loop-place
invariant-loop-place g l = (result : Outcome) (new : Verifying)
    → VerifiesFrom l.reading.is_verified l.reading.is_followed l.is_quiet (λ name. name.now) (λ name. g.S.Inputs.bytes l.inputs name.now) l.asked l.place (drop l.place l.files) l.status (verifying l.reported (g.W.Write.contents l.output)) result new
    → VerifiesFrom l.reading.is_verified l.reading.is_followed l.is_quiet (λ name. name.now) (λ name. g.S.Inputs.bytes l.inputs name.now) l.asked 0 l.files Fine (verifying l.fn.reported (g.W.Write.contents l.fn.output)) result new
