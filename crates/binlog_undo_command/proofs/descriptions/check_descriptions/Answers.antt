use Rattle.std.proofs.Common.{◌⊎◌, inl, ap, false, []}
use Rattle.std.proofs.lemmas.List.Elements.{All-weaker}
use Rattle.std.proofs.lemmas.Result.{on_ok_weaker}
use Rattle.std.specs.List.{All}
use Rattle.std.specs.Prelude.{is_some}
use Rattle.binlog_undo_command.specs.Descriptions.{HasNone, IsUnder}
use Rattle.binlog_undo_command.specs.declared.scanning.ScannedLog.{ScannedLog}
use Rattle.binlog_undo_command.proofs.LogsSoFar.{err_weaker}
use Rattle.binlog_undo_command.proofs.descriptions.check_descriptions.Goals as goal

-- No log is under any description.
pub returns-in-None-clause-ok : goal.returns-in-None-clause-ok
returns-in-None-clause-ok g c = record {
  body = [];
  has_checksums = false;
  under = All-weaker HasNone (λ (log : ScannedLog). HasNone log ⊎ IsUnder (g.L.Logs.has_frames c.args.logs.now) g.L.Sought.Frames.is_at [] false log) (λ log none. inl none) c.args.scanned.now
      (c.in_ok-first.ensures.none (ap is_some c.in-None.is));
}

pub returns-in-Some-clause-ok : goal.returns-in-Some-clause-ok
returns-in-Some-clause-ok g c =
    on_ok_weaker c.check_against.result
    (λ (under : All (λ (log : ScannedLog). HasNone log ⊎ IsUnder (g.L.Logs.has_frames c.args.logs.now) g.L.Sought.Frames.is_at c.in-Some.first.body.items c.in-Some.first.has_checksums log) c.args.scanned.now).
    record { body = c.in-Some.first.body.items; has_checksums = c.in-Some.first.has_checksums; under = under })
    c.check_against.ensures.ok

pub returns-in-Some-clause-differ : goal.returns-in-Some-clause-differ
returns-in-Some-clause-differ g c =
    err_weaker c.check_against.result _ _
    (λ status differ. λ damaged. record {
      body = c.in-Some.first.body.items;
      has_checksums = c.in-Some.first.has_checksums;
      one = rw c.in-Some.is at c.in_ok-first.ensures.some;
      other = differ damaged;
    })
    c.check_against.ensures.differ
