use Rattle.std.proofs.Common.{◌≡◌, ◌+◌, arith, inl, inr, ◌∙◌, ap, length}
use Rattle.clap.specs.Matches.{found_of}
use Rattle.binlog_cli.specs.declared.exit_status.Status.TheVariants.{Damaged, Usage}
use Rattle.binlog_undo_command.proofs.Scans.{undone_next, refused_next, refused_here, not_fine, which_is}
use Rattle.binlog_undo_command.specs.LogPlaces.{place_at}
use Rattle.binlog_undo_command.proofs.scanning.scan_logs.Goals as goal
use Rattle.binlog_undo_command.proofs.scanning.scan_logs.Goals.{in-Ok+else-is_err, in-Err}

pub loop-name-preserved : goal.loop-name-preserved
loop-name-preserved g c =
    let bytes = g.L.Logs.bytes c.args.logs.now in
    let found = found_of c.args.options.now in
    let place : c.at-place.result ≡ place_at (length c.args.names.now) c.loop-name.name-index =
    c.at-place.ensures ∙ ap (place_at (length c.args.names.now)) c.loop-name.invariant.at in
    elim c.match-scan_log.branch [
      | in-Ok+else-is_err w ↦ rw (w.scanned-is, w.worst-is) (record {
        at = omega (arith, c.loop-name.invariant.at);
        undone = λ fine. undone_next bytes found c.args.names.now c.loop-name.name-index _ c.loop-name.scanned.items w.push.new.self.items w.in-Ok.scan c.at-place.result c.loop-name-test.true place
            (c.loop-name.invariant.undone fine) w.in-Ok.ensures.ok (rw (w.is_err.ensures.negation, w.if-is_err.false) at w.push.ensures.items);
        refused = λ damaged. refused_next bytes found c.args.names.now c.loop-name.name-index c.loop-name-test.true (c.loop-name.invariant.refused damaged);
        usage = c.loop-name.invariant.usage;
      })
      | in-Err w ↦ rw (w.scanned-is, w.worst-is) (record {
        at = omega (arith, c.loop-name.invariant.at);
        undone = λ fine. elim (not_fine c.loop-name.worst w.in-Err.status w.in-Err.ensures.err (rw w.worse-worst.ensures at fine)) [ ];
        refused = λ damaged. elim (which_is c.loop-name.worst w.in-Err.status Damaged (rw w.worse-worst.ensures at damaged)) [
          | inl is ↦ refused_next bytes found c.args.names.now c.loop-name.name-index c.loop-name-test.true (c.loop-name.invariant.refused is)
          | inr is ↦ refused_here bytes found c.args.names.now c.loop-name.name-index _ c.at-place.result c.loop-name-test.true place
              (w.in-Err.ensures.refused is)
        ];
        usage = λ usage. elim (which_is c.loop-name.worst w.in-Err.status Usage (rw w.worse-worst.ensures at usage)) [
          | inl is ↦ c.loop-name.invariant.usage is
          | inr is ↦ w.in-Err.ensures.usage is
        ];
      })
    ]

pub returns-in-Err-Usage-clause-usage : goal.returns-in-Err-Usage-clause-usage
returns-in-Err-Usage-clause-usage g c = λ usage. c.in-Err-Usage.ensures.usage c.in-Err-Usage.field-0-is
