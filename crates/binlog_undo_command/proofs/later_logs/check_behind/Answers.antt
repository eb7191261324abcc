use Rattle.std.proofs.Common.{◌≡◌, ◌⊎◌, Bool, true, ℕ, Bor, List, [], map, codes, inl, inr, sym, ap, subst, ◌∙◌}
use Rattle.binlog_undo_command.specs.LaterLogs.{skips_later}
use Rattle.std.proofs.lemmas.Result.{on_ok_weaker}
use Rattle.clap.specs.Matches.{found_of, one_text}
use Rattle.binlog_later_changes.specs.Tables.{change_of}
use Rattle.binlog_undo_command.specs.Options.{StatesFlag}
use Rattle.binlog_undo_command.proofs.LaterFound.{behind_is, map_not_nil}
use Rattle.binlog_undo_command.proofs.LogsSoFar.{err_weaker}
use Rattle.binlog_undo_command.proofs.later_logs.check_behind.Goals as goal

pub returns-then-is_unasked-clause-ok : goal.returns-then-is_unasked-clause-ok
returns-then-is_unasked-clause-ok g c =
    let none = c.is_unasked.ensures c.if-is_unasked.true in
    inl (
      sym c.requires ∙ ap (map (λ (name : Bor (List ℕ)). name.now)) none.0,
      subst (λ (b : Bool). StatesFlag (one_text (found_of c.args.options.now) (codes "check-rows")) b) none.1 c.rules_in-rules.ensures.checks,
    )

pub returns-in-Ok-clause-ok : goal.returns-in-Ok-clause-ok
returns-in-Ok-clause-ok g c = on_ok_weaker c.accept.result
    (λ (is : (c.found.result.now ≡ []) ⊎ (skips_later (found_of c.args.options.now) ≡ true)). inr (record {
      changes = c.in-Ok.changes;
      looks = behind_is (g.L.Logs.bytes c.args.logs.now) (g.L.Logs.has_frames c.args.logs.now) g.L.Sought.Frames.is_at (found_of c.args.options.now) c.rules_in-rules.result c.args.scanned.now _ c.in-Ok.changes
          c.rules_in-rules.ensures c.requires c.in-Ok.ensures.ok;
      free = elim is [
        | inl none ↦ inl (sym c.found.ensures ∙ ap (map change_of) none)
        | inr skipped ↦ inr skipped
      ];
    })) c.accept.ensures.ok

pub returns-in-Ok-clause-refused : goal.returns-in-Ok-clause-refused
returns-in-Ok-clause-refused g c = err_weaker c.accept.result _ _
    (λ status is damaged. record {
      changes = c.in-Ok.changes;
      looks = behind_is (g.L.Logs.bytes c.args.logs.now) (g.L.Logs.has_frames c.args.logs.now) g.L.Sought.Frames.is_at (found_of c.args.options.now) c.rules_in-rules.result c.args.scanned.now _ c.in-Ok.changes
          c.rules_in-rules.ensures c.requires c.in-Ok.ensures.ok;
      some = λ none. map_not_nil c.found.result.now is.1 (c.found.ensures ∙ none);
      refused = is.2;
    }) c.accept.ensures.refused

pub returns-in-Ok-clause-err : goal.returns-in-Ok-clause-err
returns-in-Ok-clause-err g c = err_weaker c.accept.result _ _ (λ status is. inl is.0) c.accept.ensures.refused
