use Rattle.std.proofs.Common.{◌∙◌, ℕ, ◌+◌, min, Bool, List, length, ap, subst}
use Rattle.binlog_undo_log.specs.Scanning.{DescribesIf}
use Rattle.binlog_undo_log.specs.declared.scan.UndoScan.{UndoScan}
use Rattle.binlog_undo_log.proofs.scan.UndoScan.note.Goals as goal

pub returns-clause-ok : goal.returns-clause-ok
returns-clause-ok c =
    let between : UndoScan = c.describe_if.new.self in
    record {
      told = c.note.new.self;
      notes = record { parts = c.in_ok-note.ensures.parts; automaton = c.in_ok-note.ensures.automaton };
      between = between;
      describes = subst (λ (is : Bool). DescribesIf is c.args.index (record c.args.self.now { index = c.note.new.self }) between) c.is_description.ensures c.in_ok-describe_if.ensures.ok;
      is = ap (λ (p : ℕ). let s : UndoScan = record between { place = p; items = c.saturating_add-self.result } in s) c.place_behind-self.ensures
          ∙ ap (λ (i : ℕ). let s : UndoScan = record between { place = min (between.place + length c.args.event.now.frame.now) 18446744073709551615; items = i } in s) c.saturating_add-self.ensures;
    }
