use Rattle.std.proofs.Common.{◌∙◌, refl, inl}
use Rattle.std.proofs.lemmas.Result.{err_from_is_err_and}
use Rattle.binlog_event_commands.proofs.commands.json.Goals as goal

pub returns-clause-ok : goal.returns-clause-ok
returns-clause-ok g c = record {
  filter = c.in_ok-outcome.ensures.ok.0;
  states = c.in_ok-outcome.ensures.ok.1;
  start = c.new-spliced.result;
  begins = record {
    has = rw (c.new-spliced.ensures.visitor, c.new-noted.ensures, c.new-taken.ensures.visitor, c.new-lines.ensures.output) c.in_ok-output.ensures.bytes;
    fine = rw (c.new-spliced.ensures.visitor, c.new-noted.ensures, c.new-taken.ensures.visitor, c.new-lines.ensures.output) c.in_ok-output.ensures.fine;
  };
  made = (
    c.new-spliced.ensures.limit,
    rw (c.new-spliced.ensures.visitor, c.new-noted.ensures) refl,
    (c.in_ok-asked.asked, c.in_ok-asked.ensures.ok, rw (c.new-spliced.ensures.visitor, c.new-noted.ensures) (c.new-taken.ensures.tables ∙ c.take-tables.ensures.value)),
    rw (c.new-spliced.ensures.visitor, c.new-noted.ensures, c.new-taken.ensures.visitor, c.new-lines.ensures.options) refl,
    rw (c.new-spliced.ensures.visitor, c.new-noted.ensures, c.new-taken.ensures.visitor, c.new-lines.ensures.options) c.in_ok-files.ensures.ok,
    rw (c.new-spliced.ensures.visitor, c.new-noted.ensures, c.new-taken.ensures.visitor, c.new-lines.ensures.output) (c.in_ok-output.ensures.capacity ∙ c.output_capacity-capacity.ensures),
  );
  outcome = c.in_ok-outcome.outcome;
  behind = c.in_ok-outcome.spliced;
  shown = c.in_ok-outcome.ensures.ok.2;
  ends = rw c.into_output.ensures at c.finish.ensures;
}

pub returns-in_err-outcome-clause-err : goal.returns-in_err-outcome-clause-err
returns-in_err-outcome-clause-err g c =
    let p = err_from_is_err_and c.from_residual-in_err-outcome.result c.from_residual-in_err-outcome.ensures.1 in
    rw (p.1, p.2) (inl c.in_err-outcome.ensures.err)
