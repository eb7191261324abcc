use Rattle.std.proofs.Common.{◌∙◌, refl, inl}
use Rattle.std.proofs.lemmas.Result.{err_from_is_err_and}
use Rattle.binlog_event_commands.proofs.changes.changes.Goals as goal

pub returns-clause-ok : goal.returns-clause-ok
returns-clause-ok g c = record {
  filter = c.in_ok-filter.filter;
  states = c.in_ok-filter.ensures.ok;
  start = c.new-lines.result;
  filtered = c.new-lines.ensures.filter;
  begins = record {
    has = rw c.new-lines.ensures.output c.in_ok-output.ensures.bytes;
    fine = rw c.new-lines.ensures.output c.in_ok-output.ensures.fine;
  };
  made = (
    c.new-lines.ensures.limits.0,
    c.new-lines.ensures.limits.1,
    c.new-lines.ensures.undamaged,
    (c.in_ok-asked.asked, c.in_ok-asked.ensures.ok, c.new-lines.ensures.tables ∙ c.take-tables.ensures.value),
    rw c.new-lines.ensures.options refl,
    rw c.new-lines.ensures.options c.in_ok-files.ensures.ok,
    rw c.new-lines.ensures.output (c.in_ok-output.ensures.capacity ∙ c.output_capacity-capacity.ensures),
  );
  outcome = c.write_files-lines.result.0;
  behind = c.write_files-lines.result.1;
  changes = c.write_files-lines.ensures;
  ends = rw c.into_output.ensures at c.finish.ensures;
}

pub returns-in_err-asked-clause-err : goal.returns-in_err-asked-clause-err
returns-in_err-asked-clause-err g c =
    let p = err_from_is_err_and c.from_residual-in_err-asked.result c.from_residual-in_err-asked.ensures.1 in
    rw (p.1, p.2) (inl c.in_err-asked.ensures.err)

pub returns-in_err-filter-clause-err : goal.returns-in_err-filter-clause-err
returns-in_err-filter-clause-err g c =
    let p = err_from_is_err_and c.from_residual-in_err-filter.result c.from_residual-in_err-filter.ensures.1 in
    rw (p.1, p.2) (inl c.in_err-filter.ensures.err)
