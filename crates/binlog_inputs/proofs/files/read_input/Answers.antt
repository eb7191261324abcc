use Rattle.binlog_inputs.specs.Reading.{unless_followed}
use Rattle.binlog_inputs.proofs.TakenFiles.{reads_input}
use Rattle.binlog_inputs.proofs.files.read_input.Goals as goal

pub returns-clause-reads : goal.returns-clause-reads
returns-clause-reads g c =
    reads_input g.T.Visitor.visits g.T.Visitor.refuses g.T.Refusing.refusals c.args.reading.is_verified (unless_followed c.args.reading.is_followed (g.I.Read.remaining c.args.input))
    c.args.visitor.now c.visit_input-visited.new.visitor c.end.new.self c.visit_input-visited.result c.status_behind.result
    (rw (c.new-input.ensures.followed, c.new-input.ensures.inner) at c.visit_input-visited.ensures) (rw c.tail_behind.ensures at c.end.ensures) (rw c.has_errors.ensures at c.status_behind.ensures.status)
