use Rattle.std.proofs.lemmas.Result.{IfOk-weaker}
use Rattle.binlog_undo_command.proofs.writing.begin_log.Goals as goal

pub returns : goal.returns
returns g c =
    IfOk-weaker c.begin_one-begun.result _ _
    (λ commit begins. record { frames = c.in_ok-frames.frames; are = c.in_ok-frames.ensures; begins = begins })
    c.begin_one-begun.ensures
