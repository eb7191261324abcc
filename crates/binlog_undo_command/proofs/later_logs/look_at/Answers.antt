use Rattle.binlog_later_changes.specs.Places.{places_of}
use Rattle.binlog_undo_command.proofs.LaterFound.{if_ok, known_finds}
use Rattle.binlog_undo_command.proofs.later_logs.look_at.Goals as goal

pub returns-in-Ok-clause-ok : goal.returns-in-Ok-clause-ok
returns-in-Ok-clause-ok g c =
    if_ok c.look_at_open.result _ _
    (λ changes finds. known_finds (g.L.Logs.bytes c.args.logs.now c.args.name.now) (g.L.Opened.Read.remaining c.in-Ok.input) c.args.rules c.args.number (places_of c.args.undone) c.args.changes changes c.in-Ok.ensures finds)
    c.look_at_open.ensures.ok
