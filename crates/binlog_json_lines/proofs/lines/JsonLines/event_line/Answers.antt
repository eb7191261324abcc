use Rattle.std.proofs.Common.{◌≡◌, inr, ℕ, List, Result, Ok, Err, IfOk, refl}
use Rattle.binlog_event_format.specs.Headers.{header_of}
use Rattle.binlog_events.specs.Events.{EventView}
use Rattle.binlog_events.specs.EventRefs.{view_of}
use Rattle.binlog_mariadb.specs.EventTypes.{maria_event_type_of}
use Rattle.binlog_mariadb.specs.declared.event_type.MariaEventType.{MariaEventType}
use Rattle.binlog_mariadb.specs.declared.event_type.UnknownMariaEventType.{UnknownMariaEventType}
use Rattle.binlog_json_lines.specs.ItemLines.{item_line}
use Rattle.binlog_json_lines.specs.Lines.{IsOfMaria, IsEventLine, IsLine}
use Rattle.binlog_json_lines.proofs.lines.JsonLines.event_line.Goals as goal

-- The line of an event that isn't one of MariaDB's own.
other_line : (index : ℕ) (event : EventView) (found : Result MariaEventType UnknownMariaEventType) (text : List ℕ) → ((type : MariaEventType) → found ≡ Ok type → IsOfMaria event → ⊥)
    → text ≡ item_line index (Ok event) → IsEventLine index event found text
other_line index event (Ok type) text other is = inr ((λ maria. other type refl maria), is)
other_line index event (Err unknown) text other is = is

other_lines : {T E : Type 0} (result : Result T E) (seen : T → List ℕ) (index : ℕ) (event : EventView)
    → ((type : MariaEventType) → maria_event_type_of (header_of event.frame).event_type ≡ Ok type → IsOfMaria event → ⊥)
    → IfOk result (λ text. seen text ≡ item_line index (Ok event)) → IfOk result (λ text. IsLine index (Ok event) (seen text))
other_lines (Ok text) seen index event other is = other_line index event (maria_event_type_of (header_of event.frame).event_type) (seen text) other is
other_lines (Err e) seen index event other is = is

pub returns-in-None : goal.returns-in-None
returns-in-None c = record {
  line = other_lines c.other_line.result (λ text. text.now) c.args.index (view_of c.args.event.now) c.in-None.ensures c.other_line.ensures.line;
  memory = c.other_line.ensures.memory;
}
