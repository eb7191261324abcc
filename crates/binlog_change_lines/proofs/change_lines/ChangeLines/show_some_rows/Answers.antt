use Rattle.std.proofs.Common.{◌≡◌, ◌↔◌, ℕ, Bor, take, rules, subst}
use Rattle.binlog_rows.specs.declared.rows_event_data.RowsEventData.{RowsEventData}
use Rattle.binlog_rows.specs.declared.table_map_event.TableMapEvent.{TableMapEvent}
use Rattle.binlog_change_lines.specs.declared.heads.EventPlace.{EventPlace}
use Rattle.binlog_change_lines.specs.declared.row_lines.RowsHead.{RowsHead}
use Rattle.std.specs.Prelude.{IsTrue}
use Rattle.binlog_event_format.specs.Headers.{header_of}
use Rattle.binlog_event_format.specs.declared.format_description.FormatDescriptionEvent.{FormatDescriptionEvent}
use Rattle.binlog_events.specs.EventRefs.{view_of}
use Rattle.binlog_mariadb.specs.Flavour.{IsMariaVersion}
use Rattle.binlog_json_lines.specs.RowMembers.{IsFlavour}
use Rattle.binlog_change_lines.proofs.Shown.{mapped_rows}
use Rattle.binlog_change_lines.proofs.change_lines.ChangeLines.show_some_rows.Goals as goal

-- What the rows of the event have in common.
abbrev head_of : Bor EventPlace → ℕ → Bor TableMapEvent → Bor RowsEventData → RowsHead
head_of place time map body = record { place = place; time = time; table_map = map; body = body }

pub returns : goal.returns
returns c =
    let event = view_of c.args.event.now in
    let time : c.timestamp.result ≡ (header_of event.frame).timestamp = search rules in
    let flavour : IsFlavour event c.is_maria_log.result =
    subst (λ (d : FormatDescriptionEvent). IsTrue c.is_maria_log.result ↔ IsMariaVersion (take 50 d.server_version)) c.fde.ensures c.is_maria_log.ensures in
    rw c.in-Some.is (mapped_rows c.show_mapped.result c.args.files.now (head_of c.args.place c.timestamp.result c.in-Some.table_map c.args.body) event c.is_maria_log.result _ flavour time c.show_mapped.ensures)
