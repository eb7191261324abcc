use Rattle.std.proofs.Common.{◌≡◌, ℕ, Bor, List, Option, None, inl, refl, ap, ◌∙◌}
use Rattle.std.specs.Prelude.{option_copied}
use Rattle.binlog_events.specs.EventRefs.{view_of}
use Rattle.binlog_file.specs.State.{state_of}
use Rattle.binlog_rows.specs.declared.rows_event_data.RowsEventData.{RowsEventData}
use Rattle.binlog_json_lines.specs.Lines.{map_of_event}
use Rattle.binlog_json_lines.specs.ReadRows.{map_of_rows}
use Rattle.binlog_change_lines.specs.declared.heads.EventPlace.{EventPlace}
use Rattle.binlog_json_lines.proofs.Answered.{map_ok, map_err}
use Rattle.binlog_change_lines.proofs.Shown.{placed}
use Rattle.binlog_change_lines.proofs.change_writer.ChangeWriter.visit_read.Goals as goal

abbrev place_at : Bor (List ℕ) → Option ℕ → Bor (List ℕ) → EventPlace
place_at file position gtid = record { file = file; position = position; part = None; gtid = gtid }

pub returns-clause-ok : goal.returns-clause-ok
returns-clause-ok g c =
    let maps = (state_of c.args.reader.now).table_maps in
    let map : option_copied c.table_map-table_map.result ≡ map_of_event maps (view_of c.args.event.now) =
    c.table_map-table_map.ensures ∙ ap (λ (rows : Option RowsEventData). map_of_rows maps rows) c.rows_read.ensures in
    let text = rw (map, placed (place_at c.as_str.result c.args.self.now.position c.as_str-2.result) _ _ c.as_str.ensures.value c.as_str-2.ensures.value) at c.in_ok-line.ensures.text in
    let notes = rw map at c.in_ok-note.ensures.noted in
    map_ok c.write_line.result c.write_line.ensures.ok
    (λ appended. (
      c.in_ok-line.line.contradiction,
      record { text = c.in_ok-line.line.text.now; is = text; written = rw c.new-output.ensures.value at appended },
      notes,
      record { options = refl; file = refl; position = refl; gtid = refl },
    ))

pub returns-clause-err : goal.returns-clause-err
returns-clause-err g c =
    let maps = (state_of c.args.reader.now).table_maps in
    let map : option_copied c.table_map-table_map.result ≡ map_of_event maps (view_of c.args.event.now) =
    c.table_map-table_map.ensures ∙ ap (λ (rows : Option RowsEventData). map_of_rows maps rows) c.rows_read.ensures in
    let text = rw (map, placed (place_at c.as_str.result c.args.self.now.position c.as_str-2.result) _ _ c.as_str.ensures.value c.as_str-2.ensures.value) at c.in_ok-line.ensures.text in
    map_err c.write_line.result c.write_line.ensures.front c.write_line.ensures.err
    (λ e front is. (
      inl (is, record { text = c.in_ok-line.line.text.now; contradiction = c.in_ok-line.line.contradiction; is = text; written = rw c.new-output.ensures.value at front }),
      record { options = refl; file = refl; position = refl; gtid = refl },
    ))
