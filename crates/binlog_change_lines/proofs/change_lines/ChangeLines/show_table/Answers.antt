use Rattle.std.proofs.Common.{◌≡◌, List, Ok, Err, subst, ◌∙◌}
use Rattle.binlog_columns.specs.Metadata.{Typed}
use Rattle.binlog_columns.specs.TableColumns.{columns_of}
use Rattle.binlog_rows.specs.RowsData.{event_in}
use Rattle.binlog_images.proofs.Events.{of_map}
use Rattle.binlog_images.specs.Events.{mapped_columns}
use Rattle.binlog_images.specs.EventRows.{is_partial, GivesRowsOf}
use Rattle.binlog_change_lines.proofs.Events.{refused_event}
use Rattle.binlog_change_lines.proofs.change_lines.ChangeLines.show_table.Goals as goal

pub show_split-requires-clause-fits : goal.show_split-requires-clause-fits
show_split-requires-clause-fits c =
    let map = c.args.head.now.table_map.now in
    let body = c.args.head.now.body.now in
    let columns : columns_of c.known-columns.result ≡ mapped_columns map = c.known-columns.ensures ∙ c.requires.columns in
    let answer = rw c.in-Ok.is at c.rows_of_table.ensures in
    let given = of_map (is_partial body) map (event_in body) (Ok c.in-Ok.rows) c.requires.id c.requires.whole
    (subst (λ (l : List Typed). GivesRowsOf (is_partial body) l (event_in body) (Ok c.in-Ok.rows)) columns answer) in
    given.0

pub returns-in-Err : goal.returns-in-Err
returns-in-Err c =
    let map = c.args.head.now.table_map.now in
    let body = c.args.head.now.body.now in
    let columns : columns_of c.known-columns.result ≡ mapped_columns map = c.known-columns.ensures ∙ c.requires.columns in
    let answer = rw c.in-Err.is at c.rows_of_table.ensures in
    let given = of_map (is_partial body) map (event_in body) (Err c.in-Err.field-0) c.requires.id c.requires.whole
    (subst (λ (l : List Typed). GivesRowsOf (is_partial body) l (event_in body) (Err c.in-Err.field-0)) columns answer) in
    refused_event map body c.in-Err.field-0 given
