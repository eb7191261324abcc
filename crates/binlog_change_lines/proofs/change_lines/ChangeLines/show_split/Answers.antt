use Rattle.binlog_change_lines.specs.RowsHeads.{head_in}
use Rattle.binlog_change_lines.proofs.Events.{row_refused}
use Rattle.binlog_change_lines.proofs.change_lines.ChangeLines.show_split.Goals as goal

pub returns : goal.returns
returns c =
    let head = c.args.head.now in
    row_refused head.body.now head.table_map.now (head_in head c.in_ok-facts.facts.refusal) c.in_ok-facts.facts.columns.items c.args.rows c.in_ok-write_rows.field-0 _ c.requires.rows c.if-branch.false
    (c.in_ok-write_rows.ensures c.requires.bytes)
