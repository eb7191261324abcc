use Rattle.std.proofs.Common.{◌≡◌, true, false, sym, ◌∙◌, rules}
use Rattle.binlog_columns.specs.TableColumns.{columns_of}
use Rattle.binlog_undo.proofs.FullRows.{full_undone}
use Rattle.binlog_undo.proofs.undone_rows.can_exchange.Goals as goal

pub returns : goal.returns
returns c =
    let can : c.exchanges.result ≡ true = search rules in
    let is_whole : c.is_partial.result ≡ false = search rules in
    λ is. full_undone (columns_of c.args.columns) c.args.key.now _ _ c.args.event.now c.in-Ok.rows c.in-Some.full c.rest_data-bytes.result.now
    c.columns_before_image-before.ensures.image c.columns_after_image-after.ensures.image c.in-Ok.ensures (sym c.is_partial.ensures ∙ is_whole) (sym c.exchanges.ensures ∙ can)
    c.in-Some.ensures c.rest_data-bytes.ensures c.are_bytes.ensures (c.are_rows.ensures is)
