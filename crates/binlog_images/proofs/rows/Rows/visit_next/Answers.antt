use Rattle.std.proofs.Common.{refl}
use Rattle.binlog_images.specs.RowsLeft.{row_shape}
use Rattle.binlog_images.proofs.Visited.{row_visited}
use Rattle.binlog_images.proofs.rows.Rows.visit_next.Goals as goal

pub returns-in-Ok : goal.returns-in-Ok
returns-in-Ok g c =
    let first = c.in-Ok.ensures.leaves in
    record {
      cells = first.value;
      first = first.is;
      row = refl;
      shape = refl;
      visited = row_visited g.T.ColumnVisitor.visits c.args.self.now.row (row_shape c.args.self.now) c.args.self.now.rest.now _ first.value _ _ first.is c.visit_first.ensures.visits;
    }
