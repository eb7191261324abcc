use Rattle.binlog_images.proofs.Splits.{given_are_rows, some_way, one_way}
use Rattle.binlog_images.proofs.laws.rows_are_split.Goals as goal

pub returns : goal.returns
returns c = record {
  given = λ rows items bytes h. given_are_rows rows items bytes h;
  some_way = λ shape index s bytes. some_way shape index s bytes;
  one_way = λ shape index s xs ys p q. one_way xs ys shape index s p q;
}
