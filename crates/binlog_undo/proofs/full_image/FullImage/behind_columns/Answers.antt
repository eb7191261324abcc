use Rattle.std.proofs.Common.{ap, rules}
use Rattle.binlog_columns.specs.TableColumns.{columns_of}
use Rattle.binlog_rows.specs.Images.{bitmap_of}
use Rattle.binlog_undo.proofs.FullImages.{all_remain, others_remain, none_remain}
use Rattle.binlog_undo.proofs.full_image.FullImage.behind_columns.Goals as goal

pub loop-column-init : goal.loop-column-init
loop-column-init c = record {
  can = search rules;
  finite = search rules;
  remains = all_remain (columns_of c.args.self.now.columns) (columns_of c.into_iter-column-iterator.result) (bitmap_of c.args.self.now.present) (bitmap_of c.args.nulls) c.args.bytes.now
      c.null_word-word.result (ap columns_of c.into_iter-column-iterator.ensures.into_iter_gives) c.null_word-word.ensures;
}

pub loop-column-preserved : goal.loop-column-preserved
loop-column-preserved c = record {
  can = search rules;
  finite = search rules;
  remains = others_remain _ _ _ _ _ _ _ _ _ _ c.loop-column.invariant.remains c.args.self.now.all_present c.args.self.now.bit_each c.requires c.in-Some.ensures.steps c.in_ok-rest.ensures;
}

pub returns : goal.returns
returns c = none_remain _ _ _ _ _ _ _ c.loop-column.invariant.remains (search rules)
