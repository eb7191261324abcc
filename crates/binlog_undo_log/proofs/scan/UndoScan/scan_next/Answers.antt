use Rattle.std.proofs.Common.{◌≡◌, Option, Some, Ok, sym, ◌∙◌, subst, refl}
use Rattle.std.specs.Arc.{arc_value}
use Rattle.binlog_events.specs.EventRefs.{view_of}
use Rattle.binlog_file.specs.State.{state_of}
use Rattle.binlog_payloads.specs.Decompressed.{ReadsContent}
use Rattle.binlog_events.specs.Events.{EventView}
use Rattle.binlog_undo_log.proofs.Contents.{is_damaged, is_long, next_lacks, next_scanned}
use Rattle.binlog_undo_log.specs.declared.scan.content.Lack.TheVariants as lacks
use Rattle.binlog_undo_log.proofs.scan.UndoScan.scan_next.Goals as goal

pub returns-in-Ok-Some-clause-ok : goal.returns-in-Ok-Some-clause-ok
returns-in-Ok-Some-clause-ok c =
    next_scanned c.scan_inside.result c.args.span c.args.index (arc_value c.args.fde.now) (state_of c.args.reader.now) (state_of c.read_decompressed.new.reader) (view_of c.as_ref.result)
    c.args.left.now.now c.read_decompressed.new.content.now c.args.self.now c.scan_inside.new.self
    (subst (λ (e : EventView). ReadsContent (arc_value c.args.fde.now) (state_of c.args.reader.now) (state_of c.read_decompressed.new.reader) (Ok (Some e)) c.args.left.now.now c.read_decompressed.new.content.now)
    (sym c.as_ref.ensures)
    (subst (λ (o : Option EventView). ReadsContent (arc_value c.args.fde.now) (state_of c.args.reader.now) (state_of c.read_decompressed.new.reader) (Ok o) c.args.left.now.now c.read_decompressed.new.content.now)
    c.in-Ok-Some.field-0-is c.in-Ok-Some.ensures))
    c.scan_inside.ensures.ok

pub returns-in-Damaged-clause-ok : goal.returns-in-Damaged-clause-ok
returns-in-Damaged-clause-ok c = (
  next_lacks (arc_value c.args.fde.now) (state_of c.args.reader.now) (state_of c.read_decompressed.new.reader) c.args.index c.args.left.now.now c.read_decompressed.new.content.now c.args.self.now
      c.in-Err.error lacks.Damaged (sym c.lack_of.ensures ∙ c.in-Damaged.is) is_damaged c.in-Err.ensures,
  refl,
)

pub returns-in-TooLong-clause-ok : goal.returns-in-TooLong-clause-ok
returns-in-TooLong-clause-ok c = (
  next_lacks (arc_value c.args.fde.now) (state_of c.args.reader.now) (state_of c.read_decompressed.new.reader) c.args.index c.args.left.now.now c.read_decompressed.new.content.now c.args.self.now
      c.in-Err.error lacks.TooLong (sym c.lack_of.ensures ∙ c.in-TooLong.is) is_long c.in-Err.ensures,
  refl,
)
