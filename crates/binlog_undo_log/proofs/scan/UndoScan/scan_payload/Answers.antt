use Rattle.std.proofs.Common.{◌≡◌, ◌∙◌, inl, inr, ap, sym, subst}
use Rattle.binlog_events.specs.EventRefs.{view_of}
use Rattle.binlog_file.specs.State.{state_of}
use Rattle.binlog_payloads.specs.Contents.{content_of}
use Rattle.binlog_payloads.specs.Events.{payload_of}
use Rattle.binlog_undo_log.proofs.Contents.{is_damaged, content_scanned, refused_content}
use Rattle.binlog_undo_log.proofs.Looked.{on_ok}
use Rattle.binlog_undo_log.specs.Compressed.{most_bytes}
use Rattle.binlog_undo_log.specs.declared.scan.content.Lack.TheVariants as lacks
use Rattle.binlog_undo_log.proofs.scan.UndoScan.scan_payload.Goals as goal

pub scan_whole-requires : goal.scan_whole-requires
scan_whole-requires c = inr (inl cc)

pub returns-in-Ok-clause-ok : goal.returns-in-Ok-clause-ok
returns-in-Ok-clause-ok c =
    content_scanned c.scan_content.result (state_of c.args.reader.now).table_maps c.args.index (view_of c.args.event.now) (payload_of c.args.payload.now) c.in-Ok.content.items c.deref.result.now c.args.self.now c.scan_content.new.self
    (cc) c.requires c.in-Ok.ensures.found c.deref.ensures.value c.scan_content.ensures.ok

pub returns-in-Damaged-clause-ok : goal.returns-in-Damaged-clause-ok
returns-in-Damaged-clause-ok c =
    let lacks_it = sym c.lack_of.ensures ∙ c.in-Damaged.is in
    let none = refused_content c.in-Err.error lacks.Damaged (content_of most_bytes (payload_of c.args.payload.now)) lacks_it is_damaged c.in-Err.ensures.none in
    on_ok c.stop.result (λ h. inr (inr (inr (payload_of c.args.payload.now, c.in-Err.error, c.requires, lacks_it, none), h))) c.stop.ensures.ok
