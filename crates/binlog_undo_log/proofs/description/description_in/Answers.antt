use Rattle.std.proofs.Common.{◌∙◌, ℕ, List, [], Ok, sym, ap, subst, rules}
use Rattle.binlog_event_format.specs.DescriptionRefs.{description_of}
use Rattle.binlog_event_format.specs.FormatDescription.{format_description, IsFormatDescription}
use Rattle.binlog_event_format.specs.declared.footer.BinlogEventFooter.{BinlogEventFooter}
use Rattle.binlog_event_format.specs.declared.format_description.FormatDescriptionEvent.{FormatDescriptionEvent}
use Rattle.binlog_wire.specs.Reading.{Gives}
use Rattle.binlog_undo_log.proofs.description.description_in.Goals as goal

pub returns-then-is_writable : goal.returns-then-is_writable
returns-then-is_writable c =
    let body : FormatDescriptionEvent = description_of c.in-Ok.read in
    record {
      is = search rules;
      body = body;
      reads = subst (λ (s : List ℕ). Gives ⊥ [] (Ok body) (format_description.reads s)) c.data-data.ensures c.in-Ok.ensures;
      spelled = subst (λ (s : List ℕ). IsFormatDescription s body []) c.data-data.ensures (format_description.keeps.sound c.data-data.result.now (body, []) c.are_bytes.ensures c.in-Ok.ensures).0;
      footer = c.with_footer-fde.ensures ∙ ap (λ (f : BinlogEventFooter). record body { footer = f }) c.footer.ensures;
      writable = sym c.is_writable.ensures ∙ c.if-is_writable.true;
    }
