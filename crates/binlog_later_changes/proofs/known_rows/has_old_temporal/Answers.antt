use Rattle.std.proofs.Common.{ap, subst, sym, ◌∙◌, Bool, IsTrue, take}
use Rattle.std.specs.Prelude.{◌↔◌, ◌&&◌}
use Rattle.std.specs.List.{list_any}
use Rattle.binlog_event_format.specs.declared.format_description.FormatDescriptionEvent.{FormatDescriptionEvent}
use Rattle.binlog_mariadb.specs.Flavour.{IsMariaVersion}
use Rattle.binlog_later_changes.specs.KnownRows.{is_old_temporal}
use Rattle.binlog_later_changes.proofs.known_rows.has_old_temporal.Goals as goal

pub returns-then-is_maria_log : goal.returns-then-is_maria_log
returns-then-is_maria_log c = (
  c.is_maria_log.result,
  subst (λ (d : FormatDescriptionEvent). IsTrue c.is_maria_log.result ↔ IsMariaVersion (take 50 d.server_version)) c.fde.ensures c.is_maria_log.ensures,
  c.has_old_type.ensures ∙ sym (ap (λ (b : Bool). b && list_any is_old_temporal c.args.types.now) c.if-is_maria_log.true),
)

pub returns-else-is_maria_log : goal.returns-else-is_maria_log
returns-else-is_maria_log c = (
  c.is_maria_log.result,
  subst (λ (d : FormatDescriptionEvent). IsTrue c.is_maria_log.result ↔ IsMariaVersion (take 50 d.server_version)) c.fde.ensures c.is_maria_log.ensures,
  c.if-is_maria_log.false ∙ sym (ap (λ (b : Bool). b && list_any is_old_temporal c.args.types.now) c.if-is_maria_log.false),
)
