use Rattle.std.proofs.Common.{◌≡◌, ℕ, List, Err, sym, subst, ◌∙◌, ne_eqb}
use Rattle.std.proofs.lemmas.Result.{err_from_is_err_and}
use Rattle.binlog_wire.specs.Reading.{Read}
use Rattle.binlog_variable_fields.specs.Laws.Refusing.{refused_as}
use Rattle.binlog_gtids.specs.declared.gtid_event.GtidEvent.{GtidEvent}
use Rattle.binlog_gtids.specs.Gtids.{gtid}
use Rattle.binlog_gtids.specs.Laws.Gtids.{gtid_untagged}
use Rattle.binlog_gtids.specs.Formats.{untagged}
use Rattle.binlog_gtids.proofs.gtid_event.GtidEventMyDeserialize.deserialize.Goals as goal

pub returns-in_err-event-2 : goal.returns-in_err-event-2
returns-in_err-event-2 c =
    let raw : ℕ = c.args.ctx.event_type_raw in
    let s : List ℕ = c.args.buf.now in
    let is = gtid_untagged raw (ne_eqb raw 42 c.if-ctx-eq42.false) (sym c.is_untagged_type.ensures ∙ c.if-is_untagged_type.true) in
    let p = err_from_is_err_and c.from_residual-in_err-event-2.result c.from_residual-in_err-event-2.ensures.1 in
    rw (p.1, p.2)
    (refused_as ⊥ (raw ≡ 42) (λ x. absurd x) _ (untagged.reads s) ((gtid raw).reads s)
    (λ d f. subst (λ (reads : List ℕ → Read GtidEvent). reads s ≡ Err d) (sym is) f) c.in_err-event-2.ensures)
