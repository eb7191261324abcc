use Rattle.std.specs.Prelude.{⊤}
use Rattle.std.proofs.Common.{◌≡◌, ℕ, List, Err, sym, ap, subst, ◌∙◌}
use Rattle.std.proofs.lemmas.Result.{err_from_is_err_and}
use Rattle.binlog_wire.specs.Fields.{meant}
use Rattle.binlog_variable_fields.specs.Laws.Refusing.{refused_as}
use Rattle.binlog_gtids.specs.declared.tagged_fields.TaggedFields.{TaggedFields}
use Rattle.binlog_gtids.specs.Tagged.{fields}
use Rattle.binlog_gtids.specs.Formats.{tagged}
use Rattle.binlog_gtids.specs.Taking.{event_known}
use Rattle.binlog_gtids.specs.TaggedReading.{payload_at}
use Rattle.binlog_gtids.specs.Laws.TaggedReading.{tagged_refused, fields_refused, tagged_known, gives_known}
use Rattle.binlog_gtids.proofs.tagged.read_tagged.Goals as goal

pub returns-in_err-last_id : goal.returns-in_err-last_id
returns-in_err-last_id c =
    let s = c.args.buf.now in
    let p = err_from_is_err_and c.from_residual.result c.from_residual.ensures.1 in
    rw (p.1, p.2) (refused_as ⊥ ⊤ (λ x. absurd x) _ (payload_at s) (tagged.reads s) (tagged_refused s) c.in_err-last_id.ensures)

pub returns-in_err-fields : goal.returns-in_err-fields
returns-in_err-fields c =
    let s : List ℕ = c.args.buf.now in
    let m : List ℕ = c.read_payload.new.buf in
    let body : List ℕ = c.in_ok-last_id.body.now in
    let found = c.in_ok-last_id.ensures in
    let p = err_from_is_err_and c.from_residual-in_err-fields.result c.from_residual-in_err-fields.ensures.1 in
    rw (p.1, p.2)
    (refused_as ⊥ ⊤ (λ x. absurd x) _ ((fields c.in_ok-last_id.last_id).reads body) (tagged.reads s)
    (λ d e. fields_refused s body m found.0 d found.1 (subst (λ (last : ℕ). (fields last).reads body ≡ Err d) (sym found.2) e))
    c.in_err-fields.ensures)

pub returns : goal.returns
returns c =
    let s : List ℕ = c.args.buf.now in
    let m : List ℕ = c.read_payload.new.buf in
    let body : List ℕ = c.in_ok-last_id.body.now in
    let found = c.in_ok-last_id.ensures in
    let known = c.in_ok-fields.ensures in
    gives_known (tagged.reads s) (event_known c.in_ok-fields.fields) m c.event_of.result
    (tagged_known s body m found.0 known.0 found.1 (rw (found.2) known.1) ∙ ap (λ (f : TaggedFields). meant (event_known f) m) (sym known.2))
    c.event_of.ensures
