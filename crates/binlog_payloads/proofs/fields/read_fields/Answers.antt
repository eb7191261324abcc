use Rattle.std.proofs.Common.{◌≡◌, ℕ, suc, ◌+◌, ◌-◌, length, sym, ap, ◌∙◌, arith}
use Rattle.std.proofs.lemmas.Result.{err_from_is_err_and}
use Rattle.binlog_payloads.specs.Fields.{fields}
use Rattle.binlog_payloads.proofs.FieldSteps.{fields_end, fields_more, fields_refused, at_end, going_on}
use Rattle.binlog_payloads.proofs.fields.read_fields.Goals as goal

pub returns-in_err-is_end-clause-none : goal.returns-in_err-is_end-clause-none
returns-in_err-is_end-clause-none c =
    let bytes = c.args.buf.now in
    let n = length bytes - (c.fields.counter + 1) in
    let e : length bytes - c.fields.counter ≡ suc n = omega (arith, c.fields-test.true, ap length c.buf.view_is) in
    let p = err_from_is_err_and c.from_residual.result c.from_residual.ensures.1 in
    rw (p.1, p.2)
    (sym c.fields.invariant ∙ ap (λ (k : ℕ). fields k c.fields.stated c.fields.buf) e ∙ fields_refused n c.fields.stated c.fields.buf c.in_err-is_end.field-0.0 c.in_err-is_end.ensures.none)

pub returns-then-is_end-clause-found : goal.returns-then-is_end-clause-found
returns-then-is_end-clause-found c =
    let bytes = c.args.buf.now in
    let n = length bytes - (c.fields.counter + 1) in
    let e : length bytes - c.fields.counter ≡ suc n = omega (arith, c.fields-test.true, ap length c.buf.view_is) in
    sym c.fields.invariant ∙ ap (λ (k : ℕ). fields k c.fields.stated c.fields.buf) e
    ∙ fields_end n c.fields.stated c.fields.buf c.read_field.new.stated c.read_field.new.buf (at_end c.read_field.new.stated c.read_field.new.buf c.in_ok-is_end.is_end c.if-is_end.true c.in_ok-is_end.ensures.found)

pub fields-preserved : goal.fields-preserved
fields-preserved c =
    let bytes = c.args.buf.now in
    let n = length bytes - (c.fields.counter + 1) in
    let e : length bytes - c.fields.counter ≡ suc n = omega (arith, c.fields-test.true, ap length c.buf.view_is) in
    sym (fields_more n c.fields.stated c.fields.buf c.read_field.new.stated c.read_field.new.buf (going_on c.read_field.new.stated c.read_field.new.buf c.in_ok-is_end.is_end c.if-is_end.false c.in_ok-is_end.ensures.found))
    ∙ sym (ap (λ (k : ℕ). fields k c.fields.stated c.fields.buf) e) ∙ c.fields.invariant

pub returns-clause-none : goal.returns-clause-none
unfolding fields
returns-clause-none c =
    let bytes = c.args.buf.now in
    let e : length bytes - c.fields.counter ≡ 0 = omega (arith, c.fields-test.false, ap length c.buf.view_is) in
    sym c.fields.invariant ∙ ap (λ (k : ℕ). fields k c.fields.stated c.fields.buf) e
