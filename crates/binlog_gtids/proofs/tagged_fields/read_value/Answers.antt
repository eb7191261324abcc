use Rattle.std.proofs.Common.{ℕ, inl, inr, List, ap, refl, arith}
use Rattle.std.proofs.lemmas.Result.{err_from_is_err_and}
use Rattle.binlog_wire.specs.Reading.{Read, read_as}
use Rattle.binlog_variable_fields.specs.Laws.Refusing.{refused_as}
use Rattle.binlog_variable_fields.specs.Repeated.{times_at}
use Rattle.binlog_gtids.specs.TaggedValues.{Value}
use Rattle.binlog_gtids.specs.TaggedFields.{at_most, value_of_id}
use Rattle.binlog_gtids.specs.Laws.EntryReading.{value_is, value_refused}
use Rattle.binlog_gtids.proofs.tagged_fields.read_value.Goals as goal

-- a number that was read, and bytes that were read, as values
abbrev as_number : Read ℕ → Read Value
as_number x = read_as (λ n. inl n) x

abbrev as_bytes : Read (List ℕ) → Read Value
as_bytes x = read_as (λ s. inr s) x

pub returns-in_ok-read_limited-in-0 : goal.returns-in_ok-read_limited-in-0
returns-in_ok-read_limited-in-0 c = value_is c.args.id 0 c.in-0.is (omega arith) _ _ (inl c.in_ok-read_limited-in-0.field-0) _ _ (ap as_number c.in_ok-read_limited-in-0.ensures.number) refl

pub returns-in_ok-read_sid_bytes-in-1 : goal.returns-in_ok-read_sid_bytes-in-1
returns-in_ok-read_sid_bytes-in-1 c = value_is c.args.id 1 c.in-1.is (omega arith) _ _ (inr c.in_ok-read_sid_bytes-in-1.field-0) _ _ (ap as_bytes c.in_ok-read_sid_bytes-in-1.ensures) refl

pub returns-in_ok-read_not_negative-in-2 : goal.returns-in_ok-read_not_negative-in-2
returns-in_ok-read_not_negative-in-2 c = value_is c.args.id 2 c.in-2.is (omega arith) _ _ (inl c.in_ok-read_not_negative-in-2.field-0) _ _ (ap as_number c.in_ok-read_not_negative-in-2.ensures) refl

pub returns-in_ok-read_tag-in-3 : goal.returns-in_ok-read_tag-in-3
returns-in_ok-read_tag-in-3 c = value_is c.args.id 3 c.in-3.is (omega arith) _ _ (inr c.in_ok-read_tag-in-3.field-0) _ _ (ap as_bytes c.in_ok-read_tag-in-3.ensures) refl

pub returns-in_ok-read_not_negative-in-4 : goal.returns-in_ok-read_not_negative-in-4
returns-in_ok-read_not_negative-in-4 c = value_is c.args.id 4 c.in-4.is (omega arith) _ _ (inl c.in_ok-read_not_negative-in-4.field-0) _ _ (ap as_number c.in_ok-read_not_negative-in-4.ensures) refl

pub returns-in_ok-read_not_negative-in-5 : goal.returns-in_ok-read_not_negative-in-5
returns-in_ok-read_not_negative-in-5 c = value_is c.args.id 5 c.in-5.is (omega arith) _ _ (inl c.in_ok-read_not_negative-in-5.field-0) _ _ (ap as_number c.in_ok-read_not_negative-in-5.ensures) refl

pub returns-in_ok-read-in-6 : goal.returns-in_ok-read-in-6
returns-in_ok-read-in-6 c = value_is c.args.id 6 c.in-6.is (omega arith) _ _ (inl c.in_ok-read-in-6.field-0) _ _ (ap as_number c.in_ok-read-in-6.ensures) refl

pub returns-in_ok-read-in-7 : goal.returns-in_ok-read-in-7
returns-in_ok-read-in-7 c = value_is c.args.id 7 c.in-7.is (omega arith) _ _ (inl c.in_ok-read-in-7.field-0) _ _ (ap as_number c.in_ok-read-in-7.ensures) refl

pub returns-in_ok-read-in-8 : goal.returns-in_ok-read-in-8
returns-in_ok-read-in-8 c = value_is c.args.id 8 c.in-8.is (omega arith) _ _ (inl c.in_ok-read-in-8.field-0) _ _ (ap as_number c.in_ok-read-in-8.ensures) refl

pub returns-in_ok-read_limited-in-9 : goal.returns-in_ok-read_limited-in-9
returns-in_ok-read_limited-in-9 c = value_is c.args.id 9 c.in-9.is (omega arith) _ _ (inl c.in_ok-read_limited-in-9.field-0) _ _ (ap as_number c.in_ok-read_limited-in-9.ensures.number) refl

pub returns-in_ok-read_limited-in-10 : goal.returns-in_ok-read_limited-in-10
returns-in_ok-read_limited-in-10 c = value_is c.args.id 10 c.in-10.is (omega arith) _ _ (inl c.in_ok-read_limited-in-10.field-0) _ _ (ap as_number c.in_ok-read_limited-in-10.ensures.number) refl

pub returns-in_ok-read-in-11 : goal.returns-in_ok-read-in-11
returns-in_ok-read-in-11 c = value_is c.args.id 11 c.in-11.is (omega arith) _ _ (inl c.in_ok-read-in-11.field-0) _ _ (ap as_number c.in_ok-read-in-11.ensures) refl

pub returns-in_err-read_sid_bytes-in-1 : goal.returns-in_err-read_sid_bytes-in-1
returns-in_err-read_sid_bytes-in-1 c =
    let s = c.args.buf.now in
    let p = err_from_is_err_and c.from_residual-in_err-read_sid_bytes-in-1.result c.from_residual-in_err-read_sid_bytes-in-1.ensures.1 in
    rw (p.1, p.2)
    (value_refused c.args.id 1 c.in-1.is (omega arith) s _
    (refused_as ⊥ ⊥ (λ x. x) _ (times_at 16 (at_most 1 255).reads s) ((value_of_id 1).reads s) (λ d e. ap as_bytes e) c.in_err-read_sid_bytes-in-1.ensures))
