use Rattle.std.proofs.Common.{◌≡◌, ◌++◌, ◌∷◌, [], ℕ, List, false, Ok, Err, refl, sym, ap, ◌∙◌, arith}
use Rattle.std.proofs.lemmas.Result.{err_from_is_err_and}
use Rattle.binlog_wire.specs.Reading.{Read}
use Rattle.binlog_variable_fields.specs.Laws.UntilLoops.{shorter, until_more, until_refused}
use Rattle.binlog_variable_fields.specs.Laws.Refusing.{refused_as}
use Rattle.binlog_variable_fields.specs.Laws.RepeatedLoops.{behind_values}
use Rattle.binlog_variable_fields.specs.Varlen.{varlen_at}
use Rattle.binlog_gtids.specs.Laws.EntryReading.{entry_ok, entry_refused}
use Rattle.binlog_gtids.specs.TaggedFields.{Entry, entry}
use Rattle.binlog_gtids.specs.Tagged.{fields}
use Rattle.binlog_gtids.specs.TaggedValues.{is_tail, IsTail}
use Rattle.binlog_gtids.specs.Laws.TaggedFields.{tail_is_end}
use Rattle.binlog_gtids.specs.Taking.{no_fields, with_entry}
use Rattle.binlog_gtids.specs.Laws.Taking.{taken_more}
use Rattle.binlog_gtids.proofs.tagged_fields.TaggedFields.read.Goals as goal

behind_none : (x : Read (List Entry)) → x ≡ behind_values [] x
behind_none (Ok x) = refl
behind_none (Err d) = refl

pub loop-fields-init : goal.loop-fields-init
loop-fields-init c =
    ([], behind_none ((fields c.args.last_id).reads c.args.body.now), c.none-fields.ensures, λ i. omega (arith, c.type_inv.body i))

pub loop-fields-smaller : goal.loop-fields-smaller
loop-fields-smaller c =
    let last = c.args.last_id in
    let s : List ℕ = c.loop-fields.buf in
    let id : ℕ = c.in-Some.id in
    let found : (is_tail last s ≡ false) × (varlen_at s ≡ Ok (id, c.next_id.new.buf)) = rw c.in-Some.is at c.in_ok-id.ensures in
    let step = c.in_ok-read_value.ensures in
    let read : entry.reads s ≡ Ok ((id, step.0), c.read_value.new.buf) = entry_ok s c.next_id.new.buf c.read_value.new.buf id step.0 found.1 step.1 step.2 in
    shorter entry (IsTail last) (is_tail last) (tail_is_end last) s ((id, step.0), c.read_value.new.buf) c.loop-fields.invariant.3 read

pub loop-fields-preserved : goal.loop-fields-preserved
loop-fields-preserved c =
    let last = c.args.last_id in
    let known = c.loop-fields.invariant in
    let s : List ℕ = c.loop-fields.buf in
    let id : ℕ = c.in-Some.id in
    let found : (is_tail last s ≡ false) × (varlen_at s ≡ Ok (id, c.next_id.new.buf)) = rw c.in-Some.is at c.in_ok-id.ensures in
    let step = c.in_ok-read_value.ensures in
    let e : Entry = (id, step.0) in
    let read : entry.reads s ≡ Ok (e, c.read_value.new.buf) = entry_ok s c.next_id.new.buf c.read_value.new.buf id step.0 found.1 step.1 step.2 in (
      known.0 ++ e ∷ [],
      until_more entry (IsTail last) (is_tail last) (tail_is_end last) ((fields last).reads c.args.body.now) known.0 s known.3 e c.read_value.new.buf found.0 read known.1,
      step.3 ∙ ap (with_entry e) known.2 ∙ sym (taken_more known.0 e no_fields),
      (entry.keeps.sound s (e, c.read_value.new.buf) known.3 read).1,
    )

pub returns-in_err-read_value : goal.returns-in_err-read_value
returns-in_err-read_value c =
    let last = c.args.last_id in
    let known = c.loop-fields.invariant in
    let s : List ℕ = c.loop-fields.buf in
    let id : ℕ = c.in-Some.id in
    let found : (is_tail last s ≡ false) × (varlen_at s ≡ Ok (id, c.next_id.new.buf)) = rw c.in-Some.is at c.in_ok-id.ensures in
    let whole : Read (List Entry) = (fields last).reads c.args.body.now in
    let p = err_from_is_err_and c.from_residual-in_err-read_value.result c.from_residual-in_err-read_value.ensures.1 in
    rw (p.1, p.2)
    (refused_as ⊥ ⊥ (λ x. x) _ (entry.reads s) whole
    (λ d f. until_refused entry (IsTail last) (is_tail last) (tail_is_end last) whole known.0 s d found.0 f known.1)
    (entry_refused s c.next_id.new.buf id _ found.1 c.in_err-read_value.ensures))
