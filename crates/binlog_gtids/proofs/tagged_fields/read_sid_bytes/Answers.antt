use Rattle.std.proofs.Common.{◌≡◌, ◌+◌, ◌++◌, ◌∷◌, [], ℕ, List, take, ap, ◌∙◌, add-one, arith}
use Rattle.std.specs.Prelude.{slice_set}
use Rattle.std.proofs.Math.ListN.{length-set}
use Rattle.std.proofs.Math.Seq.{take-suc-set}
use Rattle.std.proofs.lemmas.Result.{err_from_is_err_and}
use Rattle.binlog_variable_fields.specs.Laws.Refusing.{refused_as}
use Rattle.binlog_variable_fields.specs.Repeated.{times_at}
use Rattle.binlog_variable_fields.specs.Laws.RepeatedLoops.{times_turn, times_refused}
use Rattle.binlog_gtids.specs.TaggedFields.{at_most}
use Rattle.binlog_gtids.proofs.tagged_fields.read_sid_bytes.Goals as goal

pub returns-in_err-sid : goal.returns-in_err-sid
returns-in_err-sid c =
    let reads = (at_most 1 255).reads in
    let whole = times_at 16 reads c.args.buf.now in
    let i = c.loop-index.index in
    let p = err_from_is_err_and c.from_residual.result c.from_residual.ensures.1 in
    rw (p.1, p.2)
    (refused_as ⊥ ⊥ (λ x. x) _ (reads c.loop-index.buf) whole
    (λ d e. times_refused reads whole (take i c.loop-index.sid) 16 i c.loop-index.buf d (omega arith) c.loop-index.invariant.read e)
    c.in_err-sid.ensures)

pub loop-index-preserved : goal.loop-index-preserved
loop-index-preserved c =
    let reads = (at_most 1 255).reads in
    let whole = times_at 16 reads c.args.buf.now in
    let i : ℕ = c.loop-index.index in
    let sid : List ℕ = c.loop-index.sid in
    let v : ℕ = c.in_ok-sid.field-0 in
    let turned = times_turn reads whole (take i sid) 16 i c.loop-index.buf c.read_sid_byte.new.buf v (omega arith) c.loop-index.invariant.read c.in_ok-sid.ensures in
    let one : take (i + 1) (slice_set sid i v) ≡ take i sid ++ v ∷ [] = ap (λ (n : ℕ). take n (slice_set sid i v)) (add-one i) ∙ take-suc-set sid i v (omega (arith, c.loop-index.invariant.whole)) in
    record {
      read = rw one turned;
      whole = simp length-set c.loop-index.invariant.whole;
    }
