use Rattle.std.proofs.Common.{◌≡◌, ℕ, List, length, refl, ap, arith}
use Rattle.binlog_variable_fields.specs.Laws.VarlenReading.{varlen_one, varlen_two, varlen_whole, varlen_rest}
use Rattle.binlog_variable_fields.proofs.varlen.VarlenIntRepr.read.Goals as goal
use Rattle.binlog_variable_fields.proofs.varlen.VarlenIntRepr.read.Goals.{then-is_whole, else-is_whole+in-len2-up, else-is_whole+else-buf-lt1-2+in-len1-up-2+else-len-width}

pub returns : goal.returns
returns c =
    let s : List ℕ = c.args.buf.now in
    let t : List ℕ = c.buf.inside.0.now in
    let same : t ≡ s = c.buf.view_is in
    elim c.if-is_whole.branch [
      | then-is_whole w ↦
          rw (← same) (varlen_rest t t c.if-is_whole.number w.from.result 1 refl w.number-is
          (rw w.from.ensures (varlen_one t c.in-len1-up.len_at_least (c.is_whole.ensures w.if-is_whole.true))))
      | else-is_whole+in-len2-up w ↦
          rw (← same) (varlen_rest t t c.if-is_whole.number w.from-in-len2-up.result 2 refl w.number-is
          (rw (w.from-in-len2-up.ensures, w.read_u16.ensures) (varlen_two t w.in-len2-up.len_at_least (w.has_second.ensures w.if-has_second.true))))
      | else-is_whole+else-buf-lt1-2+in-len1-up-2+else-len-width w ↦
          rw (← same) (varlen_rest t t c.if-is_whole.number w.number_in.result w.width_from-width.result refl w.number-is
          (rw w.number_in.ensures (varlen_whole t w.width_from-width.result c.in-len1-up.len_at_least w.width_from-width.ensures.count w.width_from-width.ensures.last (omega (arith, w.if-len-width.false, w.len.ensures, ap length same)))))
    ]
