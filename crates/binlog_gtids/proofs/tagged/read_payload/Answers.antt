use Rattle.std.proofs.Common.{◌-◌, ℕ, List, refl, arith}
use Rattle.binlog_gtids.specs.Tagged.{Head}
use Rattle.binlog_gtids.specs.Laws.TaggedReading.{payload_ok}
use Rattle.binlog_gtids.proofs.tagged.read_payload.Goals as goal

pub returns : goal.returns
returns c =
    let s : List ℕ = c.args.buf.now in
    let m : List ℕ = c.read_head.new.buf in
    let h : Head = (2, (c.in_ok-size.size, c.in_ok-size.last_id)) in
    let n : ℕ = c.len-left.result - (c.len-whole.result - c.in_ok-size.size) in
    let front = rw c.buf.view_is at c.split_at.ensures.front in
    let back = rw c.buf.view_is at c.split_at.ensures.back in (
      h,
      payload_ok s m c.split_at.result.0.now c.split_at.result.1.now h n c.in_ok-size.ensures
          (omega (arith, c.saturating_sub.ensures, c.len-whole.ensures, c.len-left.ensures)) (omega (arith, c.len-whole.ensures))
          (omega (arith, c.len-whole.ensures, c.len-left.ensures)) front back,
      refl,
    )
