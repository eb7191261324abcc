use Rattle.std.proofs.Common.{arith, sym, ◌∙◌}
use Rattle.binlog_json_bodies.proofs.BitTokens.{no_bits, bit_added}
use Rattle.binlog_json_bodies.proofs.bits.write_bits.Goals as goal

pub bits-init : goal.bits-init
bits-init c = no_bits _ _ _ c.in_ok-begin_array.ensures.added

pub bits-preserved : goal.bits-preserved
bits-preserved c =
    bit_added _ c.bits.line _ _ c.args.bits.len c.bits.index c.in-Some.bit c.bits.invariant (omega arith) (sym c.in-Some.is ∙ c.bit.ensures) c.in_ok-boolean-in-Some.ensures.added
