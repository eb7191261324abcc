use Rattle.std.proofs.Common.{◌+◌, ◌++◌, ◌∷◌, [], replicate, vec_len, refl, arith}
use Rattle.std.specs.Prelude.{◌==◌}
use Rattle.binlog_row_writing.specs.Decimals.{groups_bytes}
use Rattle.binlog_row_writing.specs.DecimalGroups.{rest_step, lead_len}
use Rattle.binlog_row_writing.proofs.new_decimal.Digits.put_rest.Goals as goal

pub loop-index-preserved : goal.loop-index-preserved
loop-index-preserved c =
    let d = c.args.self.now in
    let place = c.loop-index.place in
    let size = lead_len d.precision 9 place d.is_negative (vec_len c.loop-index.out == 0) d.digits.now in
    record {
      same = rest_step d.precision d.is_negative d.digits.now c.args.nines c.loop-index._index c.args.tail place (place + 9) (vec_len c.loop-index.out) (vec_len c.put_group.new.out) c.loop-index.out.items c.put_group.new.out.items
          (c.args.out.now.items ++ groups_bytes d.precision d.is_negative d.digits.now (replicate c.args.nines 9 ++ c.args.tail ∷ []) c.args.at (vec_len c.args.out.now))
          (omega arith) c.loop-index.invariant.same c.put_group.ensures.items refl (omega (arith, c.put_group.ensures.len, size));
      len = omega (arith, c.put_group.ensures.len, size);
      place = omega arith;
      capacity = omega (arith, c.put_group.ensures.capacity);
    }
