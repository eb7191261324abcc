use Rattle.std.proofs.Common.{◌+◌, ◌-◌, ◌/◌, ◌%◌, vec_len, arith}
use Rattle.std.specs.Prelude.{◌==◌}
use Rattle.binlog_values.specs.DecimalLaws.{decimal_count}
use Rattle.binlog_row_writing.specs.DecimalGroups.{whole_split, whole_len, rest_len, lead_len}
use Rattle.binlog_row_writing.proofs.new_decimal.Digits.put.Goals as goal

pub returns : goal.returns
returns c =
    let d = c.args.self.now in
    let scale = c.args.scale in
    let first = lead_len d.precision ((d.precision - scale) % 9) 0 d.is_negative (vec_len c.args.out.now == 0) d.digits.now in
    let second = rest_len d.precision d.is_negative d.digits.now ((d.precision - scale) / 9 + scale / 9) (scale % 9) ((d.precision - scale) % 9) (vec_len c.put_group.new.out) in
    let whole = whole_len d.precision scale d.is_negative d.digits.now in
    let count = decimal_count d.precision scale in
    record {
      items = whole_split d.precision scale d.is_negative d.digits.now c.args.out.now.items c.put_group.new.out.items c.put_rest.new.out.items (vec_len c.args.out.now) (vec_len c.put_group.new.out)
          c.requires.empty c.put_group.ensures.items (omega (arith, c.put_group.ensures.len, first)) c.put_rest.ensures.items;
      len = omega (arith, c.put_group.ensures.len, c.put_rest.ensures.len, first, second, whole, count);
      capacity = omega (arith, c.put_group.ensures.capacity, c.put_rest.ensures.capacity);
    }
