use Rattle.std.proofs.Common.{◌≡◌, ◌+◌, ◌-◌, ◌*◌, ◌≤◌, ◌++◌, ◌∷◌, [], replicate, vec_len, vec_capacity}
use Rattle.binlog_row_writing.specs.Decimals.{groups_bytes}
use Rattle.binlog_row_writing.proofs.new_decimal.Digits.put_rest.Given as goal

abbrev pub invariant-loop-index : goal.invariant-loop-index
invariant-loop-index l = record {
  same : l.out.items ++ groups_bytes l.self.precision l.self.is_negative l.self.digits.now (replicate (l.nines - l._index) 9 ++ l.tail ∷ []) l.place (vec_len l.out)
      ≡ l.fn.out.items ++ groups_bytes l.self.precision l.self.is_negative l.self.digits.now (replicate l.nines 9 ++ l.tail ∷ []) l.at (vec_len l.fn.out);
  len : vec_len l.out ≡ vec_len l.fn.out + 4 * l._index;
  place : l.place ≡ l.at + 9 * l._index;
  capacity : vec_capacity l.fn.out ≤ vec_capacity l.out;
}
