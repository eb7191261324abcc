use Rattle.std.proofs.Common.{◌≡◌, ◌++◌, ◌-◌, replicate}
use Rattle.binary_json_writing.proofs.entry.push_filling.Given as goal

-- With what is left to append, it is the whole.
abbrev pub invariant-filled : goal.invariant-filled
invariant-filled l = l.out.items ++ replicate (l.count - l._index) l.filling ≡ l.fn.out.items ++ replicate l.count l.filling
