-- A GTID with a tag, read part by part: the bytes that the payload size counts, and then the fields in them.
use Rattle.std.proofs.Common.{ℕ, ◌+◌, cond, ltb, List, length, take, drop, Ok, Err}
use Rattle.binlog_wire.specs.Reading.{ends, invalid, Read, ◌>>=◌}
use Rattle.binlog_wire.specs.declared.error.Invalid.TheVariants as kinds
use Rattle.binlog_variable_fields.specs.Within.{left_within}
use Rattle.binlog_gtids.specs.Tagged.{Head, head, payload_size}

-- The head that was read, and the bytes after it that the payload size counts, of `whole` bytes.
abbrev pub counted_by : ℕ → Head × List ℕ → Read (Head × List ℕ)
counted_by whole (h, rest) =
    let k : ℕ = left_within (payload_size h) (length rest) whole in
    cond (ltb (payload_size h + length rest) whole) (Err (invalid (kinds.PayloadSize (payload_size h))))
    (cond (ltb whole (payload_size h)) (Err ends) (Ok ((h, take k rest), drop k rest)))

-- The head, and the bytes after it that its payload size counts.
abbrev pub payload_at : List ℕ → Read (Head × List ℕ)
payload_at s = head.reads s >>= counted_by (length s)
