-- Why values are refused, as contracts see it.
use Rattle.std.specs.Prelude.{◌≡◌, ℕ, List, Result, Ok, Err, refl}
use Rattle.std.specs.Borrow.{Bor}
use Rattle.binlog_wire.specs.declared.error.Error.{Error}
use Rattle.binlog_wire.specs.declared.error.Error.TheVariants as errors
use Rattle.binlog_wire.specs.Reading.{Refusal, ends, invalid, Read, Refuses}
use Rattle.binlog_values.specs.Contents.{out_of_range}
use Rattle.binlog_values.specs.declared.fault.ValueFault.{ValueFault}
use Rattle.binlog_values.specs.declared.fault.ValueFault.TheVariants.{EndOfBody, OutOfRange}

-- The refusal of bytes that a fault stands for.
abbrev pub refusal_of : ValueFault → Refusal
refusal_of EndOfBody = ends
refusal_of OutOfRange = invalid out_of_range

-- The error that is made of a fault.
abbrev pub error_of : ValueFault → Error
error_of EndOfBody = errors.EndOfBody
error_of OutOfRange = errors.InvalidData out_of_range

-- The answer of a call, with the bytes that it left, is the result of the reading.
abbrev pub Decodes : {V : Type 0} → List ℕ → Result V ValueFault → Read V → Type 0
Decodes left (Ok v) read = read ≡ Ok (v, left)
Decodes left (Err fault) read = read ≡ Err (refusal_of fault)

-- The referent of the reference in an answer.
abbrev pub bytes_now : Result (Bor (List ℕ)) ValueFault → Result (List ℕ) ValueFault
bytes_now (Ok r) = Ok r.now
bytes_now (Err fault) = Err fault

-- The error is that of the refusal.
pub refused_as : {V : Type 0} (fault : ValueFault) (read : Read V) → read ≡ Err (refusal_of fault) → Refuses ⊥ (error_of fault) read
refused_as EndOfBody read h = h
refused_as OutOfRange read h = h
