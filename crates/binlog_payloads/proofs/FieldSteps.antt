-- One step of reading fields.
use Rattle.std.proofs.Common.{◌≡◌, ℕ, suc, Bool, true, false, List, Result, Ok, Err}
use Rattle.binlog_payloads.specs.declared.error.PayloadError.{PayloadError}
use Rattle.binlog_payloads.specs.declared.fields.Stated.{Stated}
use Rattle.binlog_payloads.specs.Fields.{Behind, field, fields}

-- What is behind a field, where it is known whether that is the end.
pub at_end : {read : Result Behind PayloadError} (after : Stated) (rest : List ℕ) (is : Bool) → is ≡ true → read ≡ Ok (record { stated = after; rest = rest; is_end = is }) → read ≡ Ok (record { stated = after; rest = rest; is_end = true })
at_end after rest true e h = h
at_end after rest false e h = absurd cc

pub going_on : {read : Result Behind PayloadError} (after : Stated) (rest : List ℕ) (is : Bool) → is ≡ false → read ≡ Ok (record { stated = after; rest = rest; is_end = is }) → read ≡ Ok (record { stated = after; rest = rest; is_end = false })
going_on after rest true e h = absurd cc
going_on after rest false e h = h

pub fields_end : (n : ℕ) (stated : Stated) (bytes : List ℕ) (after : Stated) (rest : List ℕ) → field stated bytes ≡ Ok (record { stated = after; rest = rest; is_end = true }) → fields (suc n) stated bytes ≡ Ok (after, rest)
unfolding fields
fields_end n stated bytes after rest e = rw e

pub fields_more : (n : ℕ) (stated : Stated) (bytes : List ℕ) (after : Stated) (rest : List ℕ) → field stated bytes ≡ Ok (record { stated = after; rest = rest; is_end = false }) → fields (suc n) stated bytes ≡ fields n after rest
unfolding fields
fields_more n stated bytes after rest e = rw e

pub fields_refused : (n : ℕ) (stated : Stated) (bytes : List ℕ) (e : PayloadError) → field stated bytes ≡ Err e → fields (suc n) stated bytes ≡ Err e
unfolding fields
fields_refused n stated bytes e is = rw is
