-- Length-encoded integers: a value below 251 as that byte; else 252, 253 or 254 and the value in 2, 3 or 8 bytes.
use Rattle.std.proofs.Common.{◌≡◌, ℕ, List, ◌∷◌, ◌<◌, ◌⊎◌, cond, ltb, eqb, [], Ok, Err, ◌^◌}
use Rattle.byteorder.specs.Endian.{little_bytes}
use Rattle.binlog_wire.specs.Fields.{IsNumber, number_at}
use Rattle.binlog_wire.specs.Reading.{ends, invalid, Read}
use Rattle.binlog_wire.specs.declared.error.Invalid.TheVariants as kinds

-- A mark byte and then a number of k bytes.
abbrev pub IsMarked : ℕ → ℕ → List ℕ → ℕ → List ℕ → Type 0
IsMarked mark k s n r = (m : List ℕ) × (s ≡ mark ∷ m) × IsNumber k m n r

-- The bytes are a length-encoded integer, in any of its encodings.
abbrev pub IsLenEnc : List ℕ → ℕ → List ℕ → Type 0
IsLenEnc s n r = ((s ≡ n ∷ r) × (n < 251)) ⊎ (IsMarked 252 2 s n r ⊎ (IsMarked 253 3 s n r ⊎ IsMarked 254 8 s n r))

-- Reading a length-encoded integer.
abbrev pub lenenc_at : List ℕ → Read ℕ
lenenc_at [] = Err ends
lenenc_at (b ∷ s) =
    cond (ltb b 251) (Ok (b, s))
    (cond (eqb b 252) (number_at 2 s)
    (cond (eqb b 253) (number_at 3 s)
    (cond (eqb b 254) (number_at 8 s) (Err (invalid (kinds.LenEnc b))))))

-- The shortest encoding.
unfoldable pub lenenc_written : ℕ → List ℕ
lenenc_written n =
    cond (ltb n 251) (n ∷ [])
    (cond (ltb n (256 ^ 2)) (252 ∷ little_bytes 2 n)
    (cond (ltb n (256 ^ 3)) (253 ∷ little_bytes 3 n) (254 ∷ little_bytes 8 n)))
