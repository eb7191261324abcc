-- Parts that state their own size, and values up to an end.
use Rattle.std.proofs.Common.{◌≡◌, ℕ, ◌+◌, List, [], ◌++◌, length, ◌-◌, cond, ltb, take, drop, Ok, Err, ◌≤◌, Bool, true, false, zero, suc, ◌∷◌}
use Rattle.binlog_wire.specs.declared.error.Invalid.{Invalid}
use Rattle.binlog_wire.specs.Reading.{ends, invalid, Read, ◌>>=◌}
use Rattle.binlog_wire.specs.Fields.{IsBytes}
use Rattle.binlog_wire.specs.Formats.{anywhere, Format}
use Rattle.binlog_variable_fields.specs.Repeated.{IsEach}

-- ---- a size that counts the whole that it is in

-- A head that states the size of the whole, its own bytes included, and a part that ends with that size.
abbrev pub IsWithin : {H V : Type 0} → (List ℕ → H → List ℕ → Type 0) → (H → ℕ) → (H → List ℕ → V → List ℕ → Type 0) → List ℕ → H × V → List ℕ → Type 0
IsWithin HEAD size F s x r = (m : List ℕ) × HEAD s x.0 (m ++ r) × (size x.0 + length r ≡ length s) × F x.0 m x.1 []

-- The number of bytes after the head that belong to the whole.
abbrev pub left_within : ℕ → ℕ → ℕ → ℕ
left_within size rest whole = size + rest - whole

-- Reading the part after a head that was read, of `whole` bytes with it, and what is left after that part.
abbrev pub after_head : {H V : Type 0} → (H → ℕ) → (ℕ → Invalid) → (H → List ℕ → Read V) → ℕ → H × List ℕ → Read (H × V)
after_head size why f whole (h, rest) =
    let k : ℕ = left_within (size h) (length rest) whole in
    cond (ltb (size h + length rest) whole) (Err (invalid (why (size h))))
    (cond (ltb whole (size h)) (Err ends) (f h (take k rest) >>= λ v. Ok ((h, v.0), drop k rest)))

-- Reading a head and the part that ends with the size that the head states.
abbrev pub within_at : {H V : Type 0} → (List ℕ → Read H) → (H → ℕ) → (ℕ → Invalid) → (H → List ℕ → Read V) → List ℕ → Read (H × V)
within_at head size why f s = head s >>= after_head size why f (length s)

-- ---- values up to the end of the bytes, or up to bytes that end them

-- A test for what may follow the last value: nothing, or bytes at which no value begins.
pub record IsEnd {V : Type 0} (f : Format anywhere V) (End : List ℕ → Type 0) (test : List ℕ → Bool) : Type 0 where
  pub nothing : End []
  pub holds : (s : List ℕ) → End s → test s ≡ true
  pub only : (s : List ℕ) → IsBytes s → test s ≡ true → End s
  pub no_value : (s : List ℕ) (v : V) (r : List ℕ) → f.spells s v r → test s ≡ false
  pub moves : 1 ≤ f.least

-- Values in sequence, and then an end; they take all bytes.
abbrev pub IsUntil : {V : Type 0} → (List ℕ → V → List ℕ → Type 0) → (List ℕ → Type 0) → List ℕ → List V → List ℕ → Type 0
IsUntil F End s vs r = (x : List ℕ) × IsEach F s vs x × End x × (r ≡ [])

-- Each value takes at least one byte, so there are at most as many steps as bytes.
abbrev pub until_in : {V : Type 0} → ℕ → (List ℕ → Bool) → (List ℕ → Read V) → List ℕ → Read (List V)
until_in zero test f s = cond (test s) (Ok ([], [])) (Err ends)
until_in (suc k) test f s = cond (test s) (Ok ([], [])) (f s >>= λ a. until_in k test f a.1 >>= λ b. Ok (a.0 ∷ b.0, b.1))

-- Reading values up to an end.
abbrev pub until_at : {V : Type 0} → (List ℕ → Bool) → (List ℕ → Read V) → List ℕ → Read (List V)
until_at test f s = until_in (length s) test f s
