-- Repetitions of a format.
use Rattle.std.proofs.Common.{◌≡◌, ℕ, List, [], ◌∷◌, length, zero, suc, Ok, ◌+◌, ◌++◌}
use Rattle.binlog_wire.specs.Reading.{Read, ◌>>=◌}

-- The encodings of the values, in sequence.
abbrev pub IsEach : {V : Type 0} → (List ℕ → V → List ℕ → Type 0) → List ℕ → List V → List ℕ → Type 0
IsEach F s [] r = r ≡ s
IsEach F s (v ∷ vs) r = (m : List ℕ) × F s v m × IsEach F m vs r

-- The encodings of n values, in sequence.
abbrev pub IsTimes : {V : Type 0} → ℕ → (List ℕ → V → List ℕ → Type 0) → List ℕ → List V → List ℕ → Type 0
IsTimes n F s vs r = (length vs ≡ n) × IsEach F s vs r

-- Reading n values in sequence.
abbrev pub times_at : {V : Type 0} → ℕ → (List ℕ → Read V) → List ℕ → Read (List V)
times_at zero f s = Ok ([], s)
times_at (suc n) f s = f s >>= λ a. times_at n f a.1 >>= λ b. Ok (a.0 ∷ b.0, b.1)

-- The bytes written for values in sequence.
abbrev pub each_written : {V : Type 0} → (V → List ℕ) → List V → List ℕ
each_written f [] = []
each_written f (v ∷ vs) = f v ++ each_written f vs

-- The normal forms of the values.
abbrev pub each_normal : {V : Type 0} → (V → V) → List V → List V
each_normal f [] = []
each_normal f (v ∷ vs) = f v ∷ each_normal f vs

-- Each value can be written.
abbrev pub EachFits : {V : Type 0} → (V → Type 0) → List V → Type 0
EachFits f [] = Unit {0}
EachFits f (v ∷ vs) = f v × EachFits f vs
