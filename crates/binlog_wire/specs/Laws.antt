-- Soundness and completeness of reading with respect to an encoding: for each kind of field, and for their
-- combinations.
use Rattle.std.proofs.Common.{◌≡◌, ℕ, zero, suc, ◌+◌, ◌<◌, Bool, true, false, cond, List, [], ◌∷◌, get_or, take, drop, Result, Ok, Err, refl, arith}
use Rattle.std.proofs.lemmas.List.{get_or-drop}
use Rattle.binlog_wire.specs.Reading.{Refusal, Read, ◌>>=◌}
use Rattle.binlog_wire.specs.Fields.{IsBytes}
pub mod Numbers
pub mod Texts
pub mod Terminated
pub mod Sequences
pub mod Choices
pub mod Lengths

-- The law that ties a reading to an encoding relation. Since a reading is a function, bytes encode at most one value
-- with at most one rest, and exactly the bytes that encode nothing are refused.
pub record KeepsTo {V : Type 0} (spells : List ℕ → V → List ℕ → Type 0) (reads : List ℕ → Read V) : Type 0 where
  -- Sound: what is read is encoded so.
  pub sound : (s : List ℕ) (x : V × List ℕ) → IsBytes s → reads s ≡ Ok x → spells s x.0 x.1 × IsBytes x.1
  -- Complete: what is encoded so is read, with that value and that rest.
  pub complete : (s : List ℕ) (v : V) (r : List ℕ) → spells s v r → reads s ≡ Ok (v, r)

-- What is left after dropping a prefix of bytes are bytes.
pub IsBytes-drop : (n : ℕ) (bytes : List ℕ) → IsBytes bytes → IsBytes (drop n bytes)
IsBytes-drop n bytes h i = rw get_or-drop (h (n + i))

-- A prefix of bytes are bytes.
pub IsBytes-take : (n : ℕ) (bytes : List ℕ) → IsBytes bytes → IsBytes (take n bytes)
IsBytes-take zero bytes h i = omega arith
IsBytes-take (suc n) [] h i = omega arith
IsBytes-take (suc n) (b ∷ bytes) h zero = h 0
IsBytes-take (suc n) (b ∷ bytes) h (suc i) = IsBytes-take n bytes (λ j. h (suc j)) i

-- ---- successful steps

-- Where two steps in a row succeed, each of them does.
pub bind_ok : {A B : Type 0} (r : Result A Refusal) (f : A → Result B Refusal) (y : B) → (r >>= f) ≡ Ok y → (x : A) × (r ≡ Ok x) × (f x ≡ Ok y)
bind_ok (Ok x) f y e = (x, refl, e)
bind_ok (Err d) f y e = absurd cc

-- A step that is refused where a test holds succeeds only where it doesn't hold.
pub guard_ok : {A : Type 0} (b : Bool) (d : Refusal) (x : Result A Refusal) (y : A) → cond b (Err d) x ≡ Ok y → (b ≡ false) × (x ≡ Ok y)
guard_ok true d x y e = absurd cc
guard_ok false d x y e = (refl, e)

-- A step that is refused where a test doesn't hold succeeds only where it holds.
pub allow_ok : {A : Type 0} (b : Bool) (d : Refusal) (x : Result A Refusal) (y : A) → cond b x (Err d) ≡ Ok y → (b ≡ true) × (x ≡ Ok y)
allow_ok true d x y e = (refl, e)
allow_ok false d x y e = absurd cc
