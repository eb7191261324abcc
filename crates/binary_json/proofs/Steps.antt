-- Steps of the check that succeed.
use Rattle.std.proofs.Common.{◌≡◌, ℕ, ◌+◌, ◌-◌, Bool, true, false, cond, ◌⊎◌, Ok, Err, inl, inr, refl, arith}
use Rattle.std.specs.Prelude.{nat_lt}
use Rattle.std.proofs.lemmas.Bool.{ltb-false, le-ltb}
use Rattle.binary_json.specs.declared.error.JsonError.{JsonError}
use Rattle.binary_json.specs.Refusals.{Left, ◌>>=◌, spend}

pub bind_ok : (r : Left) (f : ℕ → Left) (y : ℕ) → (r >>= f) ≡ Ok y → (x : ℕ) × (r ≡ Ok x) × (f x ≡ Ok y)
bind_ok (Ok x) f y e = (x, refl, e)
bind_ok (Err d) f y e = absurd cc

-- A test that would refuse fails.
pub passed : (b : Bool) (d : JsonError) (r : Left) (y : ℕ) → cond b (Err d) r ≡ Ok y → (b ≡ false) × (r ≡ Ok y)
passed true d r y e = absurd cc
passed false d r y e = (refl, e)

-- A test that chooses.
pub chosen : (b : Bool) (q r : Left) (y : ℕ) → cond b q r ≡ Ok y → ((b ≡ true) × (q ≡ Ok y)) ⊎ ((b ≡ false) × (r ≡ Ok y))
chosen true q r y e = inl (refl, e)
chosen false q r y e = inr (refl, e)

abbrev left : ℕ → Left
left x = Ok x

abbrev refused : JsonError → Left
refused d = Err d

pub refused_ok : {d : JsonError} {y : ℕ} → refused d ≡ left y → ⊥
refused_ok e = cc

pub same_left : (x y : ℕ) → left x ≡ left y → x ≡ y
same_left x y e = cc

pub spent : (n place from rest : ℕ) → spend n place from ≡ Ok rest → n + rest ≡ from
spent n place from rest e =
    let p = passed (nat_lt from n) _ (Ok (from - n)) rest e in
    omega (arith, ltb-false from n p.0, same_left (from - n) rest p.1)

pub spends : (n place from rest : ℕ) → n + rest ≡ from → spend n place from ≡ Ok rest
spends n place from rest e =
    let enough : nat_lt from n ≡ false = le-ltb from n (omega arith) in
    let is : from - n ≡ rest = omega arith in
    rw (enough, is) refl
