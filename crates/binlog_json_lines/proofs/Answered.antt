-- What follows from answers.
use Rattle.std.proofs.Common.{◌≡◌, ◌||◌, Bool, true, false, refl}
use Rattle.std.specs.Prelude.{Result, Ok, Err, OnOk, OnErr, IfErr}

pub map_ok : {T E A B : Type 0} (result : Result T E) → OnOk result A → (A → B) → OnOk result B
map_ok (Ok x) given f = f given
map_ok (Err e) given f = given

pub map_err : {T E A : Type 0} {P Q : E → Type 0} (result : Result T E) → OnErr result A → IfErr result P → ((e : E) → A → P e → Q e) → IfErr result Q
map_err (Ok x) given is f = is
map_err (Err e) given is f = f e given is

pub or_none : (a : Bool) → a ≡ (a || false)
or_none true = refl
or_none false = refl
