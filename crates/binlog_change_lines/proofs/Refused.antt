-- What follows from refusals.
use Rattle.std.specs.Prelude.{Result, Ok, Err, IfErr}

pub map_if : {T E : Type 0} {P Q : E → Type 0} (result : Result T E) → IfErr result P → ((e : E) → P e → Q e) → IfErr result Q
map_if (Ok x) refused f = refused
map_if (Err e) refused f = f e refused
