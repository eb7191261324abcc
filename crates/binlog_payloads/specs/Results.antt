-- Steps of reading, one after the other.
use Rattle.std.specs.Prelude.{◌≡◌, ◌⊎◌, Result, Ok, Err}
use Rattle.binlog_payloads.specs.declared.error.PayloadError.{PayloadError}
use Rattle.binlog_payloads.specs.declared.error.PayloadError.TheVariants as errors

-- What a step gives to the next one. The first refusal is the refusal of all.
abbrev pub step : {A B : Type 0} → Result A PayloadError → (A → Result B PayloadError) → Result B PayloadError
step (Ok x) next = next x
step (Err e) next = Err e

-- An error is the refusal that reading gives, or memory ran out.
abbrev pub Refused : {A : Type 0} → PayloadError → Result A PayloadError → Type 0
Refused e reading = (e ≡ errors.Memory) ⊎ (reading ≡ Err e)
