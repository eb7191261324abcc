use Rattle.std.proofs.Common.{◌^◌, ℕ, List, ◌∷◌, refl, ap}
use Rattle.std.specs.Int.{w32}
use Rattle.binary_json.specs.Values.{int32}
use Rattle.binary_json_writing.proofs.Kept.{signed_bytes, signed_fits}
use Rattle.binary_json_writing.proofs.owned.OwnedDocument.int32.Goals as goal

pub number-requires : goal.number-requires
number-requires c = (int32 c.args.value, ap (λ (s : List ℕ). 7 ∷ s) (signed_bytes w32 4 c.args.value c.to_le_bytes.result c.ranges.value c.to_le_bytes.ensures), signed_fits w32 c.args.value (2 ^ 31) c.ranges.value refl)

pub returns : goal.returns
returns c = c.number.ensures (int32 c.args.value) (ap (λ (s : List ℕ). 7 ∷ s) (signed_bytes w32 4 c.args.value c.to_le_bytes.result c.ranges.value c.to_le_bytes.ensures)) (signed_fits w32 c.args.value (2 ^ 31) c.ranges.value refl)
