use Rattle.std.proofs.Common.{◌^◌, ℕ, List, ◌∷◌, refl, ap}
use Rattle.std.specs.Int.{w64}
use Rattle.binary_json.specs.Values.{int64}
use Rattle.binary_json_writing.proofs.Kept.{signed_bytes, signed_fits}
use Rattle.binary_json_writing.proofs.owned.OwnedDocument.int64.Goals as goal

pub number-requires : goal.number-requires
number-requires c = (int64 c.args.value, ap (λ (s : List ℕ). 9 ∷ s) (signed_bytes w64 8 c.args.value c.to_le_bytes.result c.ranges.value c.to_le_bytes.ensures), signed_fits w64 c.args.value (2 ^ 63) c.ranges.value refl)

pub returns : goal.returns
returns c = c.number.ensures (int64 c.args.value) (ap (λ (s : List ℕ). 9 ∷ s) (signed_bytes w64 8 c.args.value c.to_le_bytes.result c.ranges.value c.to_le_bytes.ensures)) (signed_fits w64 c.args.value (2 ^ 63) c.ranges.value refl)
