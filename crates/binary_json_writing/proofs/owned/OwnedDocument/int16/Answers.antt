use Rattle.std.proofs.Common.{◌^◌, ℕ, List, ◌∷◌, refl, ap}
use Rattle.std.specs.Int.{w16}
use Rattle.binary_json.specs.Values.{int16}
use Rattle.binary_json_writing.proofs.Kept.{signed_bytes, signed_fits}
use Rattle.binary_json_writing.proofs.owned.OwnedDocument.int16.Goals as goal

pub number-requires : goal.number-requires
number-requires c = (int16 c.args.value, ap (λ (s : List ℕ). 5 ∷ s) (signed_bytes w16 2 c.args.value c.to_le_bytes.result c.ranges.value c.to_le_bytes.ensures), signed_fits w16 c.args.value (2 ^ 15) c.ranges.value refl)

pub returns : goal.returns
returns c = c.number.ensures (int16 c.args.value) (ap (λ (s : List ℕ). 5 ∷ s) (signed_bytes w16 2 c.args.value c.to_le_bytes.result c.ranges.value c.to_le_bytes.ensures)) (signed_fits w16 c.args.value (2 ^ 15) c.ranges.value refl)
