use Rattle.std.proofs.Common.{◌^◌, ℕ, List, ◌∷◌, ap, arith}
use Rattle.std.proofs.lemmas.Bool.{lt-ltb}
use Rattle.binary_json.specs.Values.{double}
use Rattle.binary_json_writing.proofs.owned.OwnedDocument.from_bits.Goals as goal

pub number-requires : goal.number-requires
number-requires c = (double c.args.bits, ap (λ (s : List ℕ). 11 ∷ s) c.to_le_bytes.ensures, lt-ltb c.args.bits (2 ^ 64) (omega arith))

pub returns : goal.returns
returns c = c.number.ensures (double c.args.bits) (ap (λ (s : List ℕ). 11 ∷ s) c.to_le_bytes.ensures) (lt-ltb c.args.bits (2 ^ 64) (omega arith))
