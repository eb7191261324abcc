use Rattle.std.proofs.Common.{◌^◌, ℕ, List, ◌∷◌, ap, arith}
use Rattle.std.proofs.lemmas.Bool.{lt-ltb}
use Rattle.binary_json.specs.Values.{uint16}
use Rattle.binary_json_writing.proofs.owned.OwnedDocument.uint16.Goals as goal

pub number-requires : goal.number-requires
number-requires c = (uint16 c.args.value, ap (λ (s : List ℕ). 6 ∷ s) c.to_le_bytes.ensures, lt-ltb c.args.value (2 ^ 16) (omega arith))

pub returns : goal.returns
returns c = c.number.ensures (uint16 c.args.value) (ap (λ (s : List ℕ). 6 ∷ s) c.to_le_bytes.ensures) (lt-ltb c.args.value (2 ^ 16) (omega arith))
