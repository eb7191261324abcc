use Rattle.std.proofs.Common.{◌^◌, ℕ, List, ◌∷◌, ap, arith}
use Rattle.std.proofs.lemmas.Bool.{lt-ltb}
use Rattle.binary_json.specs.Values.{uint32}
use Rattle.binary_json_writing.proofs.owned.OwnedDocument.uint32.Goals as goal

pub number-requires : goal.number-requires
number-requires c = (uint32 c.args.value, ap (λ (s : List ℕ). 8 ∷ s) c.to_le_bytes.ensures, lt-ltb c.args.value (2 ^ 32) (omega arith))

pub returns : goal.returns
returns c = c.number.ensures (uint32 c.args.value) (ap (λ (s : List ℕ). 8 ∷ s) c.to_le_bytes.ensures) (lt-ltb c.args.value (2 ^ 32) (omega arith))
