use Rattle.std.proofs.Common.{◌^◌, ℕ, List, ◌∷◌, ap, arith}
use Rattle.std.proofs.lemmas.Bool.{lt-ltb}
use Rattle.binary_json.specs.Values.{uint64}
use Rattle.binary_json_writing.proofs.owned.OwnedDocument.uint64.Goals as goal

pub number-requires : goal.number-requires
number-requires c = (uint64 c.args.value, ap (λ (s : List ℕ). 10 ∷ s) c.to_le_bytes.ensures, lt-ltb c.args.value (2 ^ 64) (omega arith))

pub returns : goal.returns
returns c = c.number.ensures (uint64 c.args.value) (ap (λ (s : List ℕ). 10 ∷ s) c.to_le_bytes.ensures) (lt-ltb c.args.value (2 ^ 64) (omega arith))
