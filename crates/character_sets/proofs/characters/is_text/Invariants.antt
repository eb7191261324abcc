use Rattle.std.proofs.Common.{◌≡◌, length}
use Rattle.std.specs.Prelude.{is_some}
use Rattle.character_sets.specs.Decoding.{decoded}
use Rattle.character_sets.proofs.characters.is_text.Given as goal

-- The bytes are a text if the rest is one.
abbrev pub invariant-loop-rest : goal.invariant-loop-rest
invariant-loop-rest l = is_some (decoded l.set l.rest) ≡ is_some (decoded l.set l.bytes)

abbrev pub decreases-loop-rest : goal.decreases-loop-rest
decreases-loop-rest l = length l.rest
