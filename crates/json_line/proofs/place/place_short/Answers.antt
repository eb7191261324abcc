use Rattle.std.proofs.Common.{◌≡◌, ◌+◌, List, ℕ, length, take, subst, arith, length-take-le, take-take}
use Rattle.json.specs.Filled.{Placed}
use Rattle.json_line.proofs.BufferTexts.{placed_front}
use Rattle.json_line.proofs.place.place_short.Goals as goal

pub returns : goal.returns
returns c =
    let bytes = c.args.bytes.now in
    let few = c.requires.0 in
    let front : length (take 32 bytes) ≡ 32 = length-take-le 32 bytes c.requires.1 in
    subst (λ (l : List ℕ). Placed c.args.memory.now c.place_front.new.memory c.args.at l (c.args.at + c.args.len)) (take-take c.args.len 32 bytes few)
    (placed_front c.args.len (omega (arith, c.requires.2)) (omega (arith, front, few)) c.place_front.ensures)
