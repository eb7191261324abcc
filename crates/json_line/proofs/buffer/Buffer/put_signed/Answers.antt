use Rattle.std.proofs.Common.{◌++◌, ℤ, ap, ◌∙◌, arith}
use Rattle.std.proofs.Math.Facts.{to_z-of_z}
use Rattle.std.specs.Fmt.{signed_decimal}
use Rattle.json_line.specs.Buffers.{Buffered, comma}
use Rattle.json_line.proofs.PlacedInPart.{ends_within, put_within, put_behind}
use Rattle.json_line.proofs.buffer.Buffer.put_signed.Goals as goal

pub overflow_add-self : goal.overflow_add-self
overflow_add-self c =
    let room = ap (λ (view : Buffered). view.room) c.self.view_is in
    let ends = ends_within c.self.inside.bytes.items c.as_mut_slice-memory.result.now c.self.inside.len 22 c.self.inside.bytes.len c.as_mut_slice-memory.ensures.value c.as_mut_slice-memory.ensures.len (omega (arith, room, c.requires)) c.place_next_signed-count.ensures in
    record { fits = omega (arith, ends, c.as_mut_slice-memory.ensures.len) }

pub invariant_of-self : goal.invariant_of-self
invariant_of-self c =
    let room = ap (λ (view : Buffered). view.room) c.self.view_is in
    put_within c.self.inside.bytes.items c.as_mut_slice-memory.result.now c.self.inside.len 22 c.self.inside.bytes.len c.as_mut_slice-memory.ensures.value c.as_mut_slice-memory.ensures.len (omega (arith, room, c.requires)) c.place_next_signed-count.ensures

pub returns : goal.returns
returns c =
    let room = ap (λ (view : Buffered). view.room) c.self.view_is in
    let text = ap (λ (view : Buffered). view.text) c.self.view_is in
    put_behind c.self.inside.bytes.items c.as_mut_slice-memory.result.now c.self.inside.len 22 c.self.inside.bytes.len c.as_mut_slice-memory.ensures.value c.as_mut_slice-memory.ensures.len (omega (arith, room, c.requires)) c.place_next_signed-count.ensures c.args.self.now.text text
    ∙ ap (λ (z : ℤ). c.args.self.now.text ++ (comma c.args.after_value ++ signed_decimal z)) (to_z-of_z c.ranges.number)
