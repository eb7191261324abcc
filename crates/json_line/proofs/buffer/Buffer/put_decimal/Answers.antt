use Rattle.std.proofs.Common.{ap, arith}
use Rattle.json_line.specs.Buffers.{Buffered}
use Rattle.json_line.proofs.PlacedInPart.{ends_within, put_within, put_behind}
use Rattle.json_line.proofs.buffer.Buffer.put_decimal.Goals as goal

pub overflow_add-self : goal.overflow_add-self
overflow_add-self c =
    let room = ap (λ (view : Buffered). view.room) c.self.view_is in
    let ends = ends_within c.self.inside.bytes.items c.as_mut_slice-memory.result.now c.self.inside.len 97 c.self.inside.bytes.len c.as_mut_slice-memory.ensures.value c.as_mut_slice-memory.ensures.len (omega (arith, room, c.requires)) c.place_next_decimal-count.ensures in
    record { fits = omega (arith, ends, c.as_mut_slice-memory.ensures.len) }

pub invariant_of-self : goal.invariant_of-self
invariant_of-self c =
    let room = ap (λ (view : Buffered). view.room) c.self.view_is in
    put_within c.self.inside.bytes.items c.as_mut_slice-memory.result.now c.self.inside.len 97 c.self.inside.bytes.len c.as_mut_slice-memory.ensures.value c.as_mut_slice-memory.ensures.len (omega (arith, room, c.requires)) c.place_next_decimal-count.ensures

pub returns : goal.returns
returns c =
    let room = ap (λ (view : Buffered). view.room) c.self.view_is in
    let text = ap (λ (view : Buffered). view.text) c.self.view_is in
    put_behind c.self.inside.bytes.items c.as_mut_slice-memory.result.now c.self.inside.len 97 c.self.inside.bytes.len c.as_mut_slice-memory.ensures.value c.as_mut_slice-memory.ensures.len (omega (arith, room, c.requires)) c.place_next_decimal-count.ensures c.args.self.now.text text
