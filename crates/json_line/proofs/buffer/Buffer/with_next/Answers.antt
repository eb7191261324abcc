use Rattle.std.proofs.Common.{◌+◌, ◌++◌, take, ap, ◌∙◌}
use Rattle.std.proofs.Math.Seq.{take-add}
use Rattle.json_line.specs.Buffers.{Buffered}
use Rattle.json_line.proofs.buffer.Buffer.with_next.Goals as goal

pub returns : goal.returns
returns c =
    ap (take (c.self.inside.len + 1)) c.deref.ensures.value ∙ take-add c.self.inside.len 1 c.self.inside.bytes.items
    ∙ ap (λ (view : Buffered). view.text ++ view.next) c.self.view_is
