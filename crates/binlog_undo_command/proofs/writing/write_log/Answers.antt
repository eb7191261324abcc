use Rattle.std.proofs.Common.{append-nil, Option, List, ℕ, Some, None, [], ◌≡◌, refl, ap}
use Rattle.std.specs.Io.KnownBytes.{append_known}
use Rattle.std.proofs.lemmas.Result.{IfOk-weaker}
use Rattle.binlog_undo_command.proofs.writing.write_log.Goals as goal

no_more : (known : Option (List ℕ)) → append_known known [] ≡ known
no_more None = refl
no_more (Some bytes) = ap Some (append-nil bytes)

pub returns-in-Ok-write_whole-clause-ok : goal.returns-in-Ok-write_whole-clause-ok
returns-in-Ok-write_whole-clause-ok g c =
    IfOk-weaker c.close.result _ _
    (λ written ends. record {
      start = c.new.result;
      begins = rw (c.new.ensures, c.in-Ok.ensures.empty, c.in-Ok.ensures.inner, c.new-writer.ensures) (no_more (g.W.Write.contents c.args.writer));
      end = c.write_whole.new.output;
      whole = c.in-Ok-write_whole.ensures;
      ends = rw c.into_inner.ensures at ends;
    })
    c.close.ensures.ok
