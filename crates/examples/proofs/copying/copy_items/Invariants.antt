use Rattle.std.proofs.Common.{◌≡◌}
use Rattle.std.specs.Io.KnownBytes.{prepend_known}
use Rattle.binlog_file.specs.FileHeader.{file_header}
use Rattle.binlog_file.specs.Files.{unread, verification_of}
use Rattle.binlog_visits.specs.Places.{place_of}
use Rattle.examples.proofs.Steps.{IsWrittenSoFar}
use Rattle.examples.proofs.copying.copy_items.Given as goal

abbrev pub invariant-items : goal.invariant-items
invariant-items g l = record {
  written : IsWrittenSoFar (g.V.Verification.handles (verification_of l.fn.file)) (prepend_known file_header (unread g.R.ReadCounted.remaining l.fn.file)) (place_of g.R.ReadCounted.remaining l.file)
      (g.W.Write.contents l.fn.output) (g.W.Write.contents l.output) l.counter;
  same : verification_of l.file ≡ verification_of l.fn.file;
}
