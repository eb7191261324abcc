use Rattle.std.proofs.Common.{◌≡◌}
use Rattle.binlog_file.specs.Files.{verification_of}
use Rattle.examples.proofs.verifying.count_items.Given as goal

abbrev pub invariant-items : goal.invariant-items
invariant-items g l = verification_of l.file ≡ verification_of l.fn.file
