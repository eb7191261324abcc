use Rattle.std.proofs.Common.{List, ℕ}
use Rattle.std.specs.Fn.{FnReturnsAt}
use Rattle.crc32_ieee.specs.Checksums.{IsCrc32}
use Rattle.binlog_visits.proofs.OtherChecksums.{known_visited_other}
use Rattle.binlog_inputs.proofs.files.visit_by_crc32.Goals as goal

pub returns : goal.returns
returns g c =
    known_visited_other g.T.Visitor.visits g.T.Visitor.refuses {gives = λ (bytes : List ℕ) (given : ℕ). FnReturnsAt g.F.Fn c.args.checksum bytes given} IsCrc32 (g.I.ReadCounted.remaining c.args.input.now)
    _ c.visit_verified_counted.result _ c.visit_verified_counted.ensures.visits
    (λ bytes given. (c.requires.gives bytes given).0) (λ bytes given. (c.requires.gives bytes given).1)
