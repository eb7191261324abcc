use Rattle.std.proofs.Common.{List, ℕ}
use Rattle.std.specs.Fn.{FnReturnsAt}
use Rattle.binlog_listing.specs.Listing.{item_line, MayGrow}
use Rattle.binlog_visits.proofs.OtherListings.{known_listed_other}
use Rattle.crc32_ieee.specs.Checksums.{IsCrc32}
use Rattle.examples.proofs.verifying.list_by.Goals as goal

pub returns : goal.returns
returns g c =
    known_listed_other {gives = λ (bytes : List ℕ) (given : ℕ). FnReturnsAt g.F.Fn c.args.checksum bytes given} IsCrc32 item_line MayGrow (g.R.Read.remaining c.args.input) (g.W.Write.contents c.args.output.now)
    c.list_verified.result (g.W.Write.contents c.list_verified.new.output) c.list_verified.ensures
    (λ bytes given. (c.requires.gives bytes given).0) (λ bytes given. (c.requires.gives bytes given).1)
