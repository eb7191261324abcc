use Rattle.std.proofs.Common.{sym, ◌∙◌}
use Rattle.binlog_gtid_listing.proofs.Listings.{all_lines_are_one}
use Rattle.binlog_gtid_listing.proofs.laws.listings_are_one.Goals as goal

pub returns : goal.returns
returns c items groups others lines texts are are_too listed listed_too =
    all_lines_are_one groups others lines texts are.ascending are_too.ascending (λ pair n. are.same pair n ∙ sym (are_too.same pair n)) listed listed_too
