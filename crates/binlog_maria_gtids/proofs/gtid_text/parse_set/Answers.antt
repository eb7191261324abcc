use Rattle.std.proofs.Common.{◌∙◌, Bor, List, ℕ, ap, map, subst}
use Rattle.binlog_maria_gtids.specs.GtidReading.{AreRead, parts_of}
use Rattle.binlog_maria_gtids.proofs.GtidGrammar.{texts_from_read}
use Rattle.binlog_maria_gtids.proofs.gtid_text.parse_set.Goals as goal

pub returns-clause-ok : goal.returns-clause-ok
returns-clause-ok c =
    let gtids = c.in_ok-gtids.gtids.items in
    let parts = ap (map (λ (part : Bor (List ℕ)). part.now)) c.deref.ensures.value ∙ c.in_ok-parts.ensures.ok in
    let read : AreRead (parts_of c.args.text.now) gtids = subst (λ (ps : List (List ℕ)). AreRead ps gtids) parts c.in_ok-gtids.ensures.ok in
    (gtids, texts_from_read gtids c.args.text.now read, c.new.ensures)
