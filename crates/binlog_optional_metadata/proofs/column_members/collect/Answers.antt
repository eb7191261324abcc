use Rattle.std.proofs.Common.{◌≡◌, ℕ, List, None, refl, ap, ◌∙◌}
use Rattle.std.proofs.lemmas.Iterator.Consumers.{YieldsList-from_first, YieldsList-end}
use Rattle.std.specs.Borrow.{Bor}
use Rattle.binlog_optional_metadata.specs.Names.{names_of}
use Rattle.binlog_optional_metadata.specs.Facts.{texts_of}
use Rattle.binlog_optional_metadata.proofs.column_members.collect.Goals as goal

pub returns : goal.returns
returns c =
    let start : names_of c.into_iter-text-iterator.result ≡ names_of c.args.members = ap names_of c.into_iter-text-iterator.ensures.into_iter_gives in
    let ended = YieldsList-end (YieldsList-from_first (λ (text : Bor (List ℕ)). text.now) names_of (names_of c.args.members) start) c.members.yielded c.members.text-iterator c.members.yielded_by None
    c.next.new.self refl c.in-None.ensures.steps in
    ap texts_of c.members.invariant ∙ ended.0
