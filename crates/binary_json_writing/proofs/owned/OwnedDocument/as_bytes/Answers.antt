use Rattle.std.proofs.Common.{ℕ, List, sym, subst}
use Rattle.binary_json.specs.Grammar.{IsDocument}
use Rattle.binary_json_writing.specs.Owned.{owned_value}
use Rattle.binary_json_writing.proofs.Kept.{is_document}
use Rattle.binary_json_writing.proofs.owned.OwnedDocument.as_bytes.Goals as goal

pub returns-clause-value : goal.returns-clause-value
returns-clause-value c =
    let self = c.args.self.now in
    subst (λ (s : List ℕ). IsDocument s (owned_value self)) (sym c.deref.ensures.value) (is_document self.bytes.items self.depth self.exact self.possible self.deep self.shallow)
