use Rattle.std.proofs.Common.{◌≡◌, ◌∷◌, [], ◌++◌, List, true, false, refl, sym, ap, subst, ◌∙◌, append_assoc, arith}
use Rattle.std.specs.Prelude.{codes}
use Rattle.json.specs.Token.{Token, begin_object, end_object, key}
use Rattle.binary_json.specs.Values.{Json}
use Rattle.binary_json.specs.Views.{document_json}
use Rattle.binary_json.proofs.Documents.{accepted}
use Rattle.binary_json_lines.proofs.Begun.{if_text, if_none}
use Rattle.binlog_json_values.specs.Parts.{Shows}
use Rattle.binlog_json_values.specs.Documents.{shown_parts}
use Rattle.binlog_json_values.proofs.JsonDocuments.{has_one, has_none, no_document}
use Rattle.binlog_json_values.proofs.Parts.{shows_exact, shows_both, shows_document}
use Rattle.binlog_json_values.proofs.documents.write_shown.Goals as goal

pub returns-in_default : goal.returns-in_default
returns-in_default c = (no_document c.args.bytes.now (λ v is. c.in_default.ensures.only v is), refl)

pub cut-requires : goal.cut-requires
cut-requires c =
    let hasnt : c.in_ok-write_document_if_text.field-0 ≡ false = grind (arith, c.if-not-branch.true) in
    let none = if_none c.in_ok-write_document_if_text.field-0 (document_json c.in-Ok.document) c.key.new.self c.write_document_if_text.new.line hasnt c.in_ok-write_document_if_text.ensures in
    record {
      before = c.args.line.now;
      after = begin_object ∷ key (codes "json") ∷ [];
      stands = c.mark-start.ensures;
      is = none.1 ∙ c.in_ok-key.ensures.added ∙ ap (λ (l : List Token). l ++ key (codes "json") ∷ []) c.in_ok-begin_object.ensures.added ∙ append_assoc c.args.line.now (begin_object ∷ []) (key (codes "json") ∷ []);
    }

pub returns-then-not-branch : goal.returns-then-not-branch
returns-then-not-branch c =
    let hasnt : c.in_ok-write_document_if_text.field-0 ≡ false = grind (arith, c.if-not-branch.true) in
    let none = if_none c.in_ok-write_document_if_text.field-0 (document_json c.in-Ok.document) c.key.new.self c.write_document_if_text.new.line hasnt c.in_ok-write_document_if_text.ensures in
    let is = none.1 ∙ c.in_ok-key.ensures.added ∙ ap (λ (l : List Token). l ++ key (codes "json") ∷ []) c.in_ok-begin_object.ensures.added ∙ append_assoc c.args.line.now (begin_object ∷ []) (key (codes "json") ∷ []) in
    (has_none c.args.bytes.now (document_json c.in-Ok.document) c.in-Ok.ensures.found none.0, c.cut.ensures c.args.line.now (begin_object ∷ key (codes "json") ∷ []) c.mark-start.ensures is)

pub returns : goal.returns
returns c =
    let v = document_json c.in-Ok.document in
    let has : c.in_ok-write_document_if_text.field-0 ≡ true = grind (arith, c.if-not-branch.false) in
    let written = if_text c.in_ok-write_document_if_text.field-0 v c.key.new.self c.write_document_if_text.new.line has c.in_ok-write_document_if_text.ensures in
    let begun = shows_exact _ _ (begin_object ∷ []) c.in_ok-begin_object.ensures.added in
    let named = shows_exact _ _ (key (codes "json") ∷ []) c.in_ok-key.ensures.added in
    let value = shows_document _ _ _ written.1 in
    let ended = shows_exact _ _ (end_object ∷ []) c.in_ok-end_object.ensures.added in
    let all : Shows c.args.line.now c.end_object.new.self (shown_parts v) = shows_both (shows_both begun named) (shows_both value ended) in
    (has_one c.args.bytes.now v c.in-Ok.ensures.found written.0, subst (λ (w : Json). Shows c.args.line.now c.end_object.new.self (shown_parts w)) (sym (accepted c.args.bytes.now v c.in-Ok.ensures.found).1) all)
