use Rattle.std.proofs.Common.{◌≡◌, true, List, refl, sym, subst, ◌∙◌}
use Rattle.std.specs.Prelude.{option_copied}
use Rattle.binary_json.specs.Values.{Json}
use Rattle.binary_json.specs.Views.{document_json}
use Rattle.binary_json.specs.Diffs.{Diff, Read}
use Rattle.binary_json_writing.specs.Owned.{owned_value}
use Rattle.binary_json_writing.specs.Applied.{AllWrite, NotApplied}
use Rattle.binary_json_lines.specs.HasText.{HasText}
use Rattle.binlog_json_values.specs.Documents.{are_few, document_after}
use Rattle.binlog_json_values.proofs.DiffLists.{known_after, none_textless, none_refused, none_of_others, none_of_many}
use Rattle.binlog_json_values.proofs.documents.document_after.Goals as goal

pub returns-in_default : goal.returns-in_default
unfolding document_after
returns-in_default c = rw c.in_default.is refl

pub returns-then-not-are_few : goal.returns-then-not-are_few
returns-then-not-are_few c = sym (none_of_many (option_copied c.args.before) c.args.diffs.now (sym c.are_few.ensures ∙ c.if-not-are_few.true))

pub returns-in_default-read : goal.returns-in_default-read
returns-in_default-read c = rw c.in-Some.is (sym (none_of_others c.in-Some.bytes.now c.args.diffs.now (λ v is. c.in_default-read.ensures.only v is)))

pub returns-then-has_text : goal.returns-then-has_text
returns-then-has_text c =
    let v = document_json c.in-Ok.document in
    let w = owned_value c.in-Ok-apply.after in
    let all = subst (λ (ds : List (Read Diff)). AllWrite ds v w) c.new.ensures c.in-Ok-apply.ensures.made in
    let few : are_few c.args.diffs.now ≡ true = sym c.are_few.ensures ∙ c.if-not-are_few.false in
    let text = subst (λ (u : Json). HasText u) c.document.ensures c.if-has_text.ensures.has in
    rw c.in-Some.is (sym (known_after c.in-Some.bytes.now c.args.diffs.now v w few c.in-Ok.ensures.found all text))

pub returns-else-has_text : goal.returns-else-has_text
returns-else-has_text c =
    let v = document_json c.in-Ok.document in
    let w = owned_value c.in-Ok-apply.after in
    let all = subst (λ (ds : List (Read Diff)). AllWrite ds v w) c.new.ensures c.in-Ok-apply.ensures.made in
    rw c.in-Some.is (sym (none_textless c.in-Some.bytes.now c.args.diffs.now v w c.in-Ok.ensures.found all (λ text. c.if-has_text.ensures.hasnt (subst (λ (u : Json). HasText u) (sym c.document.ensures) text))))

pub returns-else-is_memory : goal.returns-else-is_memory
returns-else-is_memory c =
    let v = document_json c.in-Ok.document in
    let why = subst (λ (ds : List (Read Diff)). NotApplied ds v c.in-Err.error) c.new.ensures c.in-Err.ensures.refused in
    rw c.in-Some.is (sym (none_refused c.in-Some.bytes.now c.args.diffs.now v c.in-Err.error c.in-Ok.ensures.found why c.if-is_memory.ensures.others))
