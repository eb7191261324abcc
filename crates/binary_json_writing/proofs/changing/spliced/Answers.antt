use Rattle.std.proofs.Common.{◌≡◌, refl, subst, ◌∙◌}
use Rattle.std.specs.Prelude.{option_map, IfOk}
use Rattle.std.proofs.lemmas.Result.{err_from_is_err_and}
use Rattle.binary_json.specs.Values.{Json}
use Rattle.binary_json.specs.Views.{json}
use Rattle.binary_json_writing.specs.Stored.{stored}
use Rattle.binary_json_writing.specs.Owned.{owned_value}
use Rattle.binary_json_writing.specs.Changes.{new_entries, IsUnwritten}
use Rattle.binary_json_writing.proofs.Copies.{if_err}
use Rattle.binary_json_writing.proofs.Unwritten.{end_unwritten}
use Rattle.binary_json_writing.proofs.Splices.{splice_made, front_fails, new_fails, back_fails}
use Rattle.binary_json_writing.proofs.changing.spliced.Goals as goal

pub returns-in_err-copy_entries-clause-refused : goal.returns-in_err-copy_entries-clause-refused
returns-in_err-copy_entries-clause-refused c =
    let p = err_from_is_err_and c.from_residual.result c.from_residual.ensures.1 in
    let new = new_entries c.args.key.now (option_map owned_value c.args.new) in
    let kind = c.new-list.ensures.keyed ∙ c.is_object.ensures in
    rw (p.1, p.2) (front_fails (json c.args.value.now) c.new-list.result.keyed c.args.index c.args.taken c.entry_count-count.result new c.requires.container kind c.entry_count-count.ensures _ _ refl c.in_err-copy_entries.ensures.refused)

pub returns-in_err-push_new-clause-refused : goal.returns-in_err-push_new-clause-refused
returns-in_err-push_new-clause-refused c =
    let p = err_from_is_err_and c.from_residual-in_err-push_new.result c.from_residual-in_err-push_new.ensures.1 in
    let new = new_entries c.args.key.now (option_map owned_value c.args.new) in
    let kind = c.new-list.ensures.keyed ∙ c.is_object.ensures in
    rw (p.1, p.2) (new_fails (json c.args.value.now) c.new-list.result.keyed c.args.index c.args.taken c.entry_count-count.result new c.requires.container kind c.entry_count-count.ensures _ _ c.copy_entries.ensures.keyed c.in_err-push_new.ensures.refused)

pub returns-in_err-copy_entries-2-clause-refused : goal.returns-in_err-copy_entries-2-clause-refused
returns-in_err-copy_entries-2-clause-refused c =
    let p = err_from_is_err_and c.from_residual-in_err-copy_entries-2.result c.from_residual-in_err-copy_entries-2.ensures.1 in
    let new = new_entries c.args.key.now (option_map owned_value c.args.new) in
    let kind = c.new-list.ensures.keyed ∙ c.is_object.ensures in
    rw (p.1, p.2) (back_fails (json c.args.value.now) c.new-list.result.keyed c.args.index c.args.taken c.entry_count-count.result new c.requires.container kind c.entry_count-count.ensures _ _ (c.push_new.ensures.keyed ∙ c.copy_entries.ensures.keyed) c.in_err-copy_entries-2.ensures.refused)

pub returns-clause-made : goal.returns-clause-made
returns-clause-made c =
    let new = new_entries c.args.key.now (option_map owned_value c.args.new) in
    let list = c.copy_entries-2.new.list in
    let kind = c.copy_entries-2.ensures.keyed ∙ c.push_new.ensures.keyed ∙ c.copy_entries.ensures.keyed ∙ c.new-list.ensures.keyed ∙ c.is_object.ensures in
    let made = splice_made (json c.args.value.now) list.keyed c.args.index c.args.taken c.entry_count-count.result new c.requires.container kind c.entry_count-count.ensures c.new-list.result.entries.items _ _ list.entries.items
    c.new-list.ensures.none c.in_ok-copy_entries.ensures.more c.in_ok-push_new.ensures.more c.in_ok-copy_entries-2.ensures.more in
    subst (λ (w : Json). IfOk c.finish.result (λ d. owned_value d ≡ w)) made c.finish.ensures.made

pub returns-clause-refused : goal.returns-clause-refused
returns-clause-refused c =
    let new = new_entries c.args.key.now (option_map owned_value c.args.new) in
    let list = c.copy_entries-2.new.list in
    let kind = c.copy_entries-2.ensures.keyed ∙ c.push_new.ensures.keyed ∙ c.copy_entries.ensures.keyed ∙ c.new-list.ensures.keyed ∙ c.is_object.ensures in
    let made = splice_made (json c.args.value.now) list.keyed c.args.index c.args.taken c.entry_count-count.result new c.requires.container kind c.entry_count-count.ensures c.new-list.result.entries.items _ _ list.entries.items
    c.new-list.ensures.none c.in_ok-copy_entries.ensures.more c.in_ok-push_new.ensures.more c.in_ok-copy_entries-2.ensures.more in
    if_err c.finish.result _ _ (λ e is. subst (λ (w : Json). IsUnwritten w e) made (end_unwritten list.keyed (stored list.keyed list.entries.items) e is)) c.finish.ensures.refused
