use Rattle.std.proofs.Common.{◌≡◌, ◌+◌, ℕ, List, [], ◌∷◌, ◌++◌, map, sym, ap, subst, ◌∙◌, arith}
use Rattle.std.specs.Prelude.{slice_range, IfOk, IfErr, OnOk}
use Rattle.std.proofs.lemmas.Result.{err_from_is_err_and}
use Rattle.binary_json.specs.Values.{Json}
use Rattle.binary_json.specs.Views.{json}
use Rattle.binary_json_writing.specs.Stored.{stored}
use Rattle.binary_json_writing.specs.Owned.{owned_value}
use Rattle.binary_json_writing.specs.Builders.{member_in}
use Rattle.binary_json_writing.specs.Changes.{entries_of, IsUnwritten, AreUnwritten}
use Rattle.binary_json_writing.proofs.EntryLists.{range_one, entry_deep, keyless_key}
use Rattle.binary_json_writing.proofs.EntryKeys.{no_key}
use Rattle.binary_json_writing.proofs.Unwritten.{end_unwritten}
use Rattle.binary_json_writing.proofs.Copies.{copied_whole, copy_unwritten, range_unwritten, step_unwritten, one_more, if_err}
use Rattle.binary_json_writing.proofs.rewriting.+owned.Goals as goal

-- ---- one entry

pub copy_entry-owned-requires : goal.copy_entry-owned-requires
copy_entry-owned-requires t c =
    let v = json c.args.value.now in
    let less = entry_deep v c.args.index (c.in-Some.key.now, json c.in-Some.entry) (sym c.in-Some.ensures) in
    (omega (arith, less, c.decreases), tt)

pub copy_entry-returns-in_err-copy-in-Some-clause-refused : goal.copy_entry-returns-in_err-copy-in-Some-clause-refused
copy_entry-returns-in_err-copy-in-Some-clause-refused t c =
    let p = err_from_is_err_and c.from_residual.result c.from_residual.ensures.1 in
    let ps = entries_of (json c.args.value.now) in
    rw (p.1, p.2) (range_unwritten c.args.list.now.keyed ps c.args.index (c.in-Some.key.now, json c.in-Some.entry) _ (sym c.in-Some.ensures) c.in_err-copy-in-Some.ensures.refused)

pub copy_entry-push_entry-requires : goal.copy_entry-push_entry-requires
copy_entry-push_entry-requires t c kind =
    keyless_key (json c.args.value.now) c.args.index (c.in-Some.key.now, json c.in-Some.entry) (sym c.requires.keyed ∙ kind) (sym c.in-Some.ensures)

pub copy_entry-returns-in_ok-copy-in-Some-clause-more : goal.copy_entry-returns-in_ok-copy-in-Some-clause-more
copy_entry-returns-in_ok-copy-in-Some-clause-more t c =
    let ps = entries_of (json c.args.value.now) in
    let key = c.in-Some.key.now in
    let one : (key, owned_value c.in_ok-copy-in-Some.copy) ∷ [] ≡ slice_range ps c.args.index (c.args.index + 1) =
    ap (λ (w : Json). (key, w) ∷ []) c.in_ok-copy-in-Some.ensures.made ∙ sym (range_one ps c.args.index (key, json c.in-Some.entry) (sym c.in-Some.ensures)) in
    subst (λ (l : List (List ℕ × Json)). OnOk c.push_entry.result (map member_in c.push_entry.new.list.entries.items ≡ map member_in c.args.list.now.entries.items ++ l)) one c.push_entry.ensures.more

pub copy_entry-returns-in_ok-copy-in-Some-clause-refused : goal.copy_entry-returns-in_ok-copy-in-Some-clause-refused
copy_entry-returns-in_ok-copy-in-Some-clause-refused t c =
    let ps = entries_of (json c.args.value.now) in
    let key = c.in-Some.key.now in
    let one : (key, owned_value c.in_ok-copy-in-Some.copy) ∷ [] ≡ slice_range ps c.args.index (c.args.index + 1) =
    ap (λ (w : Json). (key, w) ∷ []) c.in_ok-copy-in-Some.ensures.made ∙ sym (range_one ps c.args.index (key, json c.in-Some.entry) (sym c.in-Some.ensures)) in
    subst (λ (l : List (List ℕ × Json)). IfErr c.push_entry.result (AreUnwritten c.args.list.now.keyed l)) one c.push_entry.ensures.refused

pub copy_entry-returns-in-None-clause-more : goal.copy_entry-returns-in-None-clause-more
copy_entry-returns-in-None-clause-more t c = absurd (no_key (entries_of (json c.args.value.now)) c.args.index c.in-None.ensures c.requires.within)

-- ---- entries

pub copy_entries-returns-in_err-copy_entry-clause-refused : goal.copy_entries-returns-in_err-copy_entry-clause-refused
copy_entries-returns-in_err-copy_entry-clause-refused t c =
    let p = err_from_is_err_and c.from_residual.result c.from_residual.ensures.1 in
    rw (p.1, p.2) (step_unwritten c.entries.list.keyed c.args.list.now.keyed (entries_of (json c.args.value.now)) c.args.from c.entries.index c.args.to _ c.entries.invariant.keyed (omega arith) (omega arith) c.in_err-copy_entry.ensures.refused)

pub copy_entries-entries-preserved : goal.copy_entries-entries-preserved
copy_entries-entries-preserved t c = record {
  keyed = c.copy_entry.ensures.keyed ∙ c.entries.invariant.keyed;
  copied = one_more _ (map member_in c.entries.list.entries.items) _ (entries_of (json c.args.value.now)) c.args.from c.entries.index c.in_ok-copy_entry.ensures.more c.entries.invariant.copied (omega arith);
}

-- ---- arrays and objects

pub owned_entries-returns-in_err-copy_entries-clause-refused : goal.owned_entries-returns-in_err-copy_entries-clause-refused
owned_entries-returns-in_err-copy_entries-clause-refused t c =
    let p = err_from_is_err_and c.from_residual.result c.from_residual.ensures.1 in
    rw (p.1, p.2) (copy_unwritten c.args.value.now c.new-list.result.keyed c.entry_count.result _ c.requires (c.new-list.ensures.keyed ∙ c.is_object.ensures) c.entry_count.ensures c.in_err-copy_entries.ensures.refused)

pub owned_entries-returns-clause-made : goal.owned_entries-returns-clause-made
owned_entries-returns-clause-made t c =
    let list = c.copy_entries.new.list in
    let kind = c.copy_entries.ensures.keyed ∙ c.new-list.ensures.keyed ∙ c.is_object.ensures in
    let all = copied_whole c.args.value.now list.keyed list.entries.items c.new-list.result.entries.items c.entry_count.result c.requires kind c.new-list.ensures.none c.entry_count.ensures c.in_ok-copy_entries.ensures.more in
    subst (λ (v : Json). IfOk c.finish.result (λ d. owned_value d ≡ v)) all c.finish.ensures.made

pub owned_entries-returns-clause-refused : goal.owned_entries-returns-clause-refused
owned_entries-returns-clause-refused t c =
    let list = c.copy_entries.new.list in
    let kind = c.copy_entries.ensures.keyed ∙ c.new-list.ensures.keyed ∙ c.is_object.ensures in
    let all = copied_whole c.args.value.now list.keyed list.entries.items c.new-list.result.entries.items c.entry_count.result c.requires kind c.new-list.ensures.none c.entry_count.ensures c.in_ok-copy_entries.ensures.more in
    if_err c.finish.result _ _ (λ e is. subst (λ (v : Json). IsUnwritten v e) all (end_unwritten list.keyed (stored list.keyed list.entries.items) e is)) c.finish.ensures.refused
