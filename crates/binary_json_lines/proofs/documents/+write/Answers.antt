use Rattle.std.proofs.Common.{◌≡◌, true, false, List, ℕ, subst, sym, ap, ◌∙◌, arith}
use Rattle.json.specs.Token.{begin_array, end_array, begin_object, end_object}
use Rattle.binary_json.specs.Values.{Json, entries_nesting, values, members as members_in}
use Rattle.binary_json.specs.Decoding.{entries_in}
use Rattle.binary_json.specs.Iterators.{elements_left, members_left}
use Rattle.binary_json.specs.Views.{json}
use Rattle.binary_json.specs.declared.iterators.Elements.{Elements}
use Rattle.binary_json.specs.declared.iterators.Members.{Members}
use Rattle.binary_json_lines.specs.HasText.{HasText}
use Rattle.binary_json_lines.specs.Documents.{value_parts, elements_parts, members_parts}
use Rattle.binary_json_lines.proofs.Begun.{no_further, both_further, some_further, with_text, without_text, with_key, without_key}
use Rattle.binary_json_lines.proofs.Every.{Every, MemberHasText, IsBelow, MemberIsBelow, elements_every, elements_from, members_every, members_from, values_below, members_below, every_first, every_rest, every_none, all_left, one_less}
use Rattle.binary_json_lines.proofs.PartLemmas.{all_values, all_members, member_parts, values_are, members_are, begun, one_more, ended, key_then_value}
use Rattle.binary_json_lines.proofs.documents.+write.Goals as goal

pub write_array-elements-init : goal.write_array-elements-init
write_array-elements-init t c =
    let es = entries_in c.args.array.now.container.kind c.args.array.now.container.bytes.now in
    let start : elements_left c.into_iter-value-iterator.result ≡ values es =
    ap (λ (i : Elements). elements_left i) c.into_iter-value-iterator.ensures.into_iter_gives ∙ c.iter-value-items.ensures in
    record {
      shown = begun begin_array c.args.line.now c.begin_array.new.self (all_values (elements_left c.into_iter-value-iterator.result)) (elements_parts es) (ap (λ (l : List Json). all_values l) start ∙ values_are es) c.in_ok-begin_array.ensures.added;
      texts = all_left HasText (elements_left c.into_iter-value-iterator.result) (values es) start;
      deep = subst (Every (IsBelow (entries_nesting es))) (sym start) (values_below es (entries_nesting es) (omega arith));
    }

pub write_array-elements-preserved : goal.write_array-elements-preserved
write_array-elements-preserved t c =
    let es = entries_in c.args.array.now.container.kind c.args.array.now.container.bytes.now in
    let steps = c.in-Some.ensures.steps in
    let v = json c.in-Some.value in
    let has : c.in_ok-write_text.field-0 ≡ true = grind (arith, c.if-not-branch.false) in
    let written = with_text c.in_ok-write_text.field-0 v c.elements.line c.write_text.new.line has c.in_ok-write_text.ensures in
    record {
      shown = one_more begin_array c.args.line.now c.elements.line c.write_text.new.line (value_parts v) _ _ (elements_parts es) (ap (λ (l : List Json). all_values l) steps) c.elements.invariant.shown written.1;
      texts = one_less HasText _ _ (values es) v steps written.0 c.elements.invariant.texts;
      deep = every_rest (IsBelow (entries_nesting es)) _ _ v steps c.elements.invariant.deep;
    }

pub write_array-returns-then-not-branch : goal.write_array-returns-then-not-branch
write_array-returns-then-not-branch t c =
    let es = entries_in c.args.array.now.container.kind c.args.array.now.container.bytes.now in
    let v = json c.in-Some.value in
    let hasnt : c.in_ok-write_text.field-0 ≡ false = grind (arith, c.if-not-branch.true) in
    let none = without_text c.in_ok-write_text.field-0 v c.elements.line c.write_text.new.line hasnt c.in_ok-write_text.ensures in (
      λ h. none.0 (every_first HasText (elements_left c.elements.value-iterator) _ v c.in-Some.ensures.steps (c.elements.invariant.texts.each (elements_every es h))),
      both_further c.args.line.now c.elements.line c.write_text.new.line (some_further begin_array c.args.line.now c.elements.line _ (elements_parts es) c.elements.invariant.shown) none.1,
    )

pub write_array-returns : goal.write_array-returns
write_array-returns t c =
    let es = entries_in c.args.array.now.container.kind c.args.array.now.container.bytes.now in (
      elements_from es (c.elements.invariant.texts.back (every_none HasText (elements_left c.elements.value-iterator) c.in-None.ensures.steps.0)),
      ended begin_array end_array c.args.line.now c.elements.line c.end_array.new.self _ (elements_parts es) (ap (λ (l : List Json). all_values l) c.in-None.ensures.steps.0) c.elements.invariant.shown c.in_ok-end_array.ensures.added,
    )

pub write_object-members-init : goal.write_object-members-init
write_object-members-init t c =
    let es = entries_in c.args.object.now.container.kind c.args.object.now.container.bytes.now in
    let start : members_left c.into_iter-key-iterator.result ≡ members_in es =
    ap (λ (i : Members). members_left i) c.into_iter-key-iterator.ensures.into_iter_gives ∙ c.iter-key-items.ensures in
    record {
      shown = begun begin_object c.args.line.now c.begin_object.new.self (all_members (members_left c.into_iter-key-iterator.result)) (members_parts es) (ap (λ (l : List (List ℕ × Json)). all_members l) start ∙ members_are es) c.in_ok-begin_object.ensures.added;
      texts = all_left MemberHasText (members_left c.into_iter-key-iterator.result) (members_in es) start;
      deep = subst (Every (MemberIsBelow (entries_nesting es))) (sym start) (members_below es (entries_nesting es) (omega arith));
    }

pub write_object-members-preserved : goal.write_object-members-preserved
write_object-members-preserved t c =
    let es = entries_in c.args.object.now.container.kind c.args.object.now.container.bytes.now in
    let steps = c.in-Some.ensures.steps in
    let m : List ℕ × Json = (c.in-Some.key.now, json c.in-Some.value) in
    let is : c.in_ok-key_if_utf8.field-0 ≡ true = grind (arith, c.if-not-branch.false) in
    let named = with_key c.in_ok-key_if_utf8.field-0 m.0 c.members.line c.key_if_utf8.new.self is c.in_ok-key_if_utf8.ensures.added in
    let has : c.in_ok-write_text.field-0 ≡ true = grind (arith, c.if-not-branch-2.false) in
    let written = with_text c.in_ok-write_text.field-0 m.1 c.key_if_utf8.new.self c.write_text.new.line has c.in_ok-write_text.ensures in
    record {
      shown = one_more begin_object c.args.line.now c.members.line c.write_text.new.line (member_parts m) _ _ (members_parts es) (ap (λ (l : List (List ℕ × Json)). all_members l) steps) c.members.invariant.shown
          (key_then_value c.members.line c.key_if_utf8.new.self c.write_text.new.line m.0 (value_parts m.1) named.1 written.1);
      texts = one_less MemberHasText _ _ (members_in es) m steps (named.0, written.0) c.members.invariant.texts;
      deep = every_rest (MemberIsBelow (entries_nesting es)) _ _ m steps c.members.invariant.deep;
    }

pub write_object-returns-then-not-branch : goal.write_object-returns-then-not-branch
write_object-returns-then-not-branch t c =
    let es = entries_in c.args.object.now.container.kind c.args.object.now.container.bytes.now in
    let m : List ℕ × Json = (c.in-Some.key.now, json c.in-Some.value) in
    let isnt : c.in_ok-key_if_utf8.field-0 ≡ false = grind (arith, c.if-not-branch.true) in
    let none = without_key c.in_ok-key_if_utf8.field-0 m.0 c.members.line c.key_if_utf8.new.self isnt c.in_ok-key_if_utf8.ensures.added in (
      λ h. none.0 (every_first MemberHasText (members_left c.members.key-iterator) _ m c.in-Some.ensures.steps (c.members.invariant.texts.each (members_every es h))).0,
      both_further c.args.line.now c.members.line c.key_if_utf8.new.self (some_further begin_object c.args.line.now c.members.line _ (members_parts es) c.members.invariant.shown) (no_further c.members.line c.key_if_utf8.new.self none.1),
    )

pub write_object-returns-then-not-branch-2 : goal.write_object-returns-then-not-branch-2
write_object-returns-then-not-branch-2 t c =
    let es = entries_in c.args.object.now.container.kind c.args.object.now.container.bytes.now in
    let m : List ℕ × Json = (c.in-Some.key.now, json c.in-Some.value) in
    let is : c.in_ok-key_if_utf8.field-0 ≡ true = grind (arith, c.if-not-branch.false) in
    let named = with_key c.in_ok-key_if_utf8.field-0 m.0 c.members.line c.key_if_utf8.new.self is c.in_ok-key_if_utf8.ensures.added in
    let hasnt : c.in_ok-write_text.field-0 ≡ false = grind (arith, c.if-not-branch-2.true) in
    let none = without_text c.in_ok-write_text.field-0 m.1 c.key_if_utf8.new.self c.write_text.new.line hasnt c.in_ok-write_text.ensures in (
      λ h. none.0 (every_first MemberHasText (members_left c.members.key-iterator) _ m c.in-Some.ensures.steps (c.members.invariant.texts.each (members_every es h))).1,
      both_further c.args.line.now c.members.line c.write_text.new.line (some_further begin_object c.args.line.now c.members.line _ (members_parts es) c.members.invariant.shown)
          (both_further c.members.line c.key_if_utf8.new.self c.write_text.new.line (_, named.1) none.1),
    )

pub write_object-returns : goal.write_object-returns
write_object-returns t c =
    let es = entries_in c.args.object.now.container.kind c.args.object.now.container.bytes.now in (
      members_from es (c.members.invariant.texts.back (every_none MemberHasText (members_left c.members.key-iterator) c.in-None.ensures.steps.0)),
      ended begin_object end_object c.args.line.now c.members.line c.end_object.new.self _ (members_parts es) (ap (λ (l : List (List ℕ × Json)). all_members l) c.in-None.ensures.steps.0) c.members.invariant.shown c.in_ok-end_object.ensures.added,
    )
