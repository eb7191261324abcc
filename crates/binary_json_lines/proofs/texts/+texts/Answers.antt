use Rattle.std.proofs.Common.{◌≡◌, subst, sym, ap, ◌∙◌, arith}
use Rattle.binary_json.specs.Values.{entries_nesting, values, members as members_in}
use Rattle.binary_json.specs.Decoding.{entries_in}
use Rattle.binary_json.specs.Iterators.{elements_left, members_left}
use Rattle.binary_json.specs.Views.{json}
use Rattle.binary_json.specs.declared.iterators.Elements.{Elements}
use Rattle.binary_json.specs.declared.iterators.Members.{Members}
use Rattle.binary_json_lines.specs.HasText.{HasText}
use Rattle.binary_json_lines.proofs.Every.{Every, MemberHasText, IsBelow, MemberIsBelow, elements_every, elements_from, members_every, members_from, values_below, members_below, every_first, every_none, all_left}
use Rattle.binary_json_lines.proofs.texts.+texts.Goals as goal

pub elements_have_text-elements-init : goal.elements_have_text-elements-init
elements_have_text-elements-init t c =
    let es = entries_in c.args.array.now.container.kind c.args.array.now.container.bytes.now in
    let start : elements_left c.into_iter-value-iterator.result ≡ values es =
    ap (λ (i : Elements). elements_left i) c.into_iter-value-iterator.ensures.into_iter_gives ∙ c.iter-value-items.ensures in
    record {
      texts = all_left HasText (elements_left c.into_iter-value-iterator.result) (values es) start;
      deep = subst (Every (IsBelow (entries_nesting es))) (sym start) (values_below es (entries_nesting es) (omega arith));
    }

pub elements_have_text-returns-then-not-value_has_text-clause-havent : goal.elements_have_text-returns-then-not-value_has_text-clause-havent
elements_have_text-returns-then-not-value_has_text-clause-havent t c = λ h.
    let es = entries_in c.args.array.now.container.kind c.args.array.now.container.bytes.now in
    let hasnt = rw c.if-not-value_has_text.true at c.value_has_text.ensures.hasnt in
    hasnt (every_first HasText (elements_left c.elements.value-iterator) _ (json c.in-Some.value) c.in-Some.ensures.steps (c.elements.invariant.texts.each (elements_every es h)))

pub elements_have_text-returns-clause-have : goal.elements_have_text-returns-clause-have
elements_have_text-returns-clause-have t c =
    let es = entries_in c.args.array.now.container.kind c.args.array.now.container.bytes.now in
    elements_from es (c.elements.invariant.texts.back (every_none HasText (elements_left c.elements.value-iterator) c.in-None.ensures.steps.0))

pub members_have_text-members-init : goal.members_have_text-members-init
members_have_text-members-init t c =
    let es = entries_in c.args.object.now.container.kind c.args.object.now.container.bytes.now in
    let start : members_left c.into_iter-key-iterator.result ≡ members_in es =
    ap (λ (i : Members). members_left i) c.into_iter-key-iterator.ensures.into_iter_gives ∙ c.iter-key-items.ensures in
    record {
      texts = all_left MemberHasText (members_left c.into_iter-key-iterator.result) (members_in es) start;
      deep = subst (Every (MemberIsBelow (entries_nesting es))) (sym start) (members_below es (entries_nesting es) (omega arith));
    }

pub members_have_text-returns-then-not-is_utf8-clause-havent : goal.members_have_text-returns-then-not-is_utf8-clause-havent
members_have_text-returns-then-not-is_utf8-clause-havent t c = λ h.
    let es = entries_in c.args.object.now.container.kind c.args.object.now.container.bytes.now in
    let isnt = rw c.if-not-is_utf8.true at c.is_utf8.ensures.isnt in
    isnt (every_first MemberHasText (members_left c.members.key-iterator) _ (c.in-Some.key.now, json c.in-Some.value) c.in-Some.ensures.steps (c.members.invariant.texts.each (members_every es h))).0

pub members_have_text-returns-then-not-value_has_text-clause-havent : goal.members_have_text-returns-then-not-value_has_text-clause-havent
members_have_text-returns-then-not-value_has_text-clause-havent t c = λ h.
    let es = entries_in c.args.object.now.container.kind c.args.object.now.container.bytes.now in
    let hasnt = rw c.if-not-value_has_text.true at c.value_has_text.ensures.hasnt in
    hasnt (every_first MemberHasText (members_left c.members.key-iterator) _ (c.in-Some.key.now, json c.in-Some.value) c.in-Some.ensures.steps (c.members.invariant.texts.each (members_every es h))).1

pub members_have_text-returns-clause-have : goal.members_have_text-returns-clause-have
members_have_text-returns-clause-have t c =
    let es = entries_in c.args.object.now.container.kind c.args.object.now.container.bytes.now in
    members_from es (c.members.invariant.texts.back (every_none MemberHasText (members_left c.members.key-iterator) c.in-None.ensures.steps.0))
