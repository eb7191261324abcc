-- A GTID that was read is its own normal form in the format in which it is written.
use Rattle.std.proofs.Common.{◌≡◌, ℕ, Option, Some, List, sym, subst, None, refl, ap, ◌∙◌, Bool, true, false, eqb}
use Rattle.binlog_wire.specs.Formats.{last, nowhere}
use Rattle.binlog_variable_fields.specs.Chosen.{choose}
use Rattle.binlog_gtids.specs.Gtids.{gtid, by_tag, raw_type_of, anonymous_of, anonymous}
use Rattle.binlog_gtids.specs.Formats.{tagged, untagged}
use Rattle.binlog_gtids.specs.declared.gtid_event.GtidEvent.{GtidEvent}
use Rattle.binlog_gtids.specs.Untagged.{untagged_with, Head, Clock, is_untagged_type}
use Rattle.binlog_gtids.specs.Tagged.{tag_in}
use Rattle.binlog_gtids.specs.declared.anonymous_gtid_event.AnonymousGtidEvent.{AnonymousGtidEvent}

-- The format with a tag, and that without.
with_tag : (g : GtidEvent) (t : List ℕ) → g.tag ≡ Some t → tagged.normal g ≡ g → (gtid (raw_type_of g)).normal g ≡ g
with_tag g t e h = subst (λ (o : Option (List ℕ)). (gtid (by_tag o 42 33)).normal g ≡ g) (sym e) h

without_tag : (g : GtidEvent) → g.tag ≡ None → untagged.normal g ≡ g → (gtid (raw_type_of g)).normal g ≡ g
without_tag g e h = subst (λ (o : Option (List ℕ)). (gtid (by_tag o 42 33)).normal g ≡ g) (sym e) h

-- With or without a clock, there is no tag.
no_tag : (h : Head) (c : Option Clock) → (untagged_with h c).tag ≡ None
no_tag h (Some c) = refl
no_tag h None = refl

tagged_is_normal : (s : List ℕ) (g : GtidEvent) (r : List ℕ) → tagged.spells s g r → (gtid (raw_type_of g)).normal g ≡ g
tagged_is_normal s g r h =
    let normal : tagged.normal g ≡ g = tagged.settled s g r h in
    let tag : g.tag ≡ Some (tag_in g.tag) = sym (ap (λ (v : GtidEvent). v.tag) normal) in
    with_tag g (tag_in g.tag) tag normal

untagged_has_none : (s : List ℕ) (g : GtidEvent) (r : List ℕ) → untagged.spells s g r → g.tag ≡ None
untagged_has_none s g r h =
    let made : untagged_with h.0.0 h.0.1 ≡ g = cc in
    ap (λ (v : GtidEvent). v.tag) (sym made) ∙ no_tag h.0.0 h.0.1

untagged_is_normal : (s : List ℕ) (g : GtidEvent) (r : List ℕ) → untagged.spells s g r → (gtid (raw_type_of g)).normal g ≡ g
untagged_is_normal s g r h = without_tag g (untagged_has_none s g r h) (untagged.settled s g r h)

by_types : (raw : ℕ) (s : List ℕ) (g : GtidEvent) (r : List ℕ) (is_tagged is_untagged : Bool)
    → (choose {place = last} is_tagged tagged (choose is_untagged untagged (nowhere raw))).spells s g r → (gtid (raw_type_of g)).normal g ≡ g
by_types raw s g r true is_untagged h = tagged_is_normal s g r h
by_types raw s g r false true h = untagged_is_normal s g r h
by_types raw s g r false false h = absurd h

-- Under any raw type under which it was read.
pub gtid_normal : (raw : ℕ) (s : List ℕ) (g : GtidEvent) (r : List ℕ) → (gtid raw).spells s g r → (gtid (raw_type_of g)).normal g ≡ g
gtid_normal raw s g r h = by_types raw s g r (eqb raw 42) (is_untagged_type raw) h

-- The same for an anonymous GTID that was read without a tag.
pub anonymous_normal : (raw : ℕ) (s : List ℕ) (event : AnonymousGtidEvent) (r : List ℕ) → (anonymous raw).spells s event r → event.0.tag ≡ None
    → (anonymous 34).normal event ≡ event
anonymous_normal raw s event r h none =
    let normal : (gtid 33).normal event.0 ≡ event.0 = subst (λ (o : Option (List ℕ)). (gtid (by_tag o 42 33)).normal event.0 ≡ event.0) none (gtid_normal raw s event.0 r h) in
    ap anonymous_of normal
