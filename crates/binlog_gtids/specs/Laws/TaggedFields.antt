-- What ends the fields of a GTID with a tag: bytes that begin with an unknown id that may be ignored.
use Rattle.std.proofs.Common.{◌≡◌, Bool, true, false, cond, refl, ℕ, ◌<◌, ltb, List, Ok, Err, inl, inr, [], ◌∷◌, ◌≤◌, arith, ap, ◌∙◌, length, subst, suc}
use Rattle.std.proofs.lemmas.Bool.{ltb-true, lt-ltb, le-ltb}
use Rattle.binlog_wire.specs.Reading.{Read, Refusal}
use Rattle.binlog_wire.specs.Fields.{IsBytes}
use Rattle.binlog_wire.specs.declared.error.Invalid.TheVariants as kinds
use Rattle.binlog_variable_fields.specs.Varlen.{varlen_at, IsVarlen}
use Rattle.binlog_variable_fields.specs.Laws.Varlen.{keeps_varlen}
use Rattle.binlog_variable_fields.specs.Laws.Chosen.{passes_ok}
use Rattle.binlog_variable_fields.specs.Within.{IsEnd}
use Rattle.binlog_gtids.specs.FieldIds.{last_known_id}
use Rattle.binlog_gtids.specs.TaggedValues.{ignored, IsTail, is_tail, known}
use Rattle.binlog_gtids.specs.TaggedFields.{Entry, entry}

-- ---- the end of the fields

both : (a b : Bool) → cond a b false ≡ true → (a ≡ true) × (b ≡ true)
both true b h = (refl, h)
both false b h = absurd cc

ignored_ok : (last_id : ℕ) (x : Read ℕ) → ignored last_id x ≡ true → (y : ℕ × List ℕ) × (x ≡ Ok y) × (last_known_id < y.0) × (last_id < y.0)
ignored_ok last_id (Ok y) h = let b = both (ltb last_known_id y.0) (ltb last_id y.0) h in (y, refl, ltb-true _ _ b.0, ltb-true _ _ b.1)
ignored_ok last_id (Err e) h = absurd cc

tail_only : (last_id : ℕ) (s : List ℕ) → IsBytes s → is_tail last_id s ≡ true → IsTail last_id s
tail_only last_id [] fits h = inl refl
tail_only last_id (b ∷ s) fits h =
    let y = ignored_ok last_id (varlen_at (b ∷ s)) h in
    inr (y.0.0, y.0.1, (keeps_varlen.sound (b ∷ s) y.0 fits y.1).0, y.2, y.3)

pub tail_by : (last_id : ℕ) (s : List ℕ) (id : ℕ) (m : List ℕ) → varlen_at s ≡ Ok (id, m) → last_known_id < id → last_id < id → is_tail last_id s ≡ true
tail_by last_id [] id m e known more = refl
tail_by last_id (b ∷ s) id m e above more = rw (e, lt-ltb _ _ above, lt-ltb _ _ more) refl

counted_by : (last_id id : ℕ) (a b : Bool) → ltb last_known_id id ≡ a → ltb last_id id ≡ b → (last_known_id < id → id ≤ last_id) → cond a b false ≡ false
counted_by last_id id false b ha hb counts = refl
counted_by last_id id true false ha hb counts = refl
counted_by last_id id true true ha hb counts = absurd (omega (arith, counts (ltb-true _ _ ha), ltb-true _ _ hb))

-- Bytes that begin with an id that is known or may not be ignored aren't the end. Nor are bytes that begin with no id.
pub id_goes_on : (last_id : ℕ) (s : List ℕ) (id : ℕ) (m : List ℕ) → varlen_at s ≡ Ok (id, m) → (last_known_id < id → id ≤ last_id) → is_tail last_id s ≡ false
id_goes_on last_id [] id m e counts = absurd cc
id_goes_on last_id (b ∷ s) id m e counts = ap (ignored last_id) e ∙ counted_by last_id id (ltb last_known_id id) (ltb last_id id) refl refl counts

pub no_id_goes_on : (last_id : ℕ) (s : List ℕ) (d : Refusal) → 1 ≤ length s → varlen_at s ≡ Err d → is_tail last_id s ≡ false
no_id_goes_on last_id [] d some e = absurd (omega arith)
no_id_goes_on last_id (b ∷ s) d some e = ap (ignored last_id) e

tail_holds : (last_id : ℕ) (s : List ℕ) → IsTail last_id s → is_tail last_id s ≡ true
tail_holds last_id s (inl e) = rw e refl
tail_holds last_id s (inr h) = tail_by last_id s h.0 h.1 (keeps_varlen.complete s h.0 h.1 h.2) h.3 h.4

entry_id : (s : List ℕ) (v : Entry) (r : List ℕ) → entry.spells s v r → (m : List ℕ) × IsVarlen s v.0 m × (v.0 < suc last_known_id)
entry_id s v r h =
    let p = passes_ok (kinds.UnknownField h.1.0) h.1.0 (ltb h.1.0 (suc last_known_id)) v.0 h.1.1 in
    (h.0, subst (λ (id : ℕ). IsVarlen s id h.0) p.1 h.1.2, subst (λ (id : ℕ). id < suc last_known_id) p.1 (ltb-true _ _ p.0))

no_entry : (last_id : ℕ) (s : List ℕ) (id : ℕ) (m : List ℕ) → varlen_at s ≡ Ok (id, m) → id < suc last_known_id → is_tail last_id s ≡ false
no_entry last_id [] id m e small = absurd cc
no_entry last_id (b ∷ s) id m e small = let no : ltb last_known_id id ≡ false = le-ltb _ _ (omega arith) in rw (e, no) refl

pub tail_is_end : (last_id : ℕ) → IsEnd entry (IsTail last_id) (is_tail last_id)
tail_is_end last_id = record {
  nothing = inl refl;
  holds = tail_holds last_id;
  only = tail_only last_id;
  no_value = λ s v r h. let i = entry_id s v r h in no_entry last_id s v.0 i.0 (keeps_varlen.complete s v.0 i.0 i.1) i.2;
  moves = omega arith;
}
