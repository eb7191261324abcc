-- What reading one field needs.
use Rattle.std.proofs.Common.{◌≡◌, ℕ, ◌<◌, List, Ok, sym, subst, ◌⊎◌, inl, Bool, cond, Err, ap, ◌∙◌, false, ltb, arith, inr, suc}
use Rattle.std.proofs.lemmas.Bool.{lt-ltb, le-ltb}
use Rattle.binlog_wire.specs.declared.error.Error.{Error}
use Rattle.binlog_wire.specs.Reading.{Refuses, Read, ◌>>=◌, invalid}
use Rattle.binlog_wire.specs.Fields.{read_decoded, meant}
use Rattle.binlog_wire.specs.declared.error.Error.TheVariants as errors
use Rattle.binlog_wire.specs.declared.error.Invalid.TheVariants as kinds
use Rattle.binlog_variable_fields.specs.Varlen.{varlen_at}
use Rattle.binlog_variable_fields.specs.Laws.Refusing.{refused_as}
use Rattle.binlog_gtids.specs.FieldIds.{last_known_id}
use Rattle.binlog_gtids.specs.TaggedValues.{Value, known}
use Rattle.binlog_gtids.specs.TaggedFields.{value_of_id, Entry, entry}
use Rattle.binlog_gtids.specs.Taking.{with_entry}
use Rattle.binlog_gtids.specs.declared.tagged_fields.TaggedFields.{TaggedFields}

-- The value of the field with this id.
pub value_is : (id k : ℕ) → id ≡ k → k < suc last_known_id → (s m : List ℕ) (v : Value) (f g : TaggedFields) → (value_of_id k).reads s ≡ Ok (v, m) → g ≡ with_entry (k, v) f
    → (x : Value) × (id < suc last_known_id) × ((value_of_id id).reads s ≡ Ok (x, m)) × (g ≡ with_entry (id, x) f)
value_is id k e less s m v f g read is =
    subst (λ (i : ℕ). (x : Value) × (i < suc last_known_id) × ((value_of_id i).reads s ≡ Ok (x, m)) × (g ≡ with_entry (i, x) f)) (sym e) (v, less, read, is)

abbrev pub RefusesValue : ℕ → List ℕ → Error → Type 0
RefusesValue id s e = ((id < suc last_known_id) × Refuses ⊥ e ((value_of_id id).reads s)) ⊎ ((last_known_id < id) × (e ≡ errors.InvalidData (kinds.UnknownField id)))

pub value_refused : (id k : ℕ) → id ≡ k → k < suc last_known_id → (s : List ℕ) (e : Error) → Refuses ⊥ e ((value_of_id k).reads s) → RefusesValue id s e
value_refused id k is less s e h = subst (λ (i : ℕ). RefusesValue i s e) (sym is) (inl (less, h))

-- ---- a field id and its value

abbrev value_behind : ℕ × List ℕ → Read Entry
value_behind a = (value_of_id a.0).reads a.1 >>= λ b. Ok ((a.0, b.0), b.1)

abbrev entry_from : Read ℕ → Read Entry
entry_from x = read_decoded known x >>= value_behind

abbrev known_by : Bool → ℕ → List ℕ → Read Entry
known_by b id m = meant (cond b (Ok id) (Err (kinds.UnknownField id))) m >>= value_behind

id_known : (s m : List ℕ) (id : ℕ) → varlen_at s ≡ Ok (id, m) → id < suc last_known_id → entry.reads s ≡ value_behind (id, m)
id_known s m id e less = ap entry_from e ∙ ap (λ (b : Bool). known_by b id m) (lt-ltb id (suc last_known_id) less)

pub entry_ok : (s m t : List ℕ) (id : ℕ) (v : Value) → varlen_at s ≡ Ok (id, m) → id < suc last_known_id → (value_of_id id).reads m ≡ Ok (v, t) → entry.reads s ≡ Ok ((id, v), t)
entry_ok s m t id v e less h = id_known s m id e less ∙ ap (λ (x : Read Value). x >>= λ b. Ok ((id, b.0), b.1)) h

unknown : (s m : List ℕ) (id : ℕ) → varlen_at s ≡ Ok (id, m) → last_known_id < id → entry.reads s ≡ Err (invalid (kinds.UnknownField id))
unknown s m id e more =
    let above : ltb id (suc last_known_id) ≡ false = le-ltb _ _ (omega arith) in
    ap entry_from e ∙ ap (λ (b : Bool). known_by b id m) above

pub entry_refused : (s m : List ℕ) (id : ℕ) (e : Error) → varlen_at s ≡ Ok (id, m) → RefusesValue id m e → Refuses ⊥ e (entry.reads s)
entry_refused s m id e read (inl h) =
    refused_as ⊥ ⊥ (λ x. x) e ((value_of_id id).reads m) (entry.reads s)
    (λ d f. id_known s m id read h.0 ∙ ap (λ (x : Read Value). x >>= λ b. Ok ((id, b.0), b.1)) f) h.1
entry_refused s m id e read (inr h) = subst (λ (f : Error). Refuses ⊥ f (entry.reads s)) (sym h.1) (unknown s m id read h.0)
