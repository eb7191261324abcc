-- GTID_LIST, type 163, the last GTIDs of all earlier logs: a number of 4 bytes, whose low 28 bits are the number of
-- entries and whose high 4 bits are flags; the entries, each a domain (4), a server id (4) and a sequence number (8).
-- After an empty list come two reserved bytes.
-- Source: MariaDB's documentation, "GTID_LIST_EVENT", and what its server writes.
use Rattle.std.proofs.Common.{◌≡◌, ℕ, ◌+◌, ◌*◌, ◌/◌, ◌%◌, ◌^◌, ◌<◌, Bool, true, false, cond, ltb, eqb, Option, None, Some, List, [], ◌∷◌, ◌++◌, length, Result, Ok, refl, sym, ap, subst, ◌∙◌, arith}
use Rattle.std.proofs.lemmas.Bool.{ltb-true, ne_eqb}
use Rattle.std.proofs.lemmas.List.{length-append}
use Rattle.binlog_wire.specs.Fields.{little_bytes}
use Rattle.binlog_wire.specs.Laws.Numbers.{length-little_bytes}
use Rattle.binlog_wire.specs.declared.error.Invalid.{Invalid}
use Rattle.binlog_wire.specs.declared.error.Error.{Error}
use Rattle.binlog_wire.specs.declared.error.Error.TheVariants.{Unwritable}
use Rattle.binlog_wire.specs.declared.error.Field.TheVariants as which
use Rattle.binlog_wire.specs.Formats.{Format, anywhere, last, number, unit, silent, skip_then, then, ◌⨾◌, seen_as}
use Rattle.binlog_variable_fields.specs.Chosen.{IsChoice, choose}
use Rattle.binlog_variable_fields.specs.Formats.{chosen}
use Rattle.binlog_variable_fields.specs.Formats.{times}
use Rattle.binlog_variable_fields.specs.Repeated.{each_written, each_normal, EachFits}
use Rattle.binlog_mariadb.specs.declared.maria_gtid.MariaGtid.{MariaGtid}
use Rattle.binlog_mariadb.specs.declared.gtid_list.GtidListEvent.{GtidListEvent}

-- The format of an entry, one unit of 16 bytes.
abbrev pub gtid_entry : Format anywhere MariaGtid
gtid_entry = seen_as
    (λ x. record { domain = x.0; server_id = x.1.0; sequence = x.1.1 })
    (λ g. (g.domain, (g.server_id, g.sequence))) (λ _. refl) (λ _. refl)
    (unit (number 4 ⨾ number 4 ⨾ number 8))

-- The bound on the number of entries, 2^28.
abbrev pub most_entries : ℕ
most_entries = 268435456

-- The number of entries that the first number states.
abbrev pub count_in : ℕ → ℕ
count_in n = n % most_entries

-- No entries and two reserved bytes if `none` is true, else this number of entries.
abbrev pub entries_by : Bool → ℕ → Format last (List MariaGtid)
entries_by none count = choose none (skip_then 2 (silent [])) (times count gtid_entry)

-- This number of entries; if it is 0, two reserved bytes.
abbrev pub entries_of : ℕ → Format last (List MariaGtid)
entries_of count = entries_by (eqb count 0) count

-- The first number, and the entries.
abbrev pub ListFields : Type 0
ListFields = ℕ × List MariaGtid

-- The format of these fields.
abbrev pub list_fields : Format last ListFields
list_fields = then (number 4) (λ n. entries_of (count_in n))

-- The list that these fields encode.
abbrev pub list_of : ListFields → Result GtidListEvent Invalid
list_of x = Ok (record { flags = x.0 / most_entries; entries = x.1 })

-- The first number of a list: the number of its entries, and the low four bits of its flags.
abbrev pub first_number : GtidListEvent → ℕ
first_number e = e.flags % 16 * most_entries + length e.entries

-- The fields of a list.
abbrev pub fields_of : GtidListEvent → ListFields
fields_of e = (first_number e, e.entries)

-- The normal form of a list: of the flags only the low four bits are written.
abbrev pub list_normal : GtidListEvent → GtidListEvent
list_normal e = record { flags = e.flags % 16; entries = e.entries }

-- The entries are in range, and there are fewer than the bound.
abbrev pub FitsList : GtidListEvent → Type 0
FitsList e = (length e.entries < most_entries) × EachFits gtid_entry.Fits e.entries

count_is : (flags n : ℕ) → n < most_entries → count_in (flags % 16 * most_entries + n) ≡ n
count_is flags n less = omega arith

flags_are : (flags n : ℕ) → n < most_entries → (flags % 16 * most_entries + n) / most_entries ≡ flags % 16
flags_are flags n less = omega arith

each_same : (vs : List MariaGtid) → each_normal gtid_entry.normal vs ≡ vs
each_same [] = refl
each_same (v ∷ vs) = ap (λ (ws : List MariaGtid). v ∷ ws) (each_same vs)

some_entries : (v : MariaGtid) (vs : List MariaGtid) → eqb (length (v ∷ vs)) 0 ≡ false
some_entries v vs = ne_eqb _ _ (λ e. omega (arith, e))

entries_fit : (vs : List MariaGtid) → EachFits gtid_entry.Fits vs → (entries_of (length vs)).Fits vs
entries_fit [] fits = tt
entries_fit (v ∷ vs) fits = subst (λ (b : Bool). (entries_by b (length (v ∷ vs))).Fits (v ∷ vs)) (sym (some_entries v vs)) (refl, fits)

entries_same : (vs : List MariaGtid) → (entries_of (length vs)).normal vs ≡ vs
entries_same [] = refl
entries_same (v ∷ vs) = ap (λ (b : Bool). (entries_by b (length (v ∷ vs))).normal (v ∷ vs)) (some_entries v vs) ∙ each_same (v ∷ vs)

list_shows : (e : GtidListEvent) → FitsList e → list_of (list_fields.normal (fields_of e)) ≡ Ok (list_normal e)
list_shows e fits =
    let count : count_in (first_number e) ≡ length e.entries = count_is e.flags (length e.entries) fits.0 in
    let entries : (entries_of (count_in (first_number e))).normal e.entries ≡ e.entries =
    ap (λ (n : ℕ). (entries_of n).normal e.entries) count ∙ entries_same e.entries in
    let flags : first_number e / most_entries ≡ e.flags % 16 = flags_are e.flags (length e.entries) fits.0 in
    ap (λ (vs : List MariaGtid). list_of (first_number e, vs)) entries
    ∙ ap (λ (n : ℕ). Ok (record { flags = n; entries = e.entries })) flags

list_settled : (a : ListFields) (e : GtidListEvent) → a.0 < 256 ^ 4 → list_of a ≡ Ok e → list_normal e ≡ e
list_settled a e small d =
    let same : ◌≡◌ {A = GtidListEvent} (record { flags = a.0 / most_entries; entries = a.1 }) e = cc in
    let keeps : a.0 / most_entries % 16 ≡ a.0 / most_entries = omega arith in
    subst (λ (l : GtidListEvent). list_normal l ≡ l) same (ap (λ (n : ℕ). record { flags = n; entries = a.1 }) keeps)

pub list_choice : IsChoice list_fields list_of fields_of list_normal FitsList
list_choice = record {
  fits = λ e fits.
      let count : count_in (first_number e) ≡ length e.entries = count_is e.flags (length e.entries) fits.0 in
      (omega (arith, fits.0), subst (λ (n : ℕ). (entries_of n).Fits e.entries) (sym count) (entries_fit e.entries fits.1));
  shows = list_shows;
  settled = λ s a r e h d. list_settled a e h.1.0 d;
  twice = λ e. ap (λ (n : ℕ). record { flags = n; entries = e.entries }) (omega arith);
  again = λ e fits. ap (λ (n : ℕ). list_fields.written (n * most_entries + length e.entries, e.entries)) (omega arith);
}

-- The format of the body.
abbrev pub gtid_list : Format last GtidListEvent
gtid_list = chosen list_of fields_of list_normal FitsList list_fields list_choice

-- A list of 2^28 entries or more can't be written.
abbrev pub unwritable_list : GtidListEvent → Option Error
unwritable_list e = cond (ltb (length e.entries) most_entries) None (Some (Unwritable which.Sids))

-- ---- the written bytes

-- The encoding of entries; of no entries, two zeros.
abbrev pub entries_written : List MariaGtid → List ℕ
entries_written [] = 0 ∷ 0 ∷ []
entries_written (v ∷ vs) = each_written gtid_entry.written (v ∷ vs)

-- The encoding of a list.
abbrev pub list_written : GtidListEvent → List ℕ
list_written e = little_bytes 4 (first_number e) ++ entries_written e.entries

few_by : (n : ℕ) (b : Bool) → ltb n most_entries ≡ b → cond b None (Some (Unwritable which.Sids)) ≡ None → n < most_entries
few_by n true e h = ltb-true _ _ e
few_by n false e h = absurd cc

entries_written_is : (vs : List MariaGtid) → entries_written vs ≡ (entries_of (length vs)).written vs
entries_written_is [] = refl
entries_written_is (v ∷ vs) = sym (ap (λ (b : Bool). (entries_by b (length (v ∷ vs))).written (v ∷ vs)) (some_entries v vs))

-- A list that can be written has fewer entries than the bound.
pub few_entries : (e : GtidListEvent) → unwritable_list e ≡ None → length e.entries < most_entries
few_entries e writable = few_by (length e.entries) _ refl writable

-- The encoding of a list that can be written is that of its format.
pub list_written_is : (e : GtidListEvent) → unwritable_list e ≡ None → list_written e ≡ gtid_list.written e
list_written_is e writable =
    let few : length e.entries < most_entries = few_entries e writable in
    let count : count_in (first_number e) ≡ length e.entries = count_is e.flags (length e.entries) few in
    let entries : entries_written e.entries ≡ (entries_of (count_in (first_number e))).written e.entries =
    entries_written_is e.entries ∙ ap (λ (n : ℕ). (entries_of n).written e.entries) (sym count) in
    ap (λ (s : List ℕ). little_bytes 4 (first_number e) ++ s) entries

-- ---- the length of the written bytes

entry_length : (v : MariaGtid) → length (gtid_entry.written v) ≡ 16
entry_length v =
    let a : List ℕ = little_bytes 4 v.domain in
    let b : List ℕ = little_bytes 4 v.server_id in
    let c : List ℕ = little_bytes 8 v.sequence in
    omega (arith, length-append a (b ++ c), length-append b c, length-little_bytes 4 v.domain, length-little_bytes 4 v.server_id, length-little_bytes 8 v.sequence)

pub each_length : (vs : List MariaGtid) → length (each_written gtid_entry.written vs) ≡ 16 * length vs
each_length [] = refl
each_length (v ∷ vs) = omega (arith, length-append (gtid_entry.written v) (each_written gtid_entry.written vs), entry_length v, each_length vs)

pub some_length : (vs : List MariaGtid) → (length vs ≡ 0 → ⊥) → length (entries_written vs) ≡ 16 * length vs
some_length [] some = absurd (some refl)
some_length (v ∷ vs) some = each_length (v ∷ vs)

pub list_length : (e : GtidListEvent) → (length e.entries ≡ 0 → ⊥) → length (list_written e) ≡ 4 + 16 * length e.entries
list_length e some =
    omega (arith, length-append (little_bytes 4 (first_number e)) (entries_written e.entries), length-little_bytes 4 (first_number e), some_length e.entries some)
