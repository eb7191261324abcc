-- The fields that are written of a GTID with a tag encode it, and its payload size counts them.
use Rattle.std.proofs.Common.{◌≡◌, ℕ, List, [], ◌∷◌, refl, ap, Bool, true, false, cond, Ok, eqb, ◌∙◌, Option, None, Some, ◌+◌, ◌^◌, ◌<◌, arith, length, ltb, sym, subst}
use Rattle.std.proofs.lemmas.Bool.{eqb-true}
use Rattle.std.proofs.lemmas.List.{length-append}
use Rattle.binlog_variable_fields.specs.Repeated.{each_normal}
use Rattle.binlog_variable_fields.specs.Varlen.{varlen_written}
use Rattle.binlog_variable_fields.specs.Sized.{Solves, least_size}
use Rattle.binlog_variable_fields.specs.Laws.Sized.{one_byte, least_size_solves}
use Rattle.binlog_variable_fields.specs.Chosen.{IsChoice}
use Rattle.binlog_gtids.specs.TaggedFields.{entry, Entry}
use Rattle.binlog_gtids.specs.declared.gtid_event.GtidEvent.{GtidEvent}
use Rattle.binlog_gtids.specs.Tagged.{entries_by, Head, tagged_of, tagged_with, entries, tagged_normal, gtid_with, with_tag, head, tagged_fields, last_of, entries_written, written_size, tagged_code, FitsTagged}
use Rattle.binlog_gtids.specs.TaggedValues.{Value, bytes_in}

-- ---- laws

same_all : (s : List ℕ) → each_normal (λ n. n) s ≡ s
same_all [] = refl
same_all (b ∷ s) = ap (λ (t : List ℕ). b ∷ t) (same_all s)

kept : (g : GtidEvent) (a b c : Bool) → each_normal entry.normal (entries_by a b c g) ≡ entries_by a b c g
kept g true true true = rw (same_all g.sid) refl
kept g true true false = rw (same_all g.sid) refl
kept g true false true = rw (same_all g.sid) refl
kept g true false false = rw (same_all g.sid) refl
kept g false true true = rw (same_all g.sid) refl
kept g false true false = rw (same_all g.sid) refl
kept g false false true = rw (same_all g.sid) refl
kept g false false false = rw (same_all g.sid) refl

said : (h : Head) (g : GtidEvent) (a b c : Bool)
    → tagged_of (h, entries_by a b c g) ≡ Ok (tagged_with g (cond a g.immediate_commit_timestamp g.original_commit_timestamp) (cond b g.immediate_server_version g.original_server_version) (cond c 0 g.commit_group_ticket))
said h g true true true = refl
said h g true true false = refl
said h g true false true = refl
said h g true false false = refl
said h g false true true = refl
said h g false true false = refl
said h g false false true = refl
said h g false false false = refl

agree : (a : Bool) (i o : ℕ) → eqb i o ≡ a → cond a i o ≡ o
agree true i o e = eqb-true _ _ e
agree false i o e = refl

-- The written fields have the values of the event.
pub entries_say : (h : Head) (g : GtidEvent) → tagged_of (h, entries g) ≡ Ok (tagged_normal g)
entries_say h g =
    said h g (eqb g.immediate_commit_timestamp g.original_commit_timestamp) (eqb g.immediate_server_version g.original_server_version) (eqb 0 g.commit_group_ticket)
    ∙ ap (λ (n : ℕ). Ok (tagged_with g n (cond (eqb g.immediate_server_version g.original_server_version) g.immediate_server_version g.original_server_version) (cond (eqb 0 g.commit_group_ticket) 0 g.commit_group_ticket))) (agree _ _ _ refl)
    ∙ ap (λ (n : ℕ). Ok (tagged_with g g.original_commit_timestamp n (cond (eqb 0 g.commit_group_ticket) 0 g.commit_group_ticket))) (agree _ _ _ refl)
    ∙ ap (λ (n : ℕ). Ok (tagged_with g g.original_commit_timestamp g.original_server_version n)) (agree _ _ _ refl)

with_tag_ok : (o : Option Value) (es : List Entry) (g : GtidEvent) → with_tag o es ≡ Ok g → (t : List ℕ) × (gtid_with t es ≡ g)
with_tag_ok (Some v) es g e = (bytes_in v, cc)
with_tag_ok None es g e = absurd cc

size_fits : (n : ℕ) → n + 2 < 16384 → (t : Bool) → cond t (n + 1) (n + 2) < 256 ^ 8
size_fits n small true = omega arith
size_fits n small false = omega arith

pub whole_size : (n size : ℕ) → Solves n size → (m : ℕ) → n ≡ 2 + m → length (head.written (2, (size, 0))) + m ≡ size
whole_size n size e m is = omega (arith, e, length-append (varlen_written size) (varlen_written 0), one_byte 0 (omega arith))

pub tagged_choice : IsChoice tagged_fields tagged_of tagged_code tagged_normal FitsTagged
tagged_choice = record {
  fits = λ g fits.
      let n : ℕ = 2 + length (entries_written g) in
      let small : n + 2 < 16384 = omega (arith, fits.1) in (
        ((omega arith, refl), (size_fits n small (ltb (n + 1) 128), omega arith)),
        refl,
        fits.0,
        sym (whole_size n (least_size n) (least_size_solves n small) (length (entries_written g)) refl),
      );
  shows = λ g fits.
      ap (λ (es : List Entry). tagged_of ((2, (written_size g, 0)), es)) (kept g (eqb g.immediate_commit_timestamp g.original_commit_timestamp) (eqb g.immediate_server_version g.original_server_version) (eqb 0 g.commit_group_ticket))
      ∙ entries_say (2, (written_size g, 0)) g;
  settled = λ s a r g h e.
      let t = with_tag_ok (last_of 3 a.1) a.1 g e in
      subst (λ (v : GtidEvent). tagged_normal v ≡ v) t.1 refl;
  twice = λ g. refl;
  again = λ g fits. refl;
}
