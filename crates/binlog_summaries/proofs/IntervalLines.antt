-- Lines of intervals that are written one behind the other.
use Rattle.std.proofs.Common.{◌≡◌, ℕ, List, [], ◌∷◌, ◌++◌, map, Option, refl, sym, ap, subst, ◌∙◌, append_assoc, append-nil}
use Rattle.std.specs.Prelude.{flat_map}
use Rattle.std.specs.Io.KnownBytes.{Appends}
use Rattle.std.proofs.lemmas.List.{map-append}
use Rattle.std.proofs.lemmas.Grind.{flat_map-append}
use Rattle.change_statistics.proofs.WrittenTexts.{appends_both}
use Rattle.binlog_summaries.specs.StatsText.{Writes}
use Rattle.change_statistics.specs.declared.event_counts.EventCounts.{EventCounts}
use Rattle.binlog_summaries.specs.IntervalText.{IsIntervalLine, AreIntervalLines}
use Rattle.change_statistics.proofs.WrittenTexts.{nothing_appended}

abbrev pub Entry : Type 0
Entry = ℕ × EventCounts

-- One row more, where `shows` is what is shown of an item.
module _ {A : Type 0} (shows : A → Entry) (items : List A) (item : A) where
  shown_more : map shows (items ++ item ∷ []) ≡ map shows items ++ shows item ∷ []
  shown_more = map-append shows items (item ∷ [])

  pub interval_appended : (f : Entry → List ℕ) (old mid new : Option (List ℕ)) → Appends old mid (flat_map f (map shows items)) → Appends mid new (f (shows item)) → Appends old new (flat_map f (map shows (items ++ item ∷ [])))
  interval_appended f old mid new so_far one =
      let more : flat_map f (map shows (items ++ item ∷ [])) ≡ flat_map f (map shows items) ++ f (shows item) =
      ap (flat_map f) shown_more ∙ flat_map-append f (map shows items) (shows item ∷ []) ∙ ap (λ (t : List ℕ). flat_map f (map shows items) ++ t) (append-nil (f (shows item))) in
      subst (Appends old new) (sym more) (appends_both old mid new (flat_map f (map shows items)) (f (shows item)) so_far one)

  lines_more : (entries : List Entry) (entry : Entry) (text line : List ℕ) → AreIntervalLines entries text → IsIntervalLine entry line → AreIntervalLines (entries ++ entry ∷ []) (text ++ line)
  lines_more [] entry text line none is = (line, [], is, refl, ap (λ (t : List ℕ). t ++ line) none ∙ sym (append-nil line))
  lines_more (first ∷ entries) entry text line (one, rest, is_one, are, whole) is =
      (one, rest ++ line, is_one, lines_more entries entry rest line are is, ap (λ (t : List ℕ). t ++ line) whole ∙ append_assoc one rest line)

  pub interval_written : (old mid new : Option (List ℕ)) → Writes (AreIntervalLines (map shows items)) old mid → Writes (IsIntervalLine (shows item)) mid new
      → Writes (AreIntervalLines (map shows (items ++ item ∷ []))) old new
  interval_written old mid new so_far one = record {
    text = so_far.text ++ one.text;
    is = subst (λ (l : List Entry). AreIntervalLines l (so_far.text ++ one.text)) (sym shown_more) (lines_more (map shows items) (shows item) so_far.text one.text so_far.is one.is);
    appended = appends_both old mid new so_far.text one.text so_far.appended one.appended;
  }

pub no_interval_written : (old : Option (List ℕ)) → Writes (AreIntervalLines []) old old
no_interval_written old = record { text = []; is = refl; appended = nothing_appended old }
