-- Which changes the places are that are kept of a log that is written: these, and no others.
use Rattle.std.proofs.Common.{◌≡◌, ℕ, ◌+◌, ◌-◌, List, [], ◌∷◌, ◌++◌, Option, None, Ok, refl, sym, ap, subst, ◌∙◌, append-nil, append_assoc, inl, inr}
use Rattle.std.specs.List.{flat_map}
use Rattle.std.proofs.lemmas.Grind.{flat_map-append}
use Rattle.binlog_event_format.specs.declared.format_description.FormatDescriptionEvent.{FormatDescriptionEvent}
use Rattle.binlog_events.specs.Events.{EventView}
use Rattle.binlog_payloads.specs.Events.{payload_in}
use Rattle.binlog_undo_index.specs.Groups.{Kept, change_list, kept_if_any}
use Rattle.binlog_undo_index.specs.declared.places.ChangePlace.{ChangePlace}
use Rattle.binlog_undo_index.specs.RowTransactions.{changes_of_event}
use Rattle.binlog_undo_index.specs.declared.seen.SeenEvent.{SeenEvent}
use Rattle.binlog_undo_log.specs.LogChanges.{LogChange, IsChanged, AreChanged, AreKeptChanges}
use Rattle.binlog_undo_log.specs.Places.{IsFrameIn}
use Rattle.binlog_undo_log.specs.Undoing.{IsEventAt}
use Rattle.binlog_undo_log.proofs.SeenEvents.{some_payload}

-- The changes at these places of the log, if they are changes, are these.
abbrev pub AreOnly : List ℕ → FormatDescriptionEvent → List ChangePlace → List LogChange → Type 0
AreOnly bytes d places own = (found : List LogChange) → AreChanged (IsFrameIn bytes) d places found → found ≡ own

abbrev pub AreOnlyKept : List ℕ → FormatDescriptionEvent → List Kept → List LogChange → Type 0
AreOnlyKept bytes d kept own = (found : List LogChange) → AreKeptChanges (IsFrameIn bytes) d kept found → found ≡ own

module _ (bytes : List ℕ) (d : FormatDescriptionEvent) where
  changed_apart : (places others : List ChangePlace) (found : List LogChange) → AreChanged (IsFrameIn bytes) d (places ++ others) found
      → (first : List LogChange) × (rest : List LogChange) × AreChanged (IsFrameIn bytes) d places first × AreChanged (IsFrameIn bytes) d others rest × (found ≡ first ++ rest)
  changed_apart [] others found h = ([], found, refl, h, refl)
  changed_apart (place ∷ places) others found h =
      let behind = changed_apart places others h.1 h.3 in (
        h.0 ++ behind.0,
        behind.1,
        (h.0, behind.0, h.2, behind.2, refl),
        behind.3,
        h.4 ∙ ap (λ (c : List LogChange). h.0 ++ c) behind.4 ∙ sym (append_assoc h.0 behind.0 behind.1),
      )

  pub only_over : (places others : List ChangePlace) (own more : List LogChange) → AreOnly bytes d places own → AreOnly bytes d others more → AreOnly bytes d (places ++ others) (own ++ more)
  only_over places others own more first rest found h =
      let apart = changed_apart places others found h in
      apart.4 ∙ ap (λ (c : List LogChange). c ++ apart.1) (first apart.0 apart.2) ∙ ap (λ (c : List LogChange). own ++ c) (rest apart.1 apart.3)

  pub only_one : (place : ChangePlace) (own : List LogChange) → ((found : List LogChange) → IsChanged (IsFrameIn bytes) d place found → found ≡ own) → AreOnly bytes d (place ∷ []) own
  only_one place own one found h = h.4 ∙ ap (λ (c : List LogChange). h.0 ++ c) h.3 ∙ append-nil h.0 ∙ one h.0 h.2

  -- A transaction without events inside its last event.
  pub kept_over : (last : ℕ) (places : List ChangePlace) (own : List LogChange) (rest : List Kept) (more : List LogChange)
      → ((event : EventView) → IsEventAt (IsFrameIn bytes) d last event → payload_in event ≡ Ok None) → AreOnly bytes d places own → AreOnlyKept bytes d rest more
      → AreOnlyKept bytes d (kept_if_any last places ++ rest) (own ++ more)
  kept_over last [] own rest more plain only others found h = others found h ∙ ap (λ (c : List LogChange). c ++ more) (only [] refl)
  kept_over last (place ∷ places) own rest more plain only others found h =
      let here : AreChanged (IsFrameIn bytes) d (place ∷ places) h.0 =
      elim h.2.are [ inl outside ↦ outside.1 | inr inside ↦ absurd (some_payload (payload_in h.2.event) inside.has.payload (plain h.2.event h.2.event_at) inside.has.payload_is) ] in
      h.4 ∙ ap (λ (c : List LogChange). c ++ h.1) (only h.0 here) ∙ ap (λ (c : List LogChange). own ++ c) (others h.1 h.3)

  -- Of the events of two lists.
  pub only_both : (seen others : List SeenEvent) (own more : List LogChange) → AreOnly bytes d (flat_map changes_of_event seen) own → AreOnly bytes d (flat_map changes_of_event others) more
      → AreOnly bytes d (flat_map changes_of_event (seen ++ others)) (own ++ more)
  only_both seen others own more first rest =
      subst (λ (c : List ChangePlace). AreOnly bytes d c (own ++ more)) (sym (flat_map-append changes_of_event seen others))
      (only_over (flat_map changes_of_event seen) (flat_map changes_of_event others) own more first rest)

  -- The changes of its events are those of its rows.
  same_changes : (first last_seen : SeenEvent) (seen : List SeenEvent) → first.change ≡ None → last_seen.change ≡ None
      → flat_map changes_of_event (first ∷ seen ++ last_seen ∷ []) ≡ flat_map changes_of_event seen
  same_changes first last_seen seen begins ends =
      ap (λ (c : Option ChangePlace). change_list c ++ flat_map changes_of_event (seen ++ last_seen ∷ [])) begins
      ∙ flat_map-append changes_of_event seen (last_seen ∷ [])
      ∙ ap (λ (c : Option ChangePlace). flat_map changes_of_event seen ++ (change_list c ++ [])) ends ∙ append-nil (flat_map changes_of_event seen)

  -- Of a transaction.
  pub transaction_over : (first last_seen : SeenEvent) (seen : List SeenEvent) (own : List LogChange) (rest : List Kept) (more : List LogChange) → first.change ≡ None → last_seen.change ≡ None
      → ((event : EventView) → IsEventAt (IsFrameIn bytes) d last_seen.place event → payload_in event ≡ Ok None) → AreOnly bytes d (flat_map changes_of_event seen) own
      → AreOnlyKept bytes d rest more → AreOnlyKept bytes d (kept_if_any last_seen.place (flat_map changes_of_event (first ∷ seen ++ last_seen ∷ [])) ++ rest) (own ++ more)
  transaction_over first last_seen seen own rest more begins ends plain only others =
      subst (λ (c : List ChangePlace). AreOnlyKept bytes d (kept_if_any last_seen.place c ++ rest) (own ++ more)) (sym (same_changes first last_seen seen begins ends))
      (kept_over last_seen.place (flat_map changes_of_event seen) own rest more plain only others)
