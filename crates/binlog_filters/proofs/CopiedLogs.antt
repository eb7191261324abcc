-- The bytes of some events of a log are a log of these events.
use Rattle.std.proofs.Common.{◌≡◌, ◌⊎◌, inl, inr, ℕ, List, [], ◌∷◌, ◌++◌, map, All, Result, Ok, Err, refl, sym, ap, subst, ◌∙◌, unwrap_or}
use Rattle.std.proofs.lemmas.List.Elements.{All-head, All-tail}
use Rattle.binlog_event_format.specs.declared.format_description.FormatDescriptionEvent.{FormatDescriptionEvent}
use Rattle.binlog_events.specs.Frames.{IsFrame}
use Rattle.binlog_events.specs.Events.{EventView, event_of}
use Rattle.binlog_file.specs.Descriptions.{accepted}
use Rattle.binlog_file.specs.Items.{item_of}
use Rattle.binlog_file.specs.State.{Looks}
use Rattle.binlog_file.specs.Streams.{Yields}
use Rattle.binlog_file.specs.StreamItems.{AreItems}
use Rattle.binlog_file.proofs.OwnFrames.{event_is}
use Rattle.binlog_file.proofs.Streams.{yields-cons, yields-end}
use Rattle.binlog_file.proofs.StreamItems.{looked_yield}
use Rattle.binlog_filters.specs.CopiedParts.{ArePart, event_bytes}

-- What the events yield, read as a stream of their own.
YieldsThese : FormatDescriptionEvent → List EventView → Type 0
YieldsThese d events = (e : FormatDescriptionEvent) × Yields Looks d e (event_bytes events) (map Ok events)

yields_none : (d : FormatDescriptionEvent) (events : List EventView) → events ≡ [] → YieldsThese d events
unfolding YieldsThese
yields_none d [] none = (d, yields-end Looks d [] refl)
yields_none d (event ∷ events) none = absurd cc

yields_event : (d : FormatDescriptionEvent) (frame : List ℕ) (event : EventView) (others : List EventView) → IsFrame frame → item_of d frame ≡ Ok event
    → YieldsThese (unwrap_or (accepted frame) d) others → YieldsThese d (event ∷ others)
unfolding YieldsThese
yields_event d frame event others is item rest =
    let own : event.frame ≡ frame = ap (λ (e : EventView). e.frame) (event_is d frame event item).1 in
    let whole = yields-cons Looks d (unwrap_or (accepted frame) d) rest.0 frame (event_bytes others) (Ok event) (map Ok others) is (sym item, refl) rest.1 in
    (rest.0, subst (λ (f : List ℕ). Yields Looks d rest.0 (f ++ event_bytes others) (Ok event ∷ map Ok others)) (sym own) whole)

yields_part : (d : FormatDescriptionEvent) (frames : List (List ℕ)) (events : List EventView) → All IsFrame frames → ArePart d frames events → YieldsThese d events
yields_part d [] events each part = yields_none d events part
yields_part d (frame ∷ frames) events each (inl left) = yields_part d frames events (All-tail IsFrame frame frames each) left.1
yields_part d (frame ∷ frames) events each (inr taken) =
    subst (YieldsThese d) (sym taken.2)
    (yields_event d frame taken.0 taken.1 (All-head IsFrame frame frames each) taken.3
    (yields_part (unwrap_or (accepted frame) d) frames taken.1 (All-tail IsFrame frame frames each) taken.4))

pub copied_log : (d : FormatDescriptionEvent) (frames : List (List ℕ)) (events : List EventView) → All IsFrame frames → ArePart d frames events
    → AreItems d (event_bytes events) (map Ok events)
unfolding YieldsThese
copied_log d frames events each part =
    let yields = yields_part d frames events each part in
    looked_yield d yields.0 (event_bytes events) (map Ok events) yields.1
