-- The fields that are written of a GTID without a tag encode it.
use Rattle.std.proofs.Common.{◌≡◌, Option, None, Some, refl, Bool, true, false, Ok, ap, sym, ◌∙◌}
use Rattle.binlog_variable_fields.specs.Formats.{behind}
use Rattle.binlog_variable_fields.specs.Chosen.{IsChoice}
use Rattle.binlog_gtids.specs.Untagged.{Head, Clock, fields_of, untagged_with, clock, clock_of, clock_if, untagged_normal, untagged_fields, untagged_of, FitsUntagged, head_of}
use Rattle.binlog_gtids.specs.declared.gtid_event.GtidEvent.{GtidEvent}

fields_again : (h : Head) (c : Option Clock) → fields_of (untagged_with h c) ≡ (h, c)
fields_again h (Some c) = refl
fields_again h None = refl

shows_by : (g : GtidEvent) (b : Bool) → untagged_with (head_of g) ((behind 2 clock).normal (clock_if b (clock_of g))) ≡ untagged_with (head_of g) (clock_if b (clock_of g))
shows_by g true = refl
shows_by g false = refl

twice_by : (g : GtidEvent) (b : Bool) → untagged_normal (untagged_with (head_of g) (clock_if b (clock_of g))) ≡ untagged_with (head_of g) (clock_if b (clock_of g))
twice_by g true = refl
twice_by g false = refl

pub untagged_choice : IsChoice untagged_fields untagged_of fields_of untagged_normal FitsUntagged
untagged_choice = record {
  fits = λ g fits. fits.0;
  shows = λ g fits. ap (λ (v : GtidEvent). Ok v) (shows_by g g.has_clock);
  settled = λ s a r g h d.
      let e : untagged_with a.0 a.1 ≡ g = cc in
      ap untagged_normal (sym e) ∙ ap (λ (x : Head × Option Clock). untagged_with x.0 x.1) (fields_again a.0 a.1) ∙ e;
  twice = λ g. twice_by g g.has_clock;
  again = λ g fits. ap untagged_fields.written (fields_again (head_of g) (clock_if g.has_clock (clock_of g)));
}
