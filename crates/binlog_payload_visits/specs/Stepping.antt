-- One step over the parts of a content.
use Rattle.std.specs.Prelude.{◌≡◌, ◌⊎◌, ℕ, ◌+◌, ◌≤◌, Bool, true, false, List, [], ◌∷◌, Result, Ok, Err}
use Rattle.binlog_wire.specs.declared.error.Error.{Error}
use Rattle.binlog_wire.specs.declared.error.Error.TheVariants.{Memory}
use Rattle.binlog_event_format.specs.declared.format_description.FormatDescriptionEvent.{FormatDescriptionEvent}
use Rattle.binlog_file.specs.TableMapsInForce.{TableMaps}
use Rattle.binlog_payloads.specs.declared.error.PayloadError.{PayloadError}
use Rattle.binlog_payloads.specs.declared.error.PayloadError.TheVariants as errors
use Rattle.binlog_payloads.specs.InnerEvents.{left_len, reader_fde}
use Rattle.binlog_payloads.specs.declared.inner.TransactionPayloadReader.{TransactionPayloadReader}
use Rattle.binlog_payload_visits.specs.Parts.{Part, AreContentParts, maps_behind_part}
use Rattle.binlog_payload_visits.specs.PartVisits.{PartVisitRelation, PartRefusalRelation}

-- The result of a step over a part, from that of its visit.
abbrev pub answered : Result (Unit {0}) Error → Result Bool Error
answered (Ok done) = Ok true
answered (Err error) = Err error

-- Whether memory ran out.
abbrev pub is_memory : PayloadError → Bool
is_memory errors.Memory = true
is_memory error = false

-- The parts that are left of a content of which these bytes are unread, or which has ended.
abbrev pub LeavesParts : FormatDescriptionEvent → Bool → List ℕ → List Part → Type 0
LeavesParts fde true bytes parts = parts ≡ []
LeavesParts fde false bytes parts = AreContentParts fde bytes parts

abbrev pub LeftParts : TransactionPayloadReader → List Part → Type 0
LeftParts reader parts = LeavesParts (reader_fde reader) reader.is_ended reader.rest.now parts

-- The next part of a content is this one: with those that are left behind it they are all that were left before it.
pub record NextPart (before after : TransactionPayloadReader) (part : Part) : Type 0 where
  pub left : (more : List Part) → LeftParts after more → LeftParts before (part ∷ more)
  pub shorter : left_len after + 1 ≤ left_len before

module _ {T : Type 0} (visits_part : PartVisitRelation T) (refuses_part : PartRefusalRelation T) where
  -- The results of visiting a part, which bring these table maps into force: the visitor refused it, or an allocation failed before,
  -- and the visitor is as it was.
  abbrev pub VisitsPart : ℕ → ℕ → Part → TableMaps → TableMaps → T → Result Bool Error → T → Type 0
  VisitsPart index number part maps behind old (Ok more) new =
      (more ≡ true) × (behind ≡ maps_behind_part maps part) × visits_part old (maps_behind_part maps part) index number part new
  VisitsPart index number part maps behind old (Err error) new =
      refuses_part old (maps_behind_part maps part) index number part error new ⊎ ((error ≡ Memory) × (new ≡ old))

  -- The results for a part.
  pub record StepsOver (index number : ℕ) (before after : TransactionPayloadReader) (maps behind : TableMaps) (old : T) (answer : Result Bool Error) (new : T) : Type 0 where
    pub part : Part
    pub next : NextPart before after part
    pub visited : VisitsPart index number part maps behind old answer new

  -- The results of a step: whether there was a part.
  abbrev pub StepsParts : ℕ → ℕ → TransactionPayloadReader → TransactionPayloadReader → TableMaps → TableMaps → T → Result Bool Error → T → Type 0
  StepsParts index number before after maps behind old (Ok false) new = LeftParts before [] × (new ≡ old)
  StepsParts index number before after maps behind old answer new = StepsOver index number before after maps behind old answer new
