-- What is behind row events that are undone, and may be in the way of that.
use Rattle.std.specs.Prelude.{ℕ, Bool, true, false, not, List, [], ◌∷◌, ◌++◌, filter}
use Rattle.std.specs.List.{list_any}
use Rattle.binlog_undo_index.specs.declared.reason.Reason.{Reason}
use Rattle.change_statistics.specs.Facts.{Name}
use Rattle.change_statistics.specs.Names.{name_eq}
use Rattle.binlog_later_changes.specs.declared.later_change.EventPlace.{EventPlace}

-- Why an event may be in the way: it has rows of this table; or it may change any table, for this reason.
pub data Cause : Type 0 where
  table : Name → Cause
  unknown : Reason → Cause

-- What an event is to what is undone: nothing; rows of this table, which are undone; or something that isn't undone.
pub data What : Type 0 where
  nothing : What
  undone : Name → What
  other : Cause → What

pub record Look : Type 0 where
  pub event : EventPlace
  pub what : What

-- An event that may be in the way.
pub record Change : Type 0 where
  pub event : EventPlace
  pub cause : Cause

abbrev pub undoes_what : Name → What → Bool
undoes_what name nothing = false
undoes_what name (undone own) = name_eq own name
undoes_what name (other cause) = false

abbrev pub is_undone : What → Bool
is_undone nothing = false
is_undone (undone own) = true
is_undone (other cause) = false

-- Rows of the table with this name are undone, or of any.
abbrev pub undoes : Name → Look → Bool
undoes name look = undoes_what name look.what

abbrev pub undoes_some : Look → Bool
undoes_some look = is_undone look.what

-- Something is undone in front that the cause may be in the way of.
abbrev pub is_behind : List Look → Cause → Bool
is_behind before (table name) = list_any (undoes name) before
is_behind before (unknown reason) = list_any undoes_some before

abbrev pub change_if : Bool → Change → List Change
change_if true change = change ∷ []
change_if false change = []

abbrev pub later_by : List Look → EventPlace → What → List Change
later_by before event nothing = []
later_by before event (undone name) = []
later_by before event (other cause) = change_if (is_behind before cause) (record { event = event; cause = cause })

-- The later change that an event is behind others, if it is one.
abbrev pub later_at : List Look → Look → List Change
later_at before look = later_by before look.event look.what

-- All later changes of these events behind others.
abbrev pub later_from : List Look → List Look → List Change
later_from before [] = []
later_from before (look ∷ looks) = later_at before look ++ later_from (before ++ look ∷ []) looks

-- The causes are of the same table, or both of any.
abbrev pub same_cause : Cause → Cause → Bool
same_cause (table name) (table second) = name_eq name second
same_cause (table name) (unknown reason) = false
same_cause (unknown reason) (table name) = false
same_cause (unknown reason) (unknown second) = true

abbrev pub is_about : Cause → Change → Bool
is_about cause change = same_cause cause change.cause

-- The first change of each table, and the first one of any.
abbrev pub firsts : List Change → List Change
firsts [] = []
firsts (change ∷ changes) = change ∷ filter (λ (second : Change). not (is_about second.cause change)) (firsts changes)

-- The first later change of each table, and the first one of any.
abbrev pub later_changes : List Look → List Change
later_changes looks = firsts (later_from [] looks)
