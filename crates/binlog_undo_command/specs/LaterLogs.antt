-- What is behind what is undone, and may be in the way of that.
use Rattle.std.specs.Prelude.{◌≡◌, ◌≢◌, ◌⊎◌, ℕ, ◌+◌, ◌-◌, min, ◌==◌, ◌<◌, ◌^◌, Bool, true, false, List, [], ◌∷◌, ◌++◌, length, Option, Some, None, IfSome, codes, slice_get}
use Rattle.clap.specs.Matches.{one_text}
use Rattle.clap.specs.declared.parser.matches.Found.{Found}
use Rattle.binlog_cli.specs.TableWords.{texts_given}
use Rattle.binlog_later_changes.specs.Changes.{IsNew, changes_found}
use Rattle.binlog_later_changes.specs.Later.{Look, later_changes}
use Rattle.binlog_later_changes.specs.Logs.{FindsLater, SeesLog}
use Rattle.binlog_later_changes.specs.Places.{places_in}
use Rattle.binlog_later_changes.specs.RowsLeft.{Left, nothing_left}
use Rattle.binlog_later_changes.specs.declared.later_changes.LaterChanges.{LaterChanges}
use Rattle.binlog_later_changes.specs.declared.later_rules.LaterRules.{LaterRules}
use Rattle.binlog_later_changes.specs.declared.undone_events.RowsPlace.{RowsPlace}
use Rattle.binlog_undo_command.specs.Options.{StatesFlag}
use Rattle.binlog_undo_command.specs.Reasons.{StatesSkips, is_among}
use Rattle.binlog_undo_command.specs.declared.scanning.ScannedLog.{ScannedLog}
use Rattle.binlog_undo_index.specs.Parts.{parts_of}
use Rattle.binlog_undo_index.specs.declared.places.TransactionPlace.{TransactionPlace}

-- The event with this frame has events inside: its type, which is the fifth byte, is 40.
abbrev pub is_payload_type : Option ℕ → Bool
is_payload_type None = false
is_payload_type (Some number) = number == 40

abbrev pub is_payload : List ℕ → Bool
is_payload frame = is_payload_type (slice_get frame 4)

-- Of each transaction, whether its last event has events inside.
abbrev pub AreInside : (is_at : ℕ → List ℕ → Type 0) → List TransactionPlace → List Bool → Type 0
AreInside is_at [] are = are ≡ []
AreInside is_at (transaction ∷ transactions) are =
    (frame : List ℕ) × (others : List Bool) × is_at transaction.last frame × AreInside is_at transactions others × (are ≡ is_payload frame ∷ others)

-- The same of the transactions of a log that are undone. `has_frames` says which frames the log of a name has.
pub record IsInsideOf {F : Type 0} (has_frames : List ℕ → F → Type 0) (is_at : F → ℕ → List ℕ → Type 0) (log : ScannedLog) (are_inside : List Bool) : Type 0 where
  pub frames : F
  pub are : has_frames log.name.now frames
  pub inside : AreInside (is_at frames) (parts_of log.scan.index).transactions are_inside

-- The row events that are undone of a log: those that were kept, in the log or inside the last event of their transaction.
pub record AreUndoneOf {F : Type 0} (has_frames : List ℕ → F → Type 0) (is_at : F → ℕ → List ℕ → Type 0) (log : ScannedLog) (undone : List RowsPlace) : Type 0 where
  pub are_inside : List Bool
  pub inside : IsInsideOf has_frames is_at log are_inside
  pub places : undone ≡ places_in (parts_of log.scan.index).transactions are_inside (parts_of log.scan.index).changes

-- The number of the next log. There are fewer than 2^64.
abbrev pub next_number : ℕ → ℕ
next_number number = min (number + 1) (2 ^ 64 - 1)

-- What is found in a log with this number, if its bytes are known.
abbrev pub FindsIn : LaterRules → (number : ℕ) → List RowsPlace → Option (List ℕ) → LaterChanges → LaterChanges → Type 0
FindsIn rules number undone known old new = IfSome known (λ bytes. length bytes < 2 ^ 64 → FindsLater rules number undone bytes old new)

-- In later logs one after the other, of which nothing is undone; the first one has this number. `bytes` are those of the log of a name, where
-- they are known.
abbrev pub FindsInLater : (List ℕ → Option (List ℕ)) → LaterRules → (number : ℕ) → List (List ℕ) → LaterChanges → LaterChanges → Type 0
FindsInLater bytes rules number [] old new = new ≡ old
FindsInLater bytes rules number (name ∷ names) old new =
    (mid : LaterChanges) × FindsIn rules number [] (bytes name) old mid × FindsInLater bytes rules (next_number number) names mid new

-- `bytes` are those of the log of a name, where they are known, and `has_frames` says which frames it has.
module _ {F : Type 0} (bytes : List ℕ → Option (List ℕ)) (has_frames : List ℕ → F → Type 0) (is_at : F → ℕ → List ℕ → Type 0) (rules : LaterRules) where
  -- What is found in the log.
  pub record FindsInLog (number : ℕ) (log : ScannedLog) (old new : LaterChanges) : Type 0 where
    pub undone : List RowsPlace
    pub are : AreUndoneOf has_frames is_at log undone
    pub finds : FindsIn rules number undone (bytes log.name.now) old new

  -- In all logs one after the other, and then in the later ones.
  abbrev pub FindsInAll : (number : ℕ) → List ScannedLog → List (List ℕ) → LaterChanges → LaterChanges → Type 0
  FindsInAll number [] names old new = FindsInLater bytes rules number names old new
  FindsInAll number (log ∷ logs) names old new = (mid : LaterChanges) × FindsInLog number log old mid × FindsInAll (next_number number) logs names mid new

-- The options say which events may be in the way.
pub record StatesRules (found : Found) (rules : LaterRules) : Type 0 where
  pub skipped : StatesSkips (texts_given found (codes "skip")) rules.skips
  pub checks : StatesFlag (one_text found (codes "check-rows")) rules.checks_rows

-- What the options ask for is found in the logs, and in the later ones that the words name.
pub record LooksBehind {F : Type 0} (bytes : List ℕ → Option (List ℕ)) (has_frames : List ℕ → F → Type 0) (is_at : F → ℕ → List ℕ → Type 0) (found : Found)
    (logs : List ScannedLog) (changes : LaterChanges) : Type 0 where
  pub rules : LaterRules
  pub stated : StatesRules found rules
  pub none : LaterChanges
  pub fresh : IsNew none
  pub finds : FindsInAll bytes has_frames is_at rules 0 logs (texts_given found (codes "later")) none changes

-- Later changes are accepted.
abbrev pub skips_later : Found → Bool
skips_later found = is_among (codes "LaterChanges") (texts_given found (codes "skip"))

-- It is looked for, and nothing is found in any log that is behind what is undone and may be in the way of it, unless that is accepted.
pub record IsFree {F : Type 0} (bytes : List ℕ → Option (List ℕ)) (has_frames : List ℕ → F → Type 0) (is_at : F → ℕ → List ℕ → Type 0) (found : Found)
    (logs : List ScannedLog) : Type 0 where
  pub changes : LaterChanges
  pub looks : LooksBehind bytes has_frames is_at found logs changes
  pub free : (changes_found changes ≡ []) ⊎ (skips_later found ≡ true)

-- Nothing is looked for: there are no later logs, and rows aren't checked.
abbrev pub LooksForNothing : Found → Type 0
LooksForNothing found = (texts_given found (codes "later") ≡ []) × StatesFlag (one_text found (codes "check-rows")) false

-- Nothing is in the way, or nothing is looked for.
abbrev pub LeavesNothing : {F : Type 0} → (List ℕ → Option (List ℕ)) → (List ℕ → F → Type 0) → (F → ℕ → List ℕ → Type 0) → Found → List ScannedLog → Type 0
LeavesNothing bytes has_frames is_at found logs = LooksForNothing found ⊎ IsFree bytes has_frames is_at found logs

-- Something is found that is in the way, and that isn't accepted.
pub record HasLater {F : Type 0} (bytes : List ℕ → Option (List ℕ)) (has_frames : List ℕ → F → Type 0) (is_at : F → ℕ → List ℕ → Type 0) (found : Found)
    (logs : List ScannedLog) : Type 0 where
  pub changes : LaterChanges
  pub looks : LooksBehind bytes has_frames is_at found logs changes
  pub some : changes_found changes ≢ []
  pub refused : skips_later found ≡ false

-- ---- where the bytes of all logs are known

-- What is seen of logs, one after the other, and of later ones. If rows are checked, these were left behind in front of the first log, and others are behind
-- the last one.
abbrev pub SeesAllLater : (List ℕ → List ℕ) → LaterRules → (number : ℕ) → List (List ℕ) → (before behind : Left) → List Look → Type 0
SeesAllLater bytes rules number [] before behind looks = (looks ≡ []) × (behind ≡ before)
SeesAllLater bytes rules number (name ∷ names) before behind looks =
    (own : List Look) × (others : List Look) × (mid : Left) × SeesLog rules number [] (bytes name) before mid own
    × SeesAllLater bytes rules (next_number number) names mid behind others × (looks ≡ own ++ others)

module _ {F : Type 0} (bytes : List ℕ → List ℕ) (has_frames : List ℕ → F → Type 0) (is_at : F → ℕ → List ℕ → Type 0) (rules : LaterRules) where
  abbrev pub SeesAll : (number : ℕ) → List ScannedLog → List (List ℕ) → (before behind : Left) → List Look → Type 0
  SeesAll number [] names before behind looks = SeesAllLater bytes rules number names before behind looks
  SeesAll number (log ∷ logs) names before behind looks =
      (undone : List RowsPlace) × (own : List Look) × (others : List Look) × (mid : Left) × AreUndoneOf has_frames is_at log undone
      × SeesLog rules number undone (bytes log.name.now) before mid own × SeesAll (next_number number) logs names mid behind others × (looks ≡ own ++ others)

  -- What is found is the first later change of each table, and the first one of any, of what is seen of all logs.
  pub record AreLater (logs : List ScannedLog) (names : List (List ℕ)) (changes : LaterChanges) : Type 0 where
    pub looks : List Look
    pub behind : Left
    pub seen : SeesAll 0 logs names nothing_left behind looks
    pub found : changes_found changes ≡ later_changes looks
