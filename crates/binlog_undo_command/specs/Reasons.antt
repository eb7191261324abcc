-- The names of the reasons for which something isn't undone.
use Rattle.std.specs.Prelude.{◌≡◌, ◌⊎◌, ℕ, Bool, true, ◌&&◌, List, bytes_eq, codes}
use Rattle.std.specs.List.{AllByRecursion, list_any}
use Rattle.binlog_transactions.specs.declared.refusal.Refusal.{Refusal}
use Rattle.binlog_transactions.specs.declared.refusal.Refusal.TheVariants as refusals
use Rattle.binlog_undo_index.specs.Skips.{is_skipped}
use Rattle.binlog_undo_index.specs.declared.reason.Reason.{Reason}
use Rattle.binlog_undo_index.specs.declared.reason.Reason.TheVariants as reasons
use Rattle.binlog_undo_index.specs.declared.skips.Skips.{Skips}

abbrev pub refusal_name : Refusal → List ℕ
refusal_name refusals.Unfinished = codes "Unfinished"
refusal_name refusals.Statement = codes "Statement"
refusal_name refusals.LoadData = codes "LoadData"
refusal_name refusals.Xa = codes "Xa"
refusal_name refusals.Rollback = codes "Rollback"
refusal_name refusals.Incident = codes "Incident"
refusal_name refusals.Payload = codes "Payload"
refusal_name refusals.OldRows = codes "OldRows"
refusal_name refusals.UnknownEvent = codes "UnknownEvent"
refusal_name refusals.Encrypted = codes "Encrypted"

abbrev pub reason_name : Reason → List ℕ
reason_name (reasons.Transaction refusal) = refusal_name refusal
reason_name reasons.NoTableMap = codes "NoTableMap"
reason_name reasons.Rows = codes "Rows"
reason_name reasons.OldTemporal = codes "OldTemporal"
reason_name reasons.Image = codes "Image"
reason_name reasons.PartialJson = codes "PartialJson"
reason_name reasons.Compressed = codes "Compressed"
reason_name reasons.Damaged = codes "Damaged"
reason_name reasons.Tail = codes "Tail"
reason_name reasons.Description = codes "Description"
reason_name (reasons.Straddles end) = codes "Straddles"

-- ---- `--skip`

-- All reasons that can be skipped.
abbrev pub all_skips : Skips
all_skips = record {
  unfinished = true;
  statement = true;
  load_data = true;
  xa = true;
  rollback = true;
  incident = true;
  payload = true;
  old_rows = true;
  unknown_event = true;
  no_table_map = true;
  rows = true;
  old_temporal = true;
  image = true;
  partial_json = true;
  compressed = true;
}

-- One of the words is this one.
abbrev pub is_among : List ℕ → List (List ℕ) → Bool
is_among word words = list_any (λ other. bytes_eq other word) words

-- The word is the name of a reason that can be skipped.
abbrev pub IsSkipName : List ℕ → Type 0
IsSkipName word = (reason : Reason) × (is_skipped all_skips reason ≡ true) × (word ≡ reason_name reason)

-- So is the name of the reason that something behind what is undone may be in its way.
abbrev pub IsSkipWord : List ℕ → Type 0
IsSkipWord word = IsSkipName word ⊎ (word ≡ codes "LaterChanges")

abbrev pub AreSkipNames : List (List ℕ) → Type 0
AreSkipNames words = AllByRecursion IsSkipWord words

-- The reasons are skipped that can be, and whose names are among the words.
abbrev pub StatesSkips : List (List ℕ) → Skips → Type 0
StatesSkips words skips = (reason : Reason) → is_skipped skips reason ≡ (is_skipped all_skips reason && is_among (reason_name reason) words)
