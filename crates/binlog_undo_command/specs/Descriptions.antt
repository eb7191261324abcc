-- The descriptions of logs that are undone as one transaction.
use Rattle.std.specs.Prelude.{◌≡◌, ◌⊎◌, ℕ, Bool, List, []}
use Rattle.std.specs.List.{All, Any}
use Rattle.binlog_undo_command.specs.declared.scanning.ScannedLog.{ScannedLog}
use Rattle.binlog_undo_index.specs.Parts.{parts_of}
use Rattle.binlog_undo_log.specs.OneTransaction.{DescriptionOf}

-- Nothing in the log is undone.
abbrev pub HasNone : ScannedLog → Type 0
HasNone log = (parts_of log.scan.index).transactions ≡ []

-- `has_frames` says which frames the log of a name has.
module _ {F : Type 0} (has_frames : List ℕ → F → Type 0) (is_at : F → ℕ → List ℕ → Type 0) where
  -- Something in the log is undone, and is written under the description with this body, with checksums or without.
  pub record IsUnder (body : List ℕ) (has_checksums : Bool) (log : ScannedLog) : Type 0 where
    pub frames : F
    pub are : has_frames log.name.now frames
    pub is : DescriptionOf (is_at frames) log.scan body has_checksums

  -- All that is undone is under one description.
  pub record HaveOneDescription (logs : List ScannedLog) : Type 0 where
    pub body : List ℕ
    pub has_checksums : Bool
    pub under : All (λ log. HasNone log ⊎ IsUnder body has_checksums log) logs

  -- It is written under another description than this one.
  pub record IsUnderOther (body : List ℕ) (has_checksums : Bool) (log : ScannedLog) : Type 0 where
    pub other_body : List ℕ
    pub other_has_checksums : Bool
    pub is : IsUnder other_body other_has_checksums log
    pub differs : (other_body ≡ body) × (other_has_checksums ≡ has_checksums) → ⊥

  -- Two of the logs are under different descriptions.
  pub record HaveDescriptions (logs : List ScannedLog) : Type 0 where
    pub body : List ℕ
    pub has_checksums : Bool
    pub one : Any (IsUnder body has_checksums) logs
    pub other : Any (IsUnderOther body has_checksums) logs
