-- The counts of a log that is followed, which are written again and again.
use Rattle.std.specs.Prelude.{◌≡◌, ◌≢◌, ◌⊎◌, ℕ, ◌-◌, Bool, true, false, List, [], ◌∷◌, length, slice_get, Option, Some, None, MatchOption, codes}
use Rattle.std.specs.Borrow.{Bor}
use Rattle.std.specs.Io.KnownBytes.{Appends, Keeps}
use Rattle.binlog_cli.specs.Outputs.{worse_outcome, written}
use Rattle.binlog_cli.specs.declared.exit_status.Outcome.{Outcome}
use Rattle.binlog_cli.specs.declared.exit_status.Status.TheVariants.{Fine}
use Rattle.binlog_summaries.specs.Intervals.{IsLength}
use Rattle.binlog_statistics_command.specs.WrittenRows.{WritesText}

-- ---- the period

-- A file has this name, and not standard input.
abbrev pub IsFileName : Option (Bor (List ℕ)) → Type 0
IsFileName None = ⊥
IsFileName (Some name) = name.now ≢ codes "-"

-- The last of these files is followed, which isn't standard input.
abbrev pub FollowsFile : (is_followed : Bool) → (names : List (Bor (List ℕ))) → Type 0
FollowsFile is_followed names = (is_followed ≡ true) × IsFileName (slice_get names (length names - 1))

-- The counts are written again after so many seconds; with no time the log isn't followed.
abbrev pub StatesPeriod : (is_followed : Bool) (names : List (Bor (List ℕ))) (time : Option (Bor (List ℕ))) (period : Option ℕ) → Type 0
StatesPeriod is_followed names None period = (is_followed ≡ false) × (period ≡ None)
StatesPeriod is_followed names (Some time) period = FollowsFile is_followed names × MatchOption period ⊥ (IsLength time.now)

-- The log is followed and there is no time, or it is no length of time, or no file is followed.
abbrev pub RefusesPeriod : (is_followed : Bool) (names : List (Bor (List ℕ))) (time : Option (Bor (List ℕ))) → Type 0
RefusesPeriod is_followed names None = is_followed ≡ true
RefusesPeriod is_followed names (Some time) = ¬ (FollowsFile is_followed names) ⊎ ((seconds : ℕ) → ¬ (IsLength time.now seconds))

-- ---- tables

-- Counts are written, and behind them an empty line. `writes` says what is written of the counts, and with which outcome.
pub record IsTable (writes : Outcome → Option (List ℕ) → Option (List ℕ) → Type 0) (outcome : Outcome) (old new : Option (List ℕ)) : Type 0 where
  pub counts : Outcome
  pub middle : Option (List ℕ)
  pub written : writes counts old middle
  pub line : Outcome
  pub ended : WritesText (Appends middle new (10 ∷ [])) line
  pub worse : outcome ≡ worse_outcome counts line

-- A table may be written, and the output flushed behind it. `worst` is the worst outcome of all tables before it, and `behind` with this one.
abbrev pub MayWrite : (writes : Outcome → Option (List ℕ) → Option (List ℕ) → Type 0) (worst : Outcome) (old : Option (List ℕ)) (behind : Outcome) (new : Option (List ℕ)) → Type 0
MayWrite writes worst old behind new =
    ((behind ≡ worst) × (new ≡ old))
    ⊎ ((outcome : Outcome) × (middle : Option (List ℕ)) × IsTable writes outcome old middle × Keeps middle new × (behind ≡ worse_outcome worst outcome))

-- `writes` says of counts what is written of them.
module _ {T : Type 0} (writes : T → Outcome → Option (List ℕ) → Option (List ℕ) → Type 0) where
  -- Tables of such counts are written one after another, and nothing else.
  abbrev pub AreTables : List T → (worst : Outcome) (old : Option (List ℕ)) (behind : Outcome) (new : Option (List ℕ)) → Type 0
  AreTables [] worst old behind new = (behind ≡ worst) × (new ≡ old)
  AreTables (counts ∷ others) worst old behind new =
      (outcome : Outcome) × (middle : Option (List ℕ)) × (next : Option (List ℕ)) × IsTable (writes counts) outcome old middle × Keeps middle next
      × AreTables others (worse_outcome worst outcome) next behind new

  -- Tables are written, and behind them the one of these counts. The worst outcome counts.
  pub record WritesTables (counts : T) (outcome : Outcome) (old new : Option (List ℕ)) : Type 0 where
    pub tables : List T
    pub worst : Outcome
    pub middle : Option (List ℕ)
    pub are : AreTables tables (written Fine) old worst middle
    pub last : Outcome
    pub ended : IsTable (writes counts) last middle new
    pub worse : outcome ≡ worse_outcome worst last

  -- What is written of counts: these alone, or with a period a table of them behind other ones.
  abbrev pub WritesAll : (period : Option ℕ) (counts : T) → Outcome → (old new : Option (List ℕ)) → Type 0
  WritesAll None counts = writes counts
  WritesAll (Some seconds) counts = WritesTables counts
