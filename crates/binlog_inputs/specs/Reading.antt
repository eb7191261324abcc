-- What is shown to a visitor of the files that a command reads, and the status behind them.
use Rattle.std.specs.Prelude.{◌≡◌, ◌⊎◌, ℕ, ◌+◌, ◌<◌, ◌^◌, ◌==◌, Bool, true, false, List, [], ◌∷◌, length, Option, Some, None, IfSome, Result, Ok, Err}
use Rattle.binlog_wire.specs.declared.error.Error.{Error}
use Rattle.binlog_wire.specs.declared.error.Error.TheVariants.{EndOfInput, InvalidFileHeader, Writer}
use Rattle.crc32_ieee.specs.Checksums.{IsCrc32}
use Rattle.binlog_visits.specs.Visits.{VisitRelation, RefusalRelation, VisitsLog, VisitsVerifiedLog}
use Rattle.binlog_payload_filters.specs.Filtering.{FiltersPayloads, RefusesTaken}
use Rattle.binlog_filters.specs.Taking.{HasNoCondition}
use Rattle.binlog_filters.specs.declared.filter.Filter.{Filter}
use Rattle.binlog_payload_filters.specs.declared.filtered.PayloadFiltered.{PayloadFiltered}
use Rattle.binlog_cli.specs.Statuses.{worse}
use Rattle.binlog_cli.specs.Outputs.{written, unwritten}
use Rattle.binlog_cli.specs.declared.exit_status.Outcome.{Outcome}
use Rattle.binlog_cli.specs.declared.exit_status.Status.{Status}
use Rattle.binlog_cli.specs.declared.exit_status.Status.TheVariants.{Fine, NotOpened, Damaged, Failed}
use Rattle.binlog_inputs.specs.Positions.{in_file, positions_of}
use Rattle.binlog_inputs.specs.declared.positions.Positions.{Positions}
use Rattle.binlog_inputs.specs.Reports.{ReportedView, begun_file, ended_file, taking, Reports}

-- The results of visiting a file of these bytes, whose checksums are verified by their CRC-32 or not.
abbrev pub VisitsInput : {T : Type 0} → VisitRelation T → RefusalRelation T → (is_verified : Bool) → List ℕ → T → Result (Option ℕ) Error → T → Type 0
VisitsInput visits refuses true = VisitsVerifiedLog IsCrc32 visits refuses
VisitsInput visits refuses false = VisitsLog visits refuses

-- How many bytes lie behind the last item of a file, by the result of its visit: none unless it was read to its end.
abbrev pub tail_behind : Result (Option ℕ) Error → ℕ
tail_behind (Ok (Some tail_len)) = tail_len
tail_behind visited = 0

-- The status behind a file, by the result of its visit. The only error is that of a failed output.
abbrev pub status_behind : (has_errors : Bool) → Result (Option ℕ) Error → Result Status Error
status_behind true (Ok tail_len) = Ok Damaged
status_behind false (Ok tail_len) = Ok Fine
status_behind has_errors (Err Writer) = Err Writer
status_behind has_errors (Err EndOfInput) = Ok NotOpened
status_behind has_errors (Err InvalidFileHeader) = Ok NotOpened
status_behind has_errors (Err error) = Ok Failed

-- What is known of the bytes of a file that is read: nothing if more is waited for at its end.
abbrev pub unless_followed : (is_followed : Bool) → Option (List ℕ) → Option (List ℕ)
unless_followed true bytes = None
unless_followed false bytes = bytes

-- Whether a file is followed, where these are behind it: only the last one is.
abbrev pub is_last_followed : {X : Type 0} → (is_followed : Bool) → (behind : List X) → Bool
is_last_followed is_followed [] = is_followed
is_last_followed is_followed (x ∷ behind) = false

-- Whether a file is the last one, where these are behind it.
abbrev pub is_last : {X : Type 0} → (behind : List X) → Bool
is_last behind = is_last_followed true behind

-- The other files follow after one, unless the output failed. The worst status counts.
abbrev pub GoesOn : {V : Type 0} (others : Status → V → Type 0) (status : Status) (answer : Result Status Error) (result : Outcome) (mid new : V) → Type 0
GoesOn others status (Ok found) result mid new = others (worse status found) mid
GoesOn others status (Err error) result mid new = (result ≡ unwritten status) × (new ≡ mid)

-- `step index behind name old answer new` says what the file with this index, from 0, and this name makes of something, where the names
-- in `behind` follow.
module _ {V N : Type 0} (step : (index : ℕ) (behind : List N) (name : N) (old : V) (answer : Result Status Error) (new : V) → Type 0) where
  -- Files with these names are taken in order, from this index on. `status` is that of the files before them.
  abbrev pub InOrder : (index : ℕ) (names : List N) (status : Status) (old : V) (result : Outcome) (new : V) → Type 0
  InOrder index [] status old result new = (result ≡ written status) × (new ≡ old)
  InOrder index (name ∷ names) status old result new =
      (answer : Result Status Error) × (mid : V) × step index names name old answer mid × GoesOn (λ worst next. InOrder (index + 1) names worst next result new) status answer result mid new

-- A visitor that is shown what a filter takes, of which `visits` says what a visit makes of it, `refuses` when it refuses one,
-- and `refused` how many events it has counted as errors.
module _ {T : Type 0} (visits : VisitRelation T) (refuses : RefusalRelation T) (refused : T → ℕ) where
  -- It is shown what the filter takes of a file of these bytes, and whether the file ends within an event.
  pub record ReadsInput (is_verified : Bool) (bytes : List ℕ) (old : ReportedView (PayloadFiltered T)) (answer : Result Status Error) (new : ReportedView (PayloadFiltered T)) : Type 0 where
    pub visited : Result (Option ℕ) Error
    pub behind : ReportedView (PayloadFiltered T)
    pub does : VisitsInput (Reports (FiltersPayloads visits) (λ filtered. refused filtered.filtered.visitor))
        (λ (before : ReportedView (PayloadFiltered T)) maps index item error after. RefusesTaken refuses before.visitor maps index item error after.visitor) is_verified bytes old visited behind
    pub ends : new ≡ ended_file (tail_behind visited) behind
    pub status : answer ≡ status_behind new.has_errors visited

  -- A file can't be opened, or it is shown what the filter takes of it, if its bytes are known.
  abbrev pub ReadsFile : (is_verified : Bool) (known : Option (List ℕ)) (old : ReportedView (PayloadFiltered T)) (answer : Result Status Error) (new : ReportedView (PayloadFiltered T)) → Type 0
  ReadsFile is_verified known old answer new =
      ((answer ≡ Ok NotOpened) × (new ≡ begun_file old))
      ⊎ IfSome known (λ bytes. length bytes < 2 ^ 64 → ReadsInput is_verified bytes (begun_file old) answer new)

  -- Files with these names are read in order, from this index on. `bytes` are those of a file with a name, and only the last one is followed.
  -- The start position that is asked for is one of the first file, with the index 0, and the stop position one of the last file.
  abbrev pub ReadsFrom : {N : Type 0} (is_verified is_followed : Bool) (bytes : N → Option (List ℕ)) (asked : Positions) (index : ℕ) (names : List N) (status : Status) (old : ReportedView (PayloadFiltered T)) (result : Outcome) (new : ReportedView (PayloadFiltered T)) → Type 0
  ReadsFrom is_verified is_followed bytes asked =
      InOrder (λ index behind name old answer new. ReadsFile is_verified (unless_followed (is_last_followed is_followed behind) (bytes name))
      (taking (in_file asked (index == 0) (is_last behind)) old) answer new)

  -- All files with these names are read in order, where the positions that the filter takes before them are asked for.
  abbrev pub ReadsFiles : {N : Type 0} (is_verified is_followed : Bool) (bytes : N → Option (List ℕ)) (names : List N) (status : Status) (old : ReportedView (PayloadFiltered T)) (result : Outcome) (new : ReportedView (PayloadFiltered T)) → Type 0
  ReadsFiles is_verified is_followed bytes names status old = ReadsFrom is_verified is_followed bytes (positions_of old.visitor.filtered.filter) 0 names status old

  -- The visitor is shown what the filter takes of files with these names, in order. Of compressed transactions contents of at most 1 GiB are read.
  pub record ShowsTaken {N : Type 0} (filter : Filter) (is_verified is_followed : Bool) (bytes : N → Option (List ℕ)) (names : List N) (old : T) (outcome : Outcome) (new : T) : Type 0 where
    pub start : PayloadFiltered T
    pub filtered : start.filtered.filter ≡ filter
    pub limit : start.limit ≡ 2 ^ 30
    pub shown : start.filtered.visitor ≡ old
    pub behind : ReportedView (PayloadFiltered T)
    pub reads : ReadsFiles is_verified is_followed bytes names Fine (record { visitor = start; has_errors = false; is_cut = false }) outcome behind
    pub ends : new ≡ behind.visitor.filtered.visitor

  -- The visitor is shown all items of a file.
  pub record ShowsFile (is_verified : Bool) (known : Option (List ℕ)) (old : T) (answer : Result Status Error) (new : T) : Type 0 where
    pub start : PayloadFiltered T
    pub all : HasNoCondition start.filtered.filter
    pub shown : start.filtered.visitor ≡ old
    pub behind : ReportedView (PayloadFiltered T)
    pub reads : ReadsFile is_verified known (record { visitor = start; has_errors = false; is_cut = false }) answer behind
    pub ends : new ≡ behind.visitor.filtered.visitor
