-- The copy of the files that a command reads.
use Rattle.std.specs.Prelude.{◌≡◌, ℕ, Bool, true, List, Option}
use Rattle.std.specs.Io.KnownBytes.{Appends}
use Rattle.binlog_visits.specs.Visits.{VisitRelation, RefusalRelation}
use Rattle.binlog_events.specs.FileHeader.{file_header}
use Rattle.binlog_filters.specs.declared.filter.Filter.{Filter}
use Rattle.binlog_cli.specs.declared.exit_status.Outcome.{Outcome}
use Rattle.binlog_filters.specs.Copying.{CopiesItem, CopiesNoItem}
use Rattle.binlog_filters.specs.declared.copying.Copier.{Copier}
use Rattle.binlog_inputs.specs.Reading.{ShowsTaken}

module _ {B N : Type 0} (contents : B → Option (List ℕ)) (is_verified is_followed : Bool) (bytes : N → Option (List ℕ)) (names : List N) where
  -- The bytes of the events are written.
  abbrev pub Copies : VisitRelation (Copier B)
  Copies old maps index item new = CopiesItem item (contents old.output) (contents new.output)

  -- The writer failed.
  abbrev pub CopiesNot : RefusalRelation (Copier B)
  CopiesNot old maps index item error new = CopiesNoItem item (contents old.output) error (contents new.output)

  -- The file header is written, and behind it the events that a filter takes of the files, and all descriptions.
  pub record CopiesFiles (filter : Filter) (old : B) (outcome : Outcome) (new : B) : Type 0 where
    pub begun : Copier B
    pub header : Appends (contents old) (contents begun.output) file_header
    pub copied : Copier B
    pub shown : ShowsTaken Copies CopiesNot (λ copier. 0) (record filter { is_for_copy = true }) is_verified is_followed bytes names begun outcome copied
    pub ends : new ≡ copied.output
