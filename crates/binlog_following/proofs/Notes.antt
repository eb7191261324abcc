-- What was asked of the machine.
use Rattle.std.proofs.Common.{◌≡◌, ℕ, true, false, Option, Some, None}
use Rattle.binlog_rotation.specs.declared.checkpoint.Checkpoint.{Checkpoint}
use Rattle.binlog_following.specs.Readings.{HasNotes, IsFound}
use Rattle.binlog_following.specs.declared.file_behind.FileBehind.{FileBehind}
use Rattle.binlog_following.specs.declared.file_behind.FileBehind.TheVariants.{Absent}

module _ (has_found : Checkpoint → FileBehind → Type 0) (has_saved : Checkpoint → Type 0) where
  pub not_found : (given : ℕ) → IsFound has_found given Absent
  not_found given = λ goes. absurd (let is : false ≡ true = goes in cc)

  -- Nothing was asked.
  pub no_notes : (given : ℕ) → HasNotes has_found has_saved given Absent None
  no_notes given = record { found = not_found given; written = tt }

  -- Nothing was found of what is there now.
  pub absent_notes : (given now : ℕ) (behind : FileBehind) (saved : Option Checkpoint) → HasNotes has_found has_saved given behind saved → HasNotes has_found has_saved now Absent saved
  absent_notes given now behind saved has = record { found = not_found now; written = has.written }

  -- It was asked again.
  pub found_notes : (given : ℕ) (before behind : FileBehind) (saved : Option Checkpoint) → HasNotes has_found has_saved given before saved → IsFound has_found given behind → HasNotes has_found has_saved given behind saved
  found_notes given before behind saved has found = record { found = found; written = has.written }

  -- The state was written.
  pub saved_notes : (given : ℕ) (behind : FileBehind) (saved : Option Checkpoint) (place : Checkpoint) → HasNotes has_found has_saved given behind saved → has_saved place → HasNotes has_found has_saved given behind (Some place)
  saved_notes given behind saved place has written = record { found = has.found; written = written }
