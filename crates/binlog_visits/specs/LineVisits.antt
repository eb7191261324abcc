-- A visitor that writes a line for each item.
use Rattle.std.specs.Prelude.{◌≡◌, ◌⊎◌, ℕ, List, Option, Result}
use Rattle.std.specs.Io.KnownBytes.{Appends}
use Rattle.binlog_wire.specs.declared.error.Error.{Error}
use Rattle.binlog_wire.specs.declared.error.Error.TheVariants.{Memory, Writer}
use Rattle.binlog_file.specs.Events.{EventView}
use Rattle.binlog_ends.specs.Counts.{AppendsFront}

-- The line of the item is written.
abbrev pub WritesItem : (ℕ → Result EventView Error → List ℕ) → ℕ → Result EventView Error → Option (List ℕ) → Option (List ℕ) → Type 0
WritesItem line index item old new = Appends old new (line index item)

-- The line of the item isn't written whole: the writer failed, or an allocation for the line.
abbrev pub WritesNoItem : (ℕ → Result EventView Error → List ℕ) → (Result EventView Error → Type 0) → ℕ → Result EventView Error → Option (List ℕ) → Error → Option (List ℕ) → Type 0
WritesNoItem line takes index item old error new =
    ((error ≡ Writer) × AppendsFront old new (line index item)) ⊎ ((error ≡ Memory) × takes item × (new ≡ old))
