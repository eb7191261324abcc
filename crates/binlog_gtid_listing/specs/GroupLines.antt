-- The lines of the groups of a set of GTIDs.
use Rattle.std.specs.Prelude.{◌≡◌, ◌⊎◌, ℕ, ◌-◌, ◌==◌, Bool, true, false, List, [], ◌∷◌, ◌++◌, take, Option, Some, None, Result, Ok, Err, decimal, codes, if◌then◌else◌}
use Rattle.std.specs.Io.KnownBytes.{Appends}
use Rattle.hex.specs.Hex.{encode_lower}
use Rattle.binlog_wire.specs.declared.error.Error.{Error}
use Rattle.binlog_wire.specs.declared.error.Error.TheVariants.{Memory, Writer}
use Rattle.binlog_variable_fields.specs.Tags.{is_tag}
use Rattle.binlog_variable_fields.specs.declared.gno_interval.GnoInterval.{GnoInterval}
use Rattle.binlog_gtids.specs.GnoSets.{AreApart, is_held, is_missing}
use Rattle.binlog_gtid_sets.specs.declared.gtid_group.GtidGroup.{GtidGroup}
use Rattle.binlog_ends.specs.Counts.{AppendsFront}

-- ---- texts

-- `:tag`, or nothing for no tag
abbrev pub tag_suffix : Option (List ℕ) → List ℕ
tag_suffix None = []
tag_suffix (Some tag) = codes ":" ++ tag

-- `first-last`, or the number of an interval that has only one
abbrev pub interval_text : GnoInterval → List ℕ
interval_text i = decimal i.start ++ (if i.start == i.end - 1 then [] else codes "-" ++ decimal (i.end - 1))

-- each interval behind a comma
abbrev pub further_text : List GnoInterval → List ℕ
further_text [] = []
further_text (i ∷ is) = codes "," ++ (interval_text i ++ further_text is)

-- intervals with commas between them, or `-` for none
abbrev pub intervals_text : List GnoInterval → List ℕ
intervals_text [] = codes "-"
intervals_text (i ∷ is) = interval_text i ++ further_text is

-- ` gaps gaps`, or nothing for a line without gaps
abbrev pub gaps_suffix : Option (List GnoInterval) → List ℕ
gaps_suffix None = []
gaps_suffix (Some gaps) = codes " gaps " ++ intervals_text gaps

-- `sid:tag intervals gaps gaps` or `sid:tag intervals`, the sid as 32 lower-case hexadecimal digits
abbrev pub group_line : List ℕ → Option (List ℕ) → List GnoInterval → Option (List GnoInterval) → List ℕ
group_line sid tag intervals gaps = encode_lower sid ++ (tag_suffix tag ++ (codes " " ++ (intervals_text intervals ++ (gaps_suffix gaps ++ codes "\n"))))

-- ---- lines

-- No tag, or one: a letter or an underscore, and letters, digits and underscores, at most 32 in all.
abbrev pub HasTag : Option (List ℕ) → Type 0
HasTag None = Unit {0}
HasTag (Some tag) = is_tag tag ≡ true

-- The line of a source and a tag: their numbers, and those that are missing, as ascending intervals that don't touch.
pub record IsGroupLine (sid : List ℕ) (tag : Option (List ℕ)) (intervals : List GnoInterval) (line : List ℕ) : Type 0 where
  pub tagged : HasTag tag
  pub apart : AreApart 0 intervals
  pub gaps : List GnoInterval
  pub gaps_apart : AreApart 0 gaps
  pub missing : (n : ℕ) → is_held gaps n ≡ is_missing intervals n
  pub text : line ≡ group_line sid tag intervals (Some gaps)

-- The line of a source and a tag without the numbers that are missing.
pub record IsNumbersLine (sid : List ℕ) (tag : Option (List ℕ)) (intervals : List GnoInterval) (line : List ℕ) : Type 0 where
  pub tagged : HasTag tag
  pub apart : AreApart 0 intervals
  pub text : line ≡ group_line sid tag intervals None

-- Either line, by whether it has the numbers that are missing.
abbrev pub IsLineWith : (has_gaps : Bool) → (sid : List ℕ) (tag : Option (List ℕ)) (intervals : List GnoInterval) (line : List ℕ) → Type 0
IsLineWith true = IsGroupLine
IsLineWith false = IsNumbersLine

-- ---- writing

-- The bytes are written, or a front of them where the writer failed.
abbrev pub Writes : {T : Type 0} → List ℕ → Option (List ℕ) → Result T Error → Option (List ℕ) → Type 0
Writes bytes old (Ok x) new = Appends old new bytes
Writes bytes old (Err error) new = (error ≡ Writer) × AppendsFront old new bytes

-- `has_gaps` says whether the lines have the numbers that are missing. Only those take memory.
module _ (has_gaps : Bool) where
  -- These are the lines of these groups, in their order.
  abbrev pub AreLines : List GtidGroup → List ℕ → Type 0
  AreLines [] lines = lines ≡ []
  AreLines (group ∷ groups) lines =
      (line : List ℕ) × (rest : List ℕ) × IsLineWith has_gaps group.sid group.tag group.gnos line × AreLines groups rest × (lines ≡ line ++ rest)

  -- A group's line is written; or nothing, where memory ran out for its gaps.
  abbrev pub WritesLine : List ℕ → Option (List ℕ) → List GnoInterval → Option (List ℕ) → Result (Unit {0}) Error → Option (List ℕ) → Type 0
  WritesLine sid tag intervals old answer new =
      ((has_gaps ≡ true) × (answer ≡ Err Memory) × (new ≡ old)) ⊎ ((line : List ℕ) × IsLineWith has_gaps sid tag intervals line × Writes line old answer new)

  -- The lines of the first groups are written, and of the next one nothing where memory ran out for its gaps, or a front where the
  -- writer failed.
  pub record WritesSomeLines (groups : List GtidGroup) (old : Option (List ℕ)) (error : Error) (new : Option (List ℕ)) : Type 0 where
    pub count : ℕ
    pub lines : List ℕ
    pub listed : AreLines (take count groups) lines
    pub written : ((has_gaps ≡ true) × (error ≡ Memory) × Appends old new lines) ⊎ ((error ≡ Writer) × AppendsFront old new lines)

  -- All lines of the groups are written, or some.
  abbrev pub WritesLines : List GtidGroup → Option (List ℕ) → Result (Unit {0}) Error → Option (List ℕ) → Type 0
  WritesLines groups old (Ok x) new = (lines : List ℕ) × AreLines groups lines × Appends old new lines
  WritesLines groups old (Err error) new = WritesSomeLines groups old error new

-- ---- with the numbers that are missing

abbrev pub AreGroupLines : List GtidGroup → List ℕ → Type 0
AreGroupLines groups lines = AreLines true groups lines

abbrev pub WritesSomeGroups : List GtidGroup → Option (List ℕ) → Error → Option (List ℕ) → Type 0
WritesSomeGroups groups old error new = WritesSomeLines true groups old error new

abbrev pub WritesGroups : List GtidGroup → Option (List ℕ) → Result (Unit {0}) Error → Option (List ℕ) → Type 0
WritesGroups groups old answer new = WritesLines true groups old answer new
