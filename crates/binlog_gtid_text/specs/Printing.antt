-- The text that is written of a set of GTIDs.
use Rattle.std.specs.Prelude.{ℕ, ◌-◌, nat_lt, List, [], ◌∷◌, ◌++◌, flat_map, decimal, Option, Some, None, if◌then◌else◌}
use Rattle.std.specs.Ordering.{nat_cmp, is_eq}
use Rattle.std.specs.Cmp.Lexicographic.{slice_cmp}
use Rattle.uuid.specs.Text.{hyphenated_text, lower}
use Rattle.binlog_variable_fields.specs.declared.gno_interval.GnoInterval.{GnoInterval}
use Rattle.binlog_gtid_sets.specs.declared.gtid_group.GtidGroup.{GtidGroup}

-- `:a-b`, or `:a` for one number.
abbrev pub interval_text : GnoInterval → List ℕ
interval_text i = 58 ∷ decimal i.start ++ (if nat_lt i.start (i.end - 1) then 45 ∷ decimal (i.end - 1) else [])

-- `:tag`, or nothing for no tag.
abbrev pub tag_part : Option (List ℕ) → List ℕ
tag_part None = []
tag_part (Some tag) = 58 ∷ tag

-- The UUID, in lower case with hyphens, after a `,` if it isn't the first; nothing if the group before has the same.
abbrev pub sid_part : Option (List ℕ) → List ℕ → List ℕ
sid_part None sid = hyphenated_text lower sid
sid_part (Some last) sid = if is_eq (slice_cmp nat_cmp last sid) then [] else 44 ∷ hyphenated_text lower sid

abbrev pub group_text : Option (List ℕ) → GtidGroup → List ℕ
group_text last group = sid_part last group.sid ++ (tag_part group.tag ++ flat_map interval_text group.gnos)

-- The groups after one of this source.
abbrev pub text_from : Option (List ℕ) → List GtidGroup → List ℕ
text_from last [] = []
text_from last (group ∷ groups) = group_text last group ++ text_from (Some group.sid) groups

abbrev pub set_text : List GtidGroup → List ℕ
set_text groups = text_from None groups
