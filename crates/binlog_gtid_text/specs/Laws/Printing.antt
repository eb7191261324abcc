-- The groups that a set can have: their sources are 16 bytes, their tags are tags, and their intervals are in order and apart.
use Rattle.std.specs.Prelude.{◌≡◌, ℕ, ◌<◌, true, List, length, Option, Some, None, All, ⊤}
use Rattle.std.specs.List.{AllByRecursion}
use Rattle.binlog_variable_fields.specs.Tags.{is_tag}
use Rattle.binlog_gtids.specs.GnoSets.{AreApart}
use Rattle.binlog_gtid_sets.specs.declared.gtid_group.GtidGroup.{GtidGroup}

pub record IsSid (sid : List ℕ) : Type 0 where
  pub long : length sid ≡ 16
  pub bytes : All (λ b. b < 256) sid

abbrev pub IsTagIfAny : Option (List ℕ) → Type 0
IsTagIfAny None = ⊤
IsTagIfAny (Some tag) = is_tag tag ≡ true

pub record IsWritable (group : GtidGroup) : Type 0 where
  pub sid : IsSid group.sid
  pub tag : IsTagIfAny group.tag
  pub gnos : AreApart 0 group.gnos

abbrev pub AreWritable : List GtidGroup → Type 0
AreWritable = AllByRecursion IsWritable
