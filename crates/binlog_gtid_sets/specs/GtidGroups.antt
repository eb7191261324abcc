-- Sets of GTIDs, as groups of transaction numbers by source and tag, in ascending order.
use Rattle.std.specs.Prelude.{◌≡◌, ℕ, ◌<◌, ◌≤◌, Bool, List, [], ◌∷◌, length, slice_index_or, Option, Some, None, if◌then◌else◌}
use Rattle.std.specs.declared.cmp.Ordering.{Ordering}
use Rattle.std.specs.declared.cmp.Ordering.TheVariants.{Less, Equal, Greater}
use Rattle.std.specs.Ordering.{nat_cmp, then_cmp, on, is_eq}
use Rattle.std.specs.Cmp.Lexicographic.{slice_cmp}
use Rattle.binlog_variable_fields.specs.declared.gno_interval.GnoInterval.{GnoInterval}
use Rattle.binlog_gtids.specs.GnoSets.{is_held}
use Rattle.binlog_gtid_sets.specs.declared.gtid_group.GtidGroup.{GtidGroup}

-- The bytes of a tag; none for no tag. A tag has at least one byte.
abbrev pub tag_text : Option (List ℕ) → List ℕ
tag_text None = []
tag_text (Some tag) = tag

-- A source and a tag: the UUID of the source, and the bytes of the tag, none for no tag.
pub record Pair : Type 0 where
  pub sid : List ℕ
  pub tag : List ℕ

-- The pair of a source and an optional tag.
abbrev pub pair_of : List ℕ → Option (List ℕ) → Pair
pair_of sid tag = record { sid = sid; tag = tag_text tag }

-- The pair of a group.
abbrev pub pair_in : GtidGroup → Pair
pair_in group = pair_of group.sid group.tag

-- The order of pairs: by the bytes of the UUIDs, then by those of the tags. So no tag comes before any tag.
unfoldable pub compare_pairs : Pair → Pair → Ordering
compare_pairs = then_cmp (on (λ p. p.sid) (slice_cmp nat_cmp)) (on (λ p. p.tag) (slice_cmp nat_cmp))

-- The pairs are the same.
abbrev pub is_same : Pair → Pair → Bool
is_same p q = is_eq (compare_pairs p q)

-- The numbers of the group with this pair.
abbrev pub intervals_of : List GtidGroup → Pair → List GnoInterval
intervals_of [] pair = []
intervals_of (group ∷ groups) pair = if is_same (pair_in group) pair then group.gnos else intervals_of groups pair

-- The GTID is in the set.
abbrev pub is_tracked : List GtidGroup → Pair → ℕ → Bool
is_tracked groups pair = is_held (intervals_of groups pair)

-- The pairs ascend, and each group has a number.
pub record AreGroups (groups : List GtidGroup) : Type 0 where
  pub ascending : (i j : ℕ) (d : GtidGroup) → i < j → j < length groups → compare_pairs (pair_in (slice_index_or groups i d)) (pair_in (slice_index_or groups j d)) ≡ Less
  pub filled : (i : ℕ) (d : GtidGroup) → i < length groups → 0 < length (slice_index_or groups i d).gnos

-- The group at this index has the pair.
pub record IsAt (groups : List GtidGroup) (pair : Pair) (at : ℕ) : Type 0 where
  pub within : at < length groups
  pub same : (d : GtidGroup) → compare_pairs (pair_in (slice_index_or groups at d)) pair ≡ Equal

-- No group has the pair; its group would be inserted at this index.
pub record IsGapFor (groups : List GtidGroup) (pair : Pair) (at : ℕ) : Type 0 where
  pub within : at ≤ length groups
  pub smaller : (j : ℕ) (d : GtidGroup) → j < at → compare_pairs (pair_in (slice_index_or groups j d)) pair ≡ Less
  pub greater : (j : ℕ) (d : GtidGroup) → at ≤ j → j < length groups → compare_pairs (pair_in (slice_index_or groups j d)) pair ≡ Greater

-- The pair of each group is below a pair.
abbrev pub AreBelow : List GtidGroup → Pair → Type 0
AreBelow groups pair = (i : ℕ) (d : GtidGroup) → i < length groups → compare_pairs (pair_in (slice_index_or groups i d)) pair ≡ Less
