use Rattle.std.proofs.Common.{◌≡◌, ◌++◌, map, drop}
use Rattle.std.specs.List.{flat_map}
use Rattle.binlog_images.specs.StoredColumns.{column_of}
use Rattle.binlog_undo.specs.Completion.{completed_stored, null_flag, value_bytes}
use Rattle.binlog_undo.proofs.completion.completed.Given as goal

abbrev pub invariant-loop-index : goal.invariant-loop-index
invariant-loop-index l = record {
  nulls : l.image.nulls.items ++ flat_map null_flag (completed_stored (map column_of (drop l.index l.before)) (map column_of (drop l.index l.after)))
      ≡ flat_map null_flag (completed_stored (map column_of l.before) (map column_of l.after));
  values : l.image.values.items ++ flat_map value_bytes (completed_stored (map column_of (drop l.index l.before)) (map column_of (drop l.index l.after)))
      ≡ flat_map value_bytes (completed_stored (map column_of l.before) (map column_of l.after));
}
