use Rattle.std.specs.Prelude.{None}
use Rattle.binlog_undo_index.proofs.Keeping.{kept_from_first, turns_are_told}
use Rattle.binlog_undo_index.proofs.laws.places_are_kept.Goals as goal

pub returns : goal.returns
returns c = record {
  kept = λ rules events. kept_from_first rules events;
  turns = λ events. turns_are_told None events;
}
