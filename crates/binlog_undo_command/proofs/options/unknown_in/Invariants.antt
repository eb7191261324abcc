use Rattle.std.proofs.Common.{map, take}
use Rattle.binlog_undo_command.specs.Reasons.{AreSkipNames}
use Rattle.binlog_undo_command.proofs.options.unknown_in.Given as goal

-- All words so far are names.
abbrev pub invariant-loop-word : goal.invariant-loop-word
invariant-loop-word l = AreSkipNames (map (λ word. word.now) (take l.word-index l.words))
