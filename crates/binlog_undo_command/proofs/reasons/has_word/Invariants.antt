use Rattle.std.proofs.Common.{◌≡◌, false, map, take}
use Rattle.binlog_undo_command.specs.Reasons.{is_among}
use Rattle.binlog_undo_command.proofs.reasons.has_word.Given as goal

-- None of the words so far is the one that is wanted.
abbrev pub invariant-loop-word : goal.invariant-loop-word
invariant-loop-word l = is_among l.fn.wanted (map (λ word. word.now) (take l.word-index l.words)) ≡ false
