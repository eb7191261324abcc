use Rattle.std.proofs.Common.{◌≡◌, take, map}
use Rattle.binlog_optional_metadata.specs.Facts.{texts_of}
use Rattle.binlog_declared_columns.proofs.completion.texts.Given as goal

-- The texts so far.
abbrev pub invariant-loop-member : goal.invariant-loop-member
invariant-loop-member l = texts_of l.texts.items ≡ map (λ text. text.items) (take l.member-index l.members)
