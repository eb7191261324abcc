use Rattle.std.proofs.Common.{◌≡◌}
use Rattle.column_files.specs.Positions.{behind_lines}
use Rattle.column_files.proofs.positions.behind_lines.Given as goal

abbrev pub invariant-lines : goal.invariant-lines
invariant-lines l = l.rest ≡ behind_lines l.counter l.text
