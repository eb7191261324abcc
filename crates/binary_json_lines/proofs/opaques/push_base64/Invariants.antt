use Rattle.std.proofs.Common.{◌≡◌, ◌-◌, ◌*◌, ◌++◌, drop}
use Rattle.std.specs.String.{string_bytes}
use Rattle.binary_json_lines.specs.Opaques.{base64_lines}
use Rattle.binary_json_lines.proofs.opaques.push_base64.Given as goal

-- The lines so far, with those to come, are all of them.
abbrev pub invariant-lines : goal.invariant-lines
invariant-lines l = string_bytes l.text ++ base64_lines (l.count - l.index) (drop (l.index * 57) l.bytes) ≡ string_bytes l.fn.text ++ base64_lines l.count l.bytes
