use Rattle.std.proofs.Common.{◌≡◌, ◌+◌, ◌-◌, ◌*◌, ◌/◌, ◌++◌, ℕ, take, drop, ap, arith}
use Rattle.std.specs.Prelude.{slice_range}
use Rattle.std.specs.String.{string_bytes}
use Rattle.binary_json_lines.specs.Opaques.{base64_lines}
use Rattle.binary_json_lines.proofs.Lines.{line_written}
use Rattle.binary_json_lines.proofs.opaques.push_base64.Goals as goal

pub lines-preserved : goal.lines-preserved
lines-preserved c =
    let s = c.args.bytes.now in
    let i = c.lines.index in
    let count = c.saturating_sub-count.result / 57 in
    let long : (i + 1) * 57 - i * 57 ≡ 57 = omega arith in
    let part : slice_range s (i * 57) ((i + 1) * 57) ≡ take 57 (drop (i * 57) s) = ap (λ (n : ℕ). take n (drop (i * 57) s)) long in
    line_written (string_bytes c.lines.text) (string_bytes c.encode_string.new.output) (string_bytes c.push_str.new.self) (string_bytes c.args.text.now ++ base64_lines count s) s (slice_range s (i * 57) ((i + 1) * 57)) count i
    c.lines-test.true c.lines.invariant part c.in_ok-encode_string.ensures.ok c.in_ok-push_str.ensures.bytes
