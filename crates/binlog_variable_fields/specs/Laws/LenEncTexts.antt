-- Lengths of strings after a length-encoded length.
use Rattle.std.proofs.Common.{ℕ, ◌+◌, ◌≤◌, List, length, arith, ◌≡◌, ltb, take, drop, Ok, ap, ◌∙◌}
use Rattle.std.proofs.lemmas.List.{length-append, length-take, length-drop}
use Rattle.binlog_wire.specs.Reading.{ends, ◌>>=◌}
use Rattle.binlog_wire.specs.Fields.{block_at, then_at}
use Rattle.binlog_wire.specs.Laws.{bind_ok, guard_ok}
use Rattle.binlog_variable_fields.specs.LenEnc.{lenenc_written, lenenc_at}
use Rattle.binlog_variable_fields.specs.Laws.LenEnc.{lenenc_most, lenenc_left}
use Rattle.binlog_variable_fields.specs.LenEncTexts.{lenenc_text}

-- The encoding of a string has at most nine bytes more than the string.
pub lenenc_text_most : (text : List ℕ) → length (lenenc_text.written text) ≤ length text + 9
lenenc_text_most text = omega (arith, length-append (lenenc_written (length text)) text, lenenc_most (length text))

-- ---- what was read isn't longer than the input

-- The string that was read and the bytes left are together at most as many as there were.
pub lenenc_text_left : (s : List ℕ) (x : List ℕ × List ℕ) → lenenc_text.reads s ≡ Ok x → length x.0 + length x.1 ≤ length s
lenenc_text_left s x e =
    let whole = bind_ok (then_at lenenc_at block_at s) (λ y. Ok (y.0.1, y.1)) x e in
    let len = bind_ok (lenenc_at s) (λ a. block_at a.0 a.1 >>= λ b. Ok ((a.0, b.0), b.1)) whole.0 whole.1 in
    let n : ℕ = len.0.0 in
    let m : List ℕ = len.0.1 in
    let bytes = bind_ok (block_at n m) (λ b. Ok ((n, b.0), b.1)) whole.0 len.2 in
    let enough = guard_ok (ltb (length m) n) ends (Ok (take n m, drop n m)) bytes.0 bytes.1 in
    let taken : ◌≡◌ {A = List ℕ × List ℕ} (take n m, drop n m) bytes.0 = cc in
    let kept : ◌≡◌ {A = (ℕ × List ℕ) × List ℕ} ((n, bytes.0.0), bytes.0.1) whole.0 = cc in
    let same : ◌≡◌ {A = List ℕ × List ℕ} (whole.0.0.1, whole.0.1) x = cc in
    let first : take n m ≡ x.0 = ap (λ (y : List ℕ × List ℕ). y.0) taken ∙ ap (λ (y : (ℕ × List ℕ) × List ℕ). y.0.1) kept ∙ ap (λ (y : List ℕ × List ℕ). y.0) same in
    let second : drop n m ≡ x.1 = ap (λ (y : List ℕ × List ℕ). y.1) taken ∙ ap (λ (y : (ℕ × List ℕ) × List ℕ). y.1) kept ∙ ap (λ (y : List ℕ × List ℕ). y.1) same in
    omega (arith, length-take n m, length-drop n m, lenenc_left s len.0 len.1, ap length first, ap length second)
