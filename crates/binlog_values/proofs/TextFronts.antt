-- Texts with another one in front.
use Rattle.std.proofs.Common.{◌≡◌, ◌≤◌, ℕ, List, ◌++◌, sym, ap, subst, ◌∙◌, append_assoc, arith, length}
use Rattle.std.proofs.lemmas.List.{length-append}
use Rattle.std.proofs.Math.Seq.{take-append_seam}
use Rattle.std.proofs.lemmas.Str.{IsCharBoundary-from_take}
use Rattle.std.specs.Prelude.{take}
use Rattle.std.specs.Str.{IsUtf8, IsCharBoundary}
use Rattle.binlog_values.specs.Texts.{StartsWith}

-- More is appended.
pub starts_on : (front old new more : List ℕ) → StartsWith front old → new ≡ old ++ more → StartsWith front new
starts_on front old new more (rest, is) pushed = (rest ++ more, pushed ∙ ap (λ (l : List ℕ). l ++ more) is ∙ append_assoc front rest more)

-- The front of the front.
pub starts_before : (front old new : List ℕ) → StartsWith front old → StartsWith old new → StartsWith front new
starts_before front old new first (more, pushed) = starts_on front old new more first pushed

-- A text is cut behind its front.
pub cut_behind : (front text : List ℕ) → IsUtf8 front → IsUtf8 text → StartsWith front text → IsCharBoundary text (length front)
cut_behind front text first whole (rest, is) =
    let short : length front ≤ length text = omega (arith, ap length is, length-append front rest) in
    let cut : take (length front) text ≡ front = ap (take (length front)) is ∙ take-append_seam front rest in
    IsCharBoundary-from_take text (length front) whole short (subst IsUtf8 (sym cut) first)
