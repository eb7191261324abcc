-- What is behind bytes and lines.
use Rattle.std.proofs.Common.{◌≡◌, ℕ, suc, ◌+◌, ◌-◌, List, ◌∷◌, length, take, drop, sym, ap, ◌∙◌, arith}
use Rattle.std.specs.List.{prefix_len}
use Rattle.std.proofs.lemmas.List.{drop-drop, length-drop, take_all}
use Rattle.column_files.specs.Positions.{is_other, behind, behind_lines}

pub behind_first : (byte k : ℕ) (text rest : List ℕ) (first : ℕ) → k ≡ prefix_len (is_other byte) text → take (length text - k) (drop k text) ≡ first ∷ rest → rest ≡ behind byte text
behind_first byte k text rest first is split =
    let whole : take (length text - k) (drop k text) ≡ drop k text = take_all (length text - k) (drop k text) (omega (arith, length-drop k text)) in
    sym (ap (drop 1) (sym whole ∙ split)) ∙ drop-drop 1 k text ∙ ap (λ (n : ℕ). drop (n + 1) text) is

-- One more line.
pub lines_more : (n : ℕ) (s : List ℕ) → behind_lines (n + 1) s ≡ behind 10 (behind_lines n s)
lines_more n s = let one : n + 1 ≡ suc n = omega arith in ap (λ (k : ℕ). behind_lines k s) one
