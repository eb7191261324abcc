-- Laws of writing the groups of decimal numbers, one after the other.
use Rattle.std.proofs.Common.{◌≡◌, ℕ, zero, suc, ◌+◌, ◌-◌, ◌*◌, ◌/◌, ◌%◌, ◌<◌, Bool, List, [], ◌∷◌, ◌++◌, length, replicate, sym, ap, subst, ◌∙◌, append_assoc, arith}
use Rattle.std.specs.Prelude.{◌==◌}
use Rattle.std.proofs.lemmas.List.{append-nil}
use Rattle.binlog_values.specs.Contents.{digits_len, groups_len, decimal_len}
use Rattle.binlog_row_writing.specs.Decimals.{group_bytes, groups_bytes, decimal_bytes}
use Rattle.binlog_row_writing.specs.DecimalFits.{bytes_count, group_len, decimal_size}

-- One more group of nine digits.
pub rest_step : (precision : ℕ) (is_negative : Bool) (digits : List ℕ) (n i tail place next len more : ℕ) (s t all : List ℕ) → i < n
    → s ++ groups_bytes precision is_negative digits (replicate (n - i) 9 ++ tail ∷ []) place len ≡ all → t ≡ s ++ group_bytes precision is_negative digits 9 place (len == 0)
    → next ≡ place + 9 → more ≡ len + 4 → t ++ groups_bytes precision is_negative digits (replicate (n - (i + 1)) 9 ++ tail ∷ []) next more ≡ all
rest_step precision is_negative digits n i tail place next len more s t all less same is moved longer =
    let left : n - i ≡ suc (n - (i + 1)) = omega arith in
    let here : List ℕ = group_bytes precision is_negative digits 9 place (len == 0) in
    let rest : List ℕ = groups_bytes precision is_negative digits (replicate (n - (i + 1)) 9 ++ tail ∷ []) (place + 9) (len + 4) in
    let split : s ++ (here ++ rest) ≡ all = subst (λ (k : ℕ). s ++ groups_bytes precision is_negative digits (replicate k 9 ++ tail ∷ []) place len ≡ all) left same in
    let after : t ++ rest ≡ all = ap (λ (u : List ℕ). u ++ rest) is ∙ append_assoc s here rest ∙ split in
    subst (λ (k : ℕ). t ++ groups_bytes precision is_negative digits (replicate (n - (i + 1)) 9 ++ tail ∷ []) k more ≡ all) (sym moved)
    (subst (λ (k : ℕ). t ++ groups_bytes precision is_negative digits (replicate (n - (i + 1)) 9 ++ tail ∷ []) (place + 9) k ≡ all) (sym longer) after)

-- The last group.
pub rest_end : (precision : ℕ) (is_negative : Bool) (digits : List ℕ) (left tail place len : ℕ) (s t all : List ℕ) → left ≡ 0
    → s ++ groups_bytes precision is_negative digits (replicate left 9 ++ tail ∷ []) place len ≡ all → t ≡ s ++ group_bytes precision is_negative digits tail place (len == 0) → t ≡ all
rest_end precision is_negative digits left tail place len s t all none same is =
    let here : List ℕ = group_bytes precision is_negative digits tail place (len == 0) in
    let last : s ++ (here ++ []) ≡ all = subst (λ (k : ℕ). s ++ groups_bytes precision is_negative digits (replicate k 9 ++ tail ∷ []) place len ≡ all) none same in
    is ∙ ap (λ (u : List ℕ). s ++ u) (sym (append-nil here)) ∙ last

nines_len : (n tail : ℕ) → groups_len (replicate n 9 ++ tail ∷ []) ≡ 4 * n + digits_len tail
nines_len zero tail = omega arith
nines_len (suc n) tail = let ih = nines_len n tail in omega (arith, ih)

pub rest_len : (precision : ℕ) (is_negative : Bool) (digits : List ℕ) (n tail at place : ℕ)
    → length (groups_bytes precision is_negative digits (replicate n 9 ++ tail ∷ []) at place) ≡ 4 * n + digits_len tail
rest_len precision is_negative digits n tail at place = bytes_count precision is_negative digits (replicate n 9 ++ tail ∷ []) at place ∙ nines_len n tail

plus_zero : (n : ℕ) → n ≡ 0 + n
plus_zero n = omega arith

-- The first group, and the others.
pub whole_split : (precision scale : ℕ) (is_negative : Bool) (digits s t u : List ℕ) (none len : ℕ) → none ≡ 0
    → t ≡ s ++ group_bytes precision is_negative digits ((precision - scale) % 9) 0 (none == 0) → len ≡ digits_len ((precision - scale) % 9)
    → u ≡ t ++ groups_bytes precision is_negative digits (replicate ((precision - scale) / 9 + scale / 9) 9 ++ (scale % 9) ∷ []) ((precision - scale) % 9) len
    → u ≡ s ++ decimal_bytes precision scale is_negative digits
whole_split precision scale is_negative digits s t u none len empty first size second =
    let lead : ℕ = (precision - scale) % 9 in
    let counts : List ℕ = replicate ((precision - scale) / 9 + scale / 9) 9 ++ (scale % 9) ∷ [] in
    let here : List ℕ = group_bytes precision is_negative digits lead 0 (0 == 0) in
    let start : t ≡ s ++ here = subst (λ (n : ℕ). t ≡ s ++ group_bytes precision is_negative digits lead 0 (n == 0)) empty first in
    let others : u ≡ t ++ groups_bytes precision is_negative digits counts (0 + lead) (0 + digits_len lead) =
    subst (λ (n : ℕ). u ≡ t ++ groups_bytes precision is_negative digits counts n (0 + digits_len lead)) (plus_zero lead)
    (subst (λ (n : ℕ). u ≡ t ++ groups_bytes precision is_negative digits counts lead n) (size ∙ plus_zero (digits_len lead)) second) in
    let rest : List ℕ = groups_bytes precision is_negative digits counts (0 + lead) (0 + digits_len lead) in
    others ∙ ap (λ (v : List ℕ). v ++ rest) start ∙ append_assoc s here rest

pub whole_len : (precision scale : ℕ) (is_negative : Bool) (digits : List ℕ) → length (decimal_bytes precision scale is_negative digits) ≡ decimal_len precision scale
whole_len precision scale is_negative digits = decimal_size precision scale is_negative digits

pub lead_len : (precision count at : ℕ) (is_negative is_first : Bool) (digits : List ℕ) → length (group_bytes precision is_negative digits count at is_first) ≡ digits_len count
lead_len precision count at is_negative is_first digits = group_len precision count at is_negative is_first digits
