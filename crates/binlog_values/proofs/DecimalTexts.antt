-- Decimal numbers as text, group by group.
use Rattle.std.proofs.Common.{◌≡◌, ℕ, suc, ◌+◌, ◌-◌, ◌<◌, ◌≤◌, Bool, true, false, cond, List, [], ◌∷◌, ◌++◌, refl, sym, ap, ◌∙◌, append_assoc, append-nil, arith}
use Rattle.binlog_values.specs.Texts.{digits_text}
use Rattle.binlog_values.specs.DecimalGroups.{group_at, group_text, is_begun_by, nines_text, part_text}

-- ---- the digits before the point

nines_step : (count index place : ℕ) (is_begun : Bool) (s : List ℕ) → index < count → nines_text (count - index) place is_begun s
    ≡ group_text is_begun 9 (group_at place 9 s) ++ nines_text (count - (index + 1)) (place + 4) (is_begun_by is_begun (group_at place 9 s)) s
nines_step count index place is_begun s below = let left : count - index ≡ suc (count - (index + 1)) = omega arith in rw left refl

-- One more group.
pub nine_pushed : (old new start s : List ℕ) (count index place n : ℕ) (is_begun : Bool) → index < count → n ≡ group_at place 9 s
    → old ++ nines_text (count - index) place is_begun s ≡ start → new ≡ old ++ group_text is_begun 9 n
    → new ++ nines_text (count - (index + 1)) (place + 4) (is_begun_by is_begun n) s ≡ start
nine_pushed old new start s count index place n is_begun below is whole pushed =
    let rest : List ℕ = nines_text (count - (index + 1)) (place + 4) (is_begun_by is_begun n) s in
    let step : nines_text (count - index) place is_begun s ≡ group_text is_begun 9 n ++ rest = rw is (nines_step count index place is_begun s below) in
    ap (λ (l : List ℕ). l ++ rest) pushed ∙ append_assoc old (group_text is_begun 9 n) rest ∙ ap (λ (l : List ℕ). old ++ l) (sym step) ∙ whole

-- All groups.
pub nines_end : (text start s : List ℕ) (count index place : ℕ) (is_begun : Bool) → count ≤ index → text ++ nines_text (count - index) place is_begun s ≡ start
    → text ++ cond is_begun [] (48 ∷ []) ≡ start
nines_end text start s count index place is_begun over whole = let none : count - index ≡ 0 = omega arith in rw none at whole

pub begun_end : (text start : List ℕ) (is_begun : Bool) → is_begun ≡ true → text ++ cond is_begun [] (48 ∷ []) ≡ start → text ≡ start
begun_end text start true is whole = sym (append-nil text) ∙ whole
begun_end text start false is whole = absurd cc

pub zero_end : (text start : List ℕ) (is_begun : Bool) → is_begun ≡ false → text ++ cond is_begun [] (48 ∷ []) ≡ start → text ++ 48 ∷ [] ≡ start
zero_end text start true is whole = absurd cc
zero_end text start false is whole = whole

-- ---- the digits after the point

part_step : (count index place tail : ℕ) (s : List ℕ) → index < count → part_text (count - index) place tail s
    ≡ digits_text 9 (group_at place 9 s) ++ part_text (count - (index + 1)) (place + 4) tail s
part_step count index place tail s below = let left : count - index ≡ suc (count - (index + 1)) = omega arith in rw left refl

-- One more group.
pub part_pushed : (old new start s : List ℕ) (count index place tail n : ℕ) → index < count → n ≡ group_at place 9 s
    → old ++ part_text (count - index) place tail s ≡ start → new ≡ old ++ digits_text 9 n → new ++ part_text (count - (index + 1)) (place + 4) tail s ≡ start
part_pushed old new start s count index place tail n below is whole pushed =
    let rest : List ℕ = part_text (count - (index + 1)) (place + 4) tail s in
    let step : part_text (count - index) place tail s ≡ digits_text 9 n ++ rest = rw is (part_step count index place tail s below) in
    ap (λ (l : List ℕ). l ++ rest) pushed ∙ append_assoc old (digits_text 9 n) rest ∙ ap (λ (l : List ℕ). old ++ l) (sym step) ∙ whole

-- The last group.
pub part_end : (text start s : List ℕ) (count index place tail n : ℕ) → count ≤ index → n ≡ group_at place tail s → text ++ part_text (count - index) place tail s ≡ start
    → text ++ digits_text tail n ≡ start
part_end text start s count index place tail n over is whole = let none : count - index ≡ 0 = omega arith in rw is (rw none at whole)
