-- Texts of status variables after their lengths.
use Rattle.std.proofs.Common.{◌≡◌, ℕ, suc, ◌+◌, ◌-◌, ◌<◌, Bool, true, false, List, [], ◌∷◌, length, take, drop, Some, None, ◌∙◌, ap, sym, arith, length-drop, if◌then◌else◌}
use Rattle.std.specs.Prelude.{nat_le, slice_index}
use Rattle.std.proofs.lemmas.List.{take_all}
use Rattle.binlog_statements.specs.Layouts.{IsWholeLen, value_len, behind, fixed_len, plus}
use Rattle.json_line.specs.Tokens.{text_value}
use Rattle.binlog_json_bodies.specs.StatusVars.{first_text, short_text}
use Rattle.binlog_statements.specs.declared.layout.Layout.TheVariants.{TextAnd}

plus_by : (b : Bool) (n m : ℕ) → plus n (if b then Some 0 else None) ≡ Some m → n ≡ m
plus_by true n m e = let sum : n + 0 ≡ m = cc in omega arith
plus_by false n m e = absurd cc

counted_by : (b : Bool) (n : ℕ) (s : List ℕ) → behind (fixed_len 0) (n ∷ s) (if b then Some (suc n) else None) ≡ Some (suc (length s)) → n ≡ length s
counted_by true n s is =
    let sum : suc n ≡ suc (length s) = plus_by (nat_le 0 (length (drop (suc n) (n ∷ s)))) (suc n) (suc (length s)) is in
    omega arith
counted_by false n s is = absurd cc

-- All bytes behind the length of a text that is a whole value are the text.
pub whole_text : (v : List ℕ) → value_len (TextAnd 0) v ≡ Some (length v) → slice_index v 0 < 256 → take 255 (take (slice_index v 0) (drop 1 v)) ≡ drop 1 v
whole_text [] is few = absurd cc
whole_text (n ∷ s) is few =
    let e : n ≡ length s = counted_by (nat_le n (length s)) n s is in
    let short : n < 256 = few in
    let first : take n s ≡ s = take_all n s (omega arith) in
    let all : take 255 s ≡ s = take_all 255 s (omega arith) in
    ap (λ (t : List ℕ). take 255 t) first ∙ all

-- The text of such a value is all of it but the length.
pub text_behind : (v : List ℕ) → IsWholeLen (TextAnd 0) v → slice_index v 0 < 256 → short_text (first_text v) ≡ text_value (take (length v - 1) (drop 1 v))
text_behind v whole few =
    let all : take (length v - 1) (drop 1 v) ≡ drop 1 v = take_all (length v - 1) (drop 1 v) (omega (arith, length-drop 1 v)) in
    ap (λ (t : List ℕ). text_value t) (whole_text v whole few ∙ sym all)
