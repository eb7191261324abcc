-- A text that is checked while it is copied.
use Rattle.std.proofs.Common.{◌≡◌, ℕ, ◌+◌, ◌≤◌, Bool, true, false, List, [], ◌∷◌, ◌++◌, length, take, refl, sym, ap, subst, ◌∙◌, inl, inr, arith, length-take-le, take-take, take_at}
use Rattle.std.specs.Bool.{OnTrue}
use Rattle.std.specs.Str.{IsAscii}
use Rattle.std.proofs.lemmas.Bool.{cases_lt}
use Rattle.std.proofs.lemmas.Str.{IsUtf8-from_ascii}
use Rattle.json.specs.Filled.{Placed}
use Rattle.json.specs.Lex.{tokens}
use Rattle.json.specs.Print.{escape}
use Rattle.json.specs.Token.{string}
use Rattle.json.proofs.Printed.Utf8.{IsUtf8-quoted}
use Rattle.json_line.specs.Buffers.{comma}
use Rattle.json_line.specs.Lines.{IsLine}
use Rattle.json_line.specs.Passed.{PassedBetween}
use Rattle.json_line.proofs.OneMore.{text_begun, pushed, pushed_tokens}
use Rattle.json_line.proofs.PlainTexts.{string_text}

pub on : (b : Bool) {P : Type 0} → P → OnTrue b P
on true p = p
on false p = tt

pub on_map : (b : Bool) {P Q : Type 0} → OnTrue b P → (P → Q) → OnTrue b Q
on_map true p f = f p
on_map false p f = tt

-- Bytes that pass up to an index, and from there on.
pub joined : (text : List ℕ) (i j : ℕ) → PassedBetween text 0 i → PassedBetween text i j → PassedBetween text 0 j
joined text i j first second k from to = elim (cases_lt k i) [ inl less ↦ first k from less | inr more ↦ second k more to ]

-- A write keeps what is before it.
pub front_kept : {a b xs : List ℕ} {i j : ℕ} → i ≤ length a → Placed a b i xs j → take i b ≡ take i a
front_kept {a} {b} {xs} {i} {j} within p =
    sym (take-take i j b (omega (arith, p.moved))) ∙ ap (take i) p.bytes ∙ take_at (take i a) xs i (length-take-le i a within)

-- Nothing before a write changes where the bytes behind it change, too.
pub refused_kept : {a b xs : List ℕ} {i j : ℕ} (c : List ℕ) → i ≤ length a → Placed a b i xs j → take j c ≡ take j b → take i c ≡ take i a
refused_kept {a} {b} {xs} {i} {j} c within p kept =
    sym (take-take i j c (omega (arith, p.moved))) ∙ ap (take i) kept ∙ take-take i j b (omega (arith, p.moved)) ∙ front_kept within p

-- Where a write ends.
pub ends_there : {a b xs : List ℕ} {i j : ℕ} → Placed a b i xs j → Placed a b i xs (i + length xs)
ends_there {a} {b} {xs} {i} {j} p = subst (λ (k : ℕ). Placed a b i xs k) p.moved p

-- The line with the string, or as it was.
module _ (old : List ℕ) (after_value : Bool) (line : IsLine old after_value) (text new : List ℕ) (plain : escape text ≡ text) (ascii : IsAscii text)
    (is : new ≡ old ++ (comma after_value ++ 34 ∷ (text ++ 34 ∷ []))) where
  pub plain_pushed : IsLine new true
  plain_pushed = pushed old after_value line (string text) tt (IsUtf8-quoted _ (IsUtf8-from_ascii text ascii)) new true refl (text_begun old new after_value (string text) _ refl (string_text text plain) is)

  pub plain_tokens : tokens new ≡ tokens old ++ string text ∷ []
  plain_tokens = pushed_tokens old after_value line (string text) tt (IsUtf8-quoted _ (IsUtf8-from_ascii text ascii)) new true refl (text_begun old new after_value (string text) _ refl (string_text text plain) is)
