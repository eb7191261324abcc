-- A text is a file of one list of lines, and has no fault then.
use Rattle.std.proofs.Common.{◌≡◌, inl, inr, ℕ, List, [], ◌∷◌, length, drop, Some, Result, Ok, Err, refl, sym, ap, ◌∙◌, arith}
use Rattle.std.proofs.lemmas.Str.{is_utf8-from_IsUtf8, IsUtf8-nil}
use Rattle.std.proofs.Math.Seq.{drop-append_seam}
use Rattle.column_files.specs.declared.error.Fault.{Fault}
use Rattle.column_files.specs.declared.error.ColumnFileFault.TheVariants as faults
use Rattle.column_files.specs.declared.error.ColumnFileError.{ColumnFileError}
use Rattle.column_files.specs.declared.files.ColumnLine.{ColumnLine}
use Rattle.column_files.specs.Faults.{fault, error_at}
use Rattle.column_files.specs.Reading.{field_at}
use Rattle.column_files.specs.Files.{header, behind_end, IsBody, line_at, AreLines, IsFile, IsFaultAfter, IsInvalid}

no_field : field_at 9 [] ≡ Err (fault faults.Fields [])
unfolding field_at
no_field = rw (is_utf8-from_IsUtf8 [] IsUtf8-nil) refl

nothing_left : line_at [] ≡ Err (fault faults.Fields [])
unfolding line_at
nothing_left = rw no_field refl

one_answer : {A : Type 0} (r : Result A Fault) (x y : A) → r ≡ Ok x → r ≡ Ok y → x ≡ y
one_answer r x y h k = cc

not_both : {A : Type 0} (r : Result A Fault) (x : A) (f : Fault) → r ≡ Ok x → r ≡ Err f → ⊥
not_both r x f h k = cc

nothing_more : (text : List ℕ) (x : ColumnLine × List ℕ) → text ≡ [] → line_at text ≡ Ok x → ⊥
nothing_more text x none h = not_both (line_at []) x (fault faults.Fields []) (ap line_at (sym none) ∙ h) nothing_left

same_lines : (ls ms : List ColumnLine) (a b : List ℕ) → a ≡ b → AreLines a ls [] → AreLines b ms [] → ls ≡ ms
same_lines [] [] a b same h k = refl
same_lines [] (m ∷ ms) a b same h k = absurd (nothing_more b (m, k.0) (sym same ∙ h) k.1)
same_lines (l ∷ ls) [] a b same h k = absurd (nothing_more a (l, h.0) (same ∙ k) h.1)
same_lines (l ∷ ls) (m ∷ ms) a b same h k =
    let one : (l, h.0) ≡ (m, k.0) = one_answer (line_at a) (l, h.0) (m, k.0) h.1 (ap line_at same ∙ k.1) in
    let rests : ls ≡ ms = same_lines ls ms h.0 k.0 (ap (λ (x : ColumnLine × List ℕ). x.1) one) h.2 k.2 in
    ap (λ (x : ColumnLine). x ∷ ls) (ap (λ (x : ColumnLine × List ℕ). x.0) one) ∙ ap (λ (xs : List ColumnLine). m ∷ xs) rests

no_fault_after : (ls ms : List ColumnLine) (a b rest : List ℕ) (f : Fault) → a ≡ b → AreLines a ls [] → IsFaultAfter b f ms rest → ⊥
no_fault_after [] [] a b rest f same h bad = let none : rest ≡ [] = sym bad.before ∙ sym same ∙ h in omega (arith, bad.some, ap length none)
no_fault_after [] (m ∷ ms) a b rest f same h bad = let k = bad.before in nothing_more b (m, k.0) (sym same ∙ h) k.1
no_fault_after (l ∷ ls) [] a b rest f same h bad = not_both (line_at a) (l, h.0) f h.1 (ap line_at (same ∙ bad.before) ∙ bad.fault)
no_fault_after (l ∷ ls) (m ∷ ms) a b rest f same h bad =
    let k = bad.before in
    let one : (l, h.0) ≡ (m, k.0) = one_answer (line_at a) (l, h.0) (m, k.0) h.1 (ap line_at same ∙ k.1) in
    no_fault_after ls ms h.0 k.0 rest f (ap (λ (x : ColumnLine × List ℕ). x.1) one) h.2 (record { before = k.2; some = bad.some; fault = bad.fault })

same_faults : (ls ms : List ColumnLine) (a b rest more : List ℕ) (f g : Fault) → a ≡ b → IsFaultAfter a f ls rest → IsFaultAfter b g ms more → f ≡ g
same_faults [] [] a b rest more f g same h k = let one : line_at rest ≡ line_at more = ap line_at (sym h.before ∙ same ∙ k.before) in let left = h.fault in let right = k.fault in cc
same_faults [] (m ∷ ms) a b rest more f g same h k = let there = k.before in absurd (not_both (line_at b) (m, there.0) f there.1 (ap line_at (sym same ∙ h.before) ∙ h.fault))
same_faults (l ∷ ls) [] a b rest more f g same h k = let there = h.before in absurd (not_both (line_at a) (l, there.0) g there.1 (ap line_at (same ∙ k.before) ∙ k.fault))
same_faults (l ∷ ls) (m ∷ ms) a b rest more f g same h k =
    let left = h.before in
    let right = k.before in
    let one : (l, left.0) ≡ (m, right.0) = one_answer (line_at a) (l, left.0) (m, right.0) left.1 (ap line_at same ∙ right.1) in
    same_faults ls ms left.0 right.0 rest more f g (ap (λ (x : ColumnLine × List ℕ). x.1) one) (record { before = left.2; some = h.some; fault = h.fault }) (record { before = right.2; some = k.some; fault = k.fault })

-- What is behind the first line.
same_body : (text a b : List ℕ) → IsBody text a → IsBody text b → a ≡ b
same_body text a b h k =
    let rests : h.rest ≡ k.rest = sym (drop-append_seam header h.rest) ∙ ap (drop (length header)) (sym h.front ∙ k.front) ∙ drop-append_seam header k.rest in
    let bodies : Some a ≡ Some b = sym h.ended ∙ ap behind_end rests ∙ k.ended in
    cc

pub same_files : (text : List ℕ) (ls ms : List ColumnLine) → IsFile text ls → IsFile text ms → ls ≡ ms
same_files text ls ms h k = same_lines ls ms h.0 k.0 (same_body text h.0 k.0 h.1 k.1) h.2 k.2

pub file_valid : (text : List ℕ) (ls : List ColumnLine) (e : ColumnFileError) → IsFile text ls → IsInvalid text e → ⊥
file_valid text ls e h (inl headless) = headless.0 h.0 h.1
file_valid text ls e h (inr bad) =
    let after = bad.2 in
    no_fault_after ls after.1 h.0 bad.0 after.2 after.0 (same_body text h.0 bad.0 h.1 bad.1) h.2 after.3

pub same_errors : (text : List ℕ) (e d : ColumnFileError) → IsInvalid text e → IsInvalid text d → e ≡ d
same_errors text e d (inl h) (inl k) = h.1 ∙ sym k.1
same_errors text e d (inl h) (inr k) = absurd (h.0 k.0 k.1)
same_errors text e d (inr h) (inl k) = absurd (k.0 h.0 h.1)
same_errors text e d (inr h) (inr k) =
    let left = h.2 in
    let right = k.2 in
    let one = same_faults left.1 right.1 h.0 k.0 left.2 right.2 left.0 right.0 (same_body text h.0 k.0 h.1 k.1) left.3 right.3 in
    left.4 ∙ ap (error_at (length text)) one ∙ sym right.4
