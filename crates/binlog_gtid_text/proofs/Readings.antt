-- A text consists of one list of pieces, and has no fault then.
use Rattle.std.proofs.Common.{◌≡◌, ℕ, List, [], ◌∷◌, length, Result, Ok, Err, refl, sym, ap, ◌∙◌, arith}
use Rattle.binlog_gtid_text.specs.declared.error.Fault.{Fault}
use Rattle.binlog_gtid_text.specs.declared.error.GtidTextFault.TheVariants as faults
use Rattle.binlog_gtid_text.specs.declared.error.GtidTextError.{GtidTextError}
use Rattle.binlog_gtid_text.specs.declared.piece.Piece.{Piece}
use Rattle.binlog_gtid_text.specs.Faults.{fault, error_at}
use Rattle.binlog_gtid_text.specs.Reading.{skip, uuid_at, source_at, piece_at}
use Rattle.binlog_gtid_text.specs.Pieces.{ArePieces, IsText, IsFaultAfter, IsInvalidFrom, IsInvalid}

pub nothing_left : piece_at [] ≡ Err (fault faults.Separator [])
unfolding piece_at
nothing_left = refl

one_answer : {A : Type 0} (r : Result A Fault) (x y : A) → r ≡ Ok x → r ≡ Ok y → x ≡ y
one_answer r x y h k = cc

not_both_answers : {A : Type 0} (r : Result A Fault) (x : A) (f : Fault) → r ≡ Ok x → r ≡ Err f → ⊥
not_both_answers r x f h k = cc

nothing_more : (text : List ℕ) (x : Piece × List ℕ) → text ≡ [] → piece_at text ≡ Ok x → ⊥
nothing_more text x none h = not_both_answers (piece_at []) x (fault faults.Separator []) (ap piece_at (sym none) ∙ h) nothing_left

pub same_pieces : (ps qs : List Piece) (a b : List ℕ) → a ≡ b → ArePieces a ps [] → ArePieces b qs [] → ps ≡ qs
same_pieces [] [] a b same h k = refl
same_pieces [] (q ∷ qs) a b same h k = absurd (nothing_more b (q, k.0) (sym same ∙ h) k.1)
same_pieces (p ∷ ps) [] a b same h k = absurd (nothing_more a (p, h.0) (same ∙ k) h.1)
same_pieces (p ∷ ps) (q ∷ qs) a b same h k =
    let one : (p, h.0) ≡ (q, k.0) = one_answer (piece_at a) (p, h.0) (q, k.0) h.1 (ap piece_at same ∙ k.1) in
    let firsts : p ≡ q = ap (λ (x : Piece × List ℕ). x.0) one in
    let rests : ps ≡ qs = same_pieces ps qs h.0 k.0 (ap (λ (x : Piece × List ℕ). x.1) one) h.2 k.2 in
    ap (λ (x : Piece). x ∷ ps) firsts ∙ ap (λ (xs : List Piece). q ∷ xs) rests

-- no fault after pieces of a whole text
pub no_fault_after : (ps qs : List Piece) (a b rest : List ℕ) (f : Fault) → a ≡ b → ArePieces a ps [] → IsFaultAfter b f qs rest → ⊥
no_fault_after [] [] a b rest f same h bad = let none : rest ≡ [] = sym bad.before ∙ sym same ∙ h in omega (arith, bad.some, ap length none)
no_fault_after [] (q ∷ qs) a b rest f same h bad = let k = bad.before in nothing_more b (q, k.0) (sym same ∙ h) k.1
no_fault_after (p ∷ ps) [] a b rest f same h bad = not_both_answers (piece_at a) (p, h.0) f h.1 (ap piece_at (same ∙ bad.before) ∙ bad.fault)
no_fault_after (p ∷ ps) (q ∷ qs) a b rest f same h bad =
    let k = bad.before in
    let one : (p, h.0) ≡ (q, k.0) = one_answer (piece_at a) (p, h.0) (q, k.0) h.1 (ap piece_at same ∙ k.1) in
    no_fault_after ps qs h.0 k.0 rest f (ap (λ (x : Piece × List ℕ). x.1) one) h.2 (record { before = k.2; some = bad.some; fault = bad.fault })

no_source : source_at [] ≡ Err (fault faults.Uuid [])
unfolding source_at uuid_at
no_source = refl

source_pieced : (text : List ℕ) → skip text ≡ [] → (x : Piece × List ℕ) → source_at (skip text) ≡ Ok x → ⊥
source_pieced text none x h = not_both_answers (source_at []) x (fault faults.Uuid []) (ap source_at (sym none) ∙ h) no_source

pub same_texts : (ps qs : List Piece) (text : List ℕ) → IsText text ps → IsText text qs → ps ≡ qs
same_texts [] [] text h k = refl
same_texts [] (q ∷ qs) text h k = absurd (source_pieced text h (q, k.0) k.1)
same_texts (p ∷ ps) [] text h k = absurd (source_pieced text k (p, h.0) h.1)
same_texts (p ∷ ps) (q ∷ qs) text h k =
    let one : (p, h.0) ≡ (q, k.0) = one_answer (source_at (skip text)) (p, h.0) (q, k.0) h.1 k.1 in
    let firsts : p ≡ q = ap (λ (x : Piece × List ℕ). x.0) one in
    let rests : ps ≡ qs = same_pieces ps qs h.0 k.0 (ap (λ (x : Piece × List ℕ). x.1) one) h.2 k.2 in
    ap (λ (x : Piece). x ∷ ps) firsts ∙ ap (λ (xs : List Piece). q ∷ xs) rests

invalid_by : (ps : List Piece) (len : ℕ) (p : Piece) (mid : List ℕ) (r : Result (Piece × List ℕ) Fault) (e : GtidTextError) → r ≡ Ok (p, mid) → ArePieces mid ps [] → IsInvalidFrom len r e → ⊥
invalid_by ps len p mid (Ok x) e same h bad =
    let one : (p, mid) ≡ x = cc in
    no_fault_after ps bad.1 mid x.1 bad.2 bad.0 (ap (λ (x : Piece × List ℕ). x.1) one) h bad.3
invalid_by ps len p mid (Err f) e same h bad = cc

-- a text of pieces isn't invalid
pub text_valid : (ps : List Piece) (text : List ℕ) (e : GtidTextError) → IsText text ps → IsInvalid text e → ⊥
text_valid [] text e h bad = omega (arith, bad.0, ap length h)
text_valid (p ∷ ps) text e h bad = invalid_by ps (length text) p h.0 (source_at (skip text)) e h.1 h.2 bad.1

-- ---- one first fault

same_faults : (ps qs : List Piece) (a b rest more : List ℕ) (f g : Fault) → a ≡ b → IsFaultAfter a f ps rest → IsFaultAfter b g qs more → f ≡ g
same_faults [] [] a b rest more f g same h k = let one : piece_at rest ≡ piece_at more = ap piece_at (sym h.before ∙ same ∙ k.before) in let left = h.fault in let right = k.fault in cc
same_faults [] (q ∷ qs) a b rest more f g same h k = let there = k.before in absurd (not_both_answers (piece_at b) (q, there.0) f there.1 (ap piece_at (sym same ∙ h.before) ∙ h.fault))
same_faults (p ∷ ps) [] a b rest more f g same h k = let there = h.before in absurd (not_both_answers (piece_at a) (p, there.0) g there.1 (ap piece_at (same ∙ k.before) ∙ k.fault))
same_faults (p ∷ ps) (q ∷ qs) a b rest more f g same h k =
    let left = h.before in
    let right = k.before in
    let one : (p, left.0) ≡ (q, right.0) = one_answer (piece_at a) (p, left.0) (q, right.0) left.1 (ap piece_at same ∙ right.1) in
    same_faults ps qs left.0 right.0 rest more f g (ap (λ (x : Piece × List ℕ). x.1) one) (record { before = left.2; some = h.some; fault = h.fault }) (record { before = right.2; some = k.some; fault = k.fault })

errors_by : (len : ℕ) (r : Result (Piece × List ℕ) Fault) (e d : GtidTextError) → IsInvalidFrom len r e → IsInvalidFrom len r d → e ≡ d
errors_by len (Ok x) e d h k = h.4 ∙ ap (error_at len) (same_faults h.1 k.1 x.1 x.1 h.2 k.2 h.0 k.0 refl h.3 k.3) ∙ sym k.4
errors_by len (Err f) e d h k = h ∙ sym k

-- a text has one error
pub same_errors : (text : List ℕ) (e d : GtidTextError) → IsInvalid text e → IsInvalid text d → e ≡ d
same_errors text e d h k = errors_by (length text) (source_at (skip text)) e d h.1 k.1
