-- A text consists of pieces, or has a fault.
use Rattle.std.proofs.Common.{◌≡◌, ℕ, zero, suc, ◌+◌, ◌<◌, ◌≤◌, ◌⊎◌, inl, inr, List, [], ◌∷◌, ◌++◌, length, Result, Ok, Err, refl, sym, ap, subst, ◌∙◌, length-append, arith}
use Rattle.binlog_gtid_text.specs.declared.error.Fault.{Fault}
use Rattle.binlog_gtid_text.specs.declared.error.GtidTextError.{GtidTextError}
use Rattle.binlog_gtid_text.specs.declared.piece.Piece.{Piece}
use Rattle.binlog_gtid_text.specs.declared.piece.Piece.TheVariants as pieces
use Rattle.binlog_gtid_text.specs.Faults.{error_at}
use Rattle.binlog_gtid_text.specs.Reading.{skip, source_at, piece_at}
use Rattle.binlog_gtid_text.specs.Pieces.{ArePieces, IsText, IsFaultAfter, IsInvalidFrom, IsInvalid}
use Rattle.binlog_gtid_text.specs.Spellings.{IsPieceText}
use Rattle.binlog_gtid_text.proofs.Spelled.{piece_spelled}

-- a piece has its separator
piece_length : (a : List ℕ) (p : Piece) → IsPieceText a p → 0 < length a
piece_length a (pieces.Source sid) is = subst (λ (t : List ℕ). 0 < length t) (sym (is.4 ∙ ap (λ (c : List ℕ). c ++ is.1) is.2.2)) (omega arith)
piece_length a (pieces.Numbers tag i) is = subst (λ (t : List ℕ). 0 < length t) (sym (is.6 ∙ ap (λ (c : List ℕ). c ++ (is.1 ++ is.2)) is.3.2)) (omega arith)

shorter : (s : List ℕ) (p : Piece) (mid : List ℕ) → piece_at s ≡ Ok (p, mid) → length mid < length s
shorter s p mid h =
    let spelled = piece_spelled s p mid h in
    let whole : length s ≡ length spelled.0 + length mid = ap length spelled.2 ∙ length-append spelled.0 mid in
    let some = piece_length spelled.0 p spelled.1 in
    omega arith

abbrev Read : List ℕ → Type 0
Read s = ((ps : List Piece) × ArePieces s ps []) ⊎ ((f : Fault) × (ps : List Piece) × (rest : List ℕ) × IsFaultAfter s f ps rest)

read_by : (s : List ℕ) (r : Result (Piece × List ℕ) Fault) → piece_at s ≡ r → 0 < length s → ((mid : List ℕ) → length mid < length s → Read mid) → Read s
read_by s (Err f) h some rest = inr (f, [], s, record { before = refl; some = some; fault = h })
read_by s (Ok x) h some rest = elim (rest x.1 (shorter s x.0 x.1 h)) [
  | inl are ↦ inl (x.0 ∷ are.0, (x.1, h, are.1))
  | inr bad ↦ (let fault = bad.3 in inr (bad.0, x.0 ∷ bad.1, bad.2, record { before = (x.1, h, fault.before); some = fault.some; fault = fault.fault }))
]

read_within : (n : ℕ) (s : List ℕ) → length s ≤ n → Read s
read_within n [] le = inl ([], refl)
read_within zero (b ∷ s) le = absurd (omega arith)
read_within (suc n) (b ∷ s) le = read_by (b ∷ s) (piece_at (b ∷ s)) refl (omega arith) (λ mid less. read_within n mid (omega arith))

start_by : (text start : List ℕ) → skip text ≡ start → 0 < length start → (r : Result (Piece × List ℕ) Fault) → source_at (skip text) ≡ r → ((ps : List Piece) × IsText text ps) ⊎ ((e : GtidTextError) × IsInvalid text e)
start_by text start is some (Err f) h =
    let there : 0 < length (skip text) = subst (λ (s : List ℕ). 0 < length s) (sym is) some in
    inr (error_at (length text) f, (there, subst (λ (r : Result (Piece × List ℕ) Fault). IsInvalidFrom (length text) r (error_at (length text) f)) (sym h) refl))
start_by text start is some (Ok x) h =
    let there : 0 < length (skip text) = subst (λ (s : List ℕ). 0 < length s) (sym is) some in
    elim (read_within (length x.1) x.1 (omega arith)) [
      | inl are ↦ inl (x.0 ∷ are.0, (x.1, h, are.1))
      | inr bad ↦ inr (
        error_at (length text) bad.0,
        (there, subst (λ (r : Result (Piece × List ℕ) Fault). IsInvalidFrom (length text) r (error_at (length text) bad.0)) (sym h) (bad.0, bad.1, bad.2, bad.3, refl)),
      )
    ]

text_by : (text start : List ℕ) → skip text ≡ start → ((ps : List Piece) × IsText text ps) ⊎ ((e : GtidTextError) × IsInvalid text e)
text_by text [] is = inl ([], is)
text_by text (b ∷ s) is = start_by text (b ∷ s) is (omega arith) (source_at (skip text)) refl

-- each text is read or refused
pub some_reading : (text : List ℕ) → ((ps : List Piece) × IsText text ps) ⊎ ((e : GtidTextError) × IsInvalid text e)
some_reading text = text_by text (skip text) refl
