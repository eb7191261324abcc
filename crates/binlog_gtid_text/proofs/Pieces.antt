-- What pieces name, one after the other.
use Rattle.std.proofs.Common.{◌≡◌, ℕ, ◌<◌, Bool, true, false, eqb, ◌||◌, List, [], ◌∷◌, length, refl, ap, ◌∙◌, arith}
use Rattle.std.proofs.lemmas.Bool.Decides.{nat_tests}
use Rattle.std.proofs.lemmas.List.{nil_from_length}
use Rattle.binlog_gtid_sets.specs.GtidGroups.{Pair}
use Rattle.binlog_gtid_text.specs.declared.piece.Piece.{Piece}
use Rattle.binlog_gtid_text.specs.declared.piece.Under.{Under}
use Rattle.binlog_gtid_text.specs.Pieces.{after_piece, is_named, are_naming}

or_swap : (a b t : Bool) → (b || (a || t)) ≡ ((a || b) || t)
or_swap true true t = refl
or_swap true false t = refl
or_swap false b t = refl

pub or_none : (b : Bool) → (b || false) ≡ b
or_none true = refl
or_none false = refl

-- one piece more is in the set
pub piece_added : (u next : Under) (p : Piece) (ps : List Piece) (q : Pair) (n : ℕ) (old new whole : Bool) → next ≡ after_piece u p → new ≡ (is_named u p q n || old)
    → (are_naming u (p ∷ ps) q n || old) ≡ whole → (are_naming next ps q n || new) ≡ whole
piece_added u next p ps q n old new whole under put so_far =
    ap (λ (v : Under). are_naming v ps q n || new) under ∙ ap (λ (b : Bool). are_naming (after_piece u p) ps q n || b) put
    ∙ or_swap (is_named u p q n) (are_naming (after_piece u p) ps q n) old ∙ so_far

-- ---- whether a text goes on

pub goes_on : (s : List ℕ) (b : Bool) → b ≡ eqb (length s) 0 → b ≡ false → 0 < length s
goes_on s b h more = grind (arith, nat_tests)

pub is_over : (s : List ℕ) (b : Bool) → b ≡ eqb (length s) 0 → b ≡ true → s ≡ []
is_over s b h over = nil_from_length s (grind (arith, nat_tests))
