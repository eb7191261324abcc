use Rattle.std.proofs.Common.{◌≡◌, ◌||◌, ℕ, List, None, length}
use Rattle.binlog_gtid_sets.specs.GtidGroups.{Pair, is_tracked}
use Rattle.binlog_gtid_text.specs.declared.piece.Piece.{Piece}
use Rattle.binlog_gtid_text.specs.Pieces.{ArePieces, are_naming}
use Rattle.binlog_gtid_text.proofs.parsing.add_pieces.Given as goal

-- whatever pieces are left, with those so far they are the text's, and name what they name with the set so far
abbrev pub invariant-loop-rest : goal.invariant-loop-rest
invariant-loop-rest l = (ps : List Piece) (end : List ℕ) → ArePieces l.rest ps end
    → (all : List Piece) × ArePieces l.text all end
    × ((q : Pair) (n : ℕ) → (are_naming l.under ps q n || is_tracked l.set q n) ≡ (are_naming (record { sid = l.fn.sid; tag = None }) all q n || is_tracked l.fn.set q n))

abbrev pub decreases-loop-rest : goal.decreases-loop-rest
decreases-loop-rest l = length l.rest
