-- What is written of a set reads as the same set.
use Rattle.std.proofs.Common.{◌≡◌, ℕ, ◌⊎◌, inl, inr, List, Result, Ok, Err, IfOk, IfErr, MatchResult, sym, ap, subst, ◌∙◌}
use Rattle.binlog_gtid_sets.specs.declared.gtid_group.GtidGroup.{GtidGroup}
use Rattle.binlog_gtid_sets.specs.GtidGroups.{Pair, is_tracked, AreGroups}
use Rattle.binlog_gtid_text.specs.declared.error.GtidTextError.{GtidTextError}
use Rattle.binlog_gtid_text.specs.declared.error.GtidTextError.TheVariants.{Memory}
use Rattle.binlog_gtid_text.specs.declared.piece.Piece.{Piece}
use Rattle.binlog_gtid_text.specs.Pieces.{IsText, IsInvalid, is_in_text}
use Rattle.binlog_gtid_text.specs.Printing.{set_text}
use Rattle.binlog_gtid_text.specs.Laws.Printing.{AreWritable}
use Rattle.binlog_gtid_text.proofs.Readings.{same_texts, text_valid}
use Rattle.binlog_gtid_text.proofs.PrintedPieces.{pieces_of, printed_pieces, printed_named}

module _ (groups : List GtidGroup) (are : AreGroups groups) (is : AreWritable groups) (text : List ℕ) (same : text ≡ set_text groups) where
  written_pieces : IsText text (pieces_of groups)
  written_pieces = subst (λ (t : List ℕ). IsText t (pieces_of groups)) (sym same) (printed_pieces groups are is)

  pub reads_back : (ps : List Piece) × IsText text ps × ((pair : Pair) (n : ℕ) → is_in_text ps pair n ≡ is_tracked groups pair n)
  reads_back = (pieces_of groups, written_pieces, λ q n. printed_named groups are q n)

  pub read_back : (r : Result (List GtidGroup) GtidTextError) → IfOk r (λ set. (ps : List Piece) × IsText text ps × ((pair : Pair) (n : ℕ) → is_tracked set pair n ≡ is_in_text ps pair n))
      → IfErr r (λ e. (e ≡ Memory) ⊎ IsInvalid text e) → MatchResult r (λ set. (pair : Pair) (n : ℕ) → is_tracked set pair n ≡ is_tracked groups pair n) (λ e. e ≡ Memory)
  read_back (Ok set) ok err = λ q n. ok.2 q n ∙ ap (λ (ps : List Piece). is_in_text ps q n) (same_texts ok.0 (pieces_of groups) text ok.1 written_pieces) ∙ printed_named groups are q n
  read_back (Err e) ok (inl memory) = memory
  read_back (Err e) ok (inr bad) = absurd (text_valid (pieces_of groups) text e written_pieces bad)
