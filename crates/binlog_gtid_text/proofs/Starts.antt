-- How a text starts: its first UUID, or a fault there or after it.
use Rattle.std.proofs.Common.{◌≡◌, ℕ, ◌<◌, ◌||◌, List, [], ◌∷◌, length, None, Result, Ok, sym, ap, subst, ◌∙◌}
use Rattle.binlog_gtid_sets.specs.declared.gtid_group.GtidGroup.{GtidGroup}
use Rattle.binlog_gtid_sets.specs.GtidGroups.{Pair, is_tracked}
use Rattle.binlog_gtid_text.specs.declared.error.Fault.{Fault}
use Rattle.binlog_gtid_text.specs.declared.error.GtidTextError.{GtidTextError}
use Rattle.binlog_gtid_text.specs.declared.piece.Piece.{Piece}
use Rattle.binlog_gtid_text.specs.declared.piece.Piece.TheVariants as pieces
use Rattle.binlog_gtid_text.specs.Reading.{skip, uuid_at, source_at}
use Rattle.binlog_gtid_text.specs.Pieces.{IsFaultAt, ArePieces, IsText, IsInvalidAfter, IsInvalidFrom, IsInvalid, are_naming, is_in_text}
use Rattle.binlog_gtid_text.proofs.Pieces.{or_none}
use Rattle.binlog_gtid_text.proofs.Read.{source_ok, source_err}

module _ (text start : List ℕ) (same : start ≡ skip text) where
  some_there : 0 < length start → 0 < length (skip text)
  some_there some = subst (λ (s : List ℕ). 0 < length s) same some

  pub start_invalid : (e : GtidTextError) → 0 < length start → IsFaultAt (length text) (uuid_at start) e → IsInvalid text e
  start_invalid e some fault = (
    some_there some,
    subst (λ (r : Result (Piece × List ℕ) Fault). IsInvalidFrom (length text) r e) (sym (source_err (skip text) fault.0 (ap uuid_at (sym same) ∙ fault.1))) fault.2,
  )

  module _ (sid rest : List ℕ) (read : uuid_at start ≡ Ok (sid, rest)) where
    source_there : source_at (skip text) ≡ Ok (pieces.Source sid, rest)
    source_there = source_ok (skip text) sid rest (ap uuid_at (sym same) ∙ read)

    pub rest_invalid : (e : GtidTextError) → 0 < length start → IsInvalidAfter (length text) rest e → IsInvalid text e
    rest_invalid e some bad = (some_there some, subst (λ (r : Result (Piece × List ℕ) Fault). IsInvalidFrom (length text) r e) (sym source_there) bad)

    pub text_read : (ps : List Piece) (old set : List GtidGroup) → ArePieces rest ps [] → old ≡ []
        → ((q : Pair) (n : ℕ) → is_tracked set q n ≡ (are_naming (record { sid = sid; tag = None }) ps q n || is_tracked old q n))
        → (ps : List Piece) × IsText text ps × ((q : Pair) (n : ℕ) → is_tracked set q n ≡ is_in_text ps q n)
    text_read ps old set are none named = (
      pieces.Source sid ∷ ps,
      (rest, source_there, are),
      λ q n. named q n ∙ ap (λ (groups : List GtidGroup). are_naming (record { sid = sid; tag = None }) ps q n || is_tracked groups q n) none ∙ or_none (are_naming (record { sid = sid; tag = None }) ps q n),
    )
