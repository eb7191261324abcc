-- The text of a set of GTIDs: the pieces that it consists of, and the GTIDs that they name.
use Rattle.std.specs.Prelude.{◌≡◌, ℕ, ◌<◌, Bool, false, ◌&&◌, ◌||◌, List, [], ◌∷◌, length, None, Result, Ok, Err}
use Rattle.std.specs.Option.{option_or}
use Rattle.binlog_gtids.specs.GnoSets.{is_within}
use Rattle.binlog_gtid_sets.specs.GtidGroups.{Pair, pair_of, is_same}
use Rattle.binlog_gtid_text.specs.declared.error.Fault.{Fault}
use Rattle.binlog_gtid_text.specs.declared.error.GtidTextError.{GtidTextError}
use Rattle.binlog_gtid_text.specs.declared.piece.Piece.{Piece}
use Rattle.binlog_gtid_text.specs.declared.piece.Piece.TheVariants as pieces
use Rattle.binlog_gtid_text.specs.declared.piece.Under.{Under}
use Rattle.binlog_gtid_text.specs.Faults.{error_at}
use Rattle.binlog_gtid_text.specs.Reading.{skip, source_at, piece_at}

-- ---- texts

-- The text consists of these pieces, and then of a rest.
abbrev pub ArePieces : List ℕ → List Piece → List ℕ → Type 0
ArePieces text [] rest = text ≡ rest
ArePieces text (p ∷ ps) rest = (mid : List ℕ) × (piece_at text ≡ Ok (p, mid)) × ArePieces mid ps rest

-- The text is whitespace alone, or consists of these pieces, of which the first has no `,` before its UUID.
abbrev pub IsText : List ℕ → List Piece → Type 0
IsText text [] = skip text ≡ []
IsText text (p ∷ ps) = (mid : List ℕ) × (source_at (skip text) ≡ Ok (p, mid)) × ArePieces mid ps []

-- The error is that of the fault of a reading, in a text of this length.
abbrev pub IsFaultAt : {A : Type 0} → ℕ → Result A Fault → GtidTextError → Type 0
IsFaultAt len reading e = (f : Fault) × (reading ≡ Err f) × (e ≡ error_at len f)

-- After these pieces, of a text that goes on, no piece can be read.
pub record IsFaultAfter (text : List ℕ) (f : Fault) (ps : List Piece) (rest : List ℕ) : Type 0 where
  pub before : ArePieces text ps rest
  pub some : 0 < length rest
  pub fault : piece_at rest ≡ Err f

-- The error is that of a fault after some pieces, in a text of this length.
abbrev pub IsInvalidAfter : ℕ → List ℕ → GtidTextError → Type 0
IsInvalidAfter len text e = (f : Fault) × (ps : List Piece) × (rest : List ℕ) × IsFaultAfter text f ps rest × (e ≡ error_at len f)

-- The error is that of no UUID at the start, or of a fault after it.
abbrev pub IsInvalidFrom : ℕ → Result (Piece × List ℕ) Fault → GtidTextError → Type 0
IsInvalidFrom len (Ok (p, mid)) e = IsInvalidAfter len mid e
IsInvalidFrom len (Err f) e = e ≡ error_at len f

-- The text isn't whitespace alone, and the error is that of its first fault.
abbrev pub IsInvalid : List ℕ → GtidTextError → Type 0
IsInvalid text e = (0 < length (skip text)) × IsInvalidFrom (length text) (source_at (skip text)) e

-- ---- what pieces name

-- Where the numbers after a piece are.
abbrev pub after_piece : Under → Piece → Under
after_piece u (pieces.Source sid) = record { sid = sid; tag = None }
after_piece u (pieces.Numbers tag i) = record { sid = u.sid; tag = option_or tag u.tag }

-- The piece names the GTID.
abbrev pub is_named : Under → Piece → Pair → ℕ → Bool
is_named u (pieces.Source sid) q n = false
is_named u (pieces.Numbers tag i) q n = is_same (pair_of u.sid (option_or tag u.tag)) q && is_within i n

-- One of the pieces names the GTID.
abbrev pub are_naming : Under → List Piece → Pair → ℕ → Bool
are_naming u [] q n = false
are_naming u (p ∷ ps) q n = is_named u p q n || are_naming (after_piece u p) ps q n

-- Before the first piece, which is a source.
abbrev pub nowhere : Under
nowhere = record { sid = []; tag = None }

-- The text names the GTID, if it consists of these pieces.
abbrev pub is_in_text : List Piece → Pair → ℕ → Bool
is_in_text ps = are_naming nowhere ps
