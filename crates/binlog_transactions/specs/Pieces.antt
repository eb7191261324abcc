-- Which transactions are in a list of marks.
use Rattle.std.specs.Prelude.{◌≡◌, Bool, true, false, List, [], ◌∷◌, ◌++◌, Option, Some, None, if◌then◌else◌}
use Rattle.binlog_transactions.specs.Tables.{begun, cuts, behind, ends, refusal_at, refusal_outside}
use Rattle.binlog_transactions.specs.declared.mark.Mark.{Mark}
use Rattle.binlog_transactions.specs.declared.refusal.Refusal.{Refusal}
use Rattle.binlog_transactions.specs.declared.transaction.Transaction.{Transaction}
use Rattle.binlog_transactions.specs.declared.turn.Place.{Place}
use Rattle.binlog_transactions.specs.declared.turn.Place.TheVariants.{Outside, First, Within, Last, Alone}
use Rattle.binlog_transactions.specs.declared.turn.Turn.{Turn}

-- ---- the pieces of a log

-- An event of no transaction; a transaction of one event; one with a first event, others, and a last one; and one with a first
-- event and others that ends without a last one.
pub data Piece : Type 0 where
  outside : Mark → Piece
  alone : Mark → Piece
  whole : Mark → List Mark → Mark → Piece
  unfinished : Mark → List Mark → Piece

abbrev pub marks_of : Piece → List Mark
marks_of (outside mark) = mark ∷ []
marks_of (alone mark) = mark ∷ []
marks_of (whole first others last) = first ∷ others ++ last ∷ []
marks_of (unfinished first others) = first ∷ others

-- The transaction behind these events of it.
abbrev pub behind_all : Transaction → List Mark → Transaction
behind_all transaction [] = transaction
behind_all transaction (mark ∷ marks) = behind_all (behind transaction mark) marks

-- The transaction goes on over these events: it isn't cut off in front of one, and doesn't end with one.
abbrev pub GoesOn : Transaction → List Mark → Type 0
GoesOn transaction [] = Unit {0}
GoesOn transaction (mark ∷ marks) = (cuts transaction mark ≡ false) × (ends transaction mark ≡ false) × GoesOn (behind transaction mark) marks

-- A transaction begins with this event, and goes on over the others.
pub record Begins (first : Mark) (others : List Mark) (last : Transaction) : Type 0 where
  pub transaction : Transaction
  pub begins : begun first ≡ Some transaction
  pub stays : ends transaction first ≡ false
  pub goes_on : GoesOn (behind transaction first) others
  pub is : last ≡ behind_all (behind transaction first) others

-- What follows cuts the transaction off; the end of the log does.
abbrev pub IsCutBy : Transaction → List Mark → Type 0
IsCutBy transaction [] = Unit {0}
IsCutBy transaction (mark ∷ marks) = cuts transaction mark ≡ true

-- The piece is of its kind, in front of these marks.
abbrev pub IsPiece : Piece → List Mark → Type 0
IsPiece (outside mark) rest = begun mark ≡ None
IsPiece (alone mark) rest = (transaction : Transaction) × (begun mark ≡ Some transaction) × (ends transaction mark ≡ true)
IsPiece (whole first others last) rest = (transaction : Transaction) × Begins first others transaction × (cuts transaction last ≡ false) × (ends transaction last ≡ true)
IsPiece (unfinished first others) rest = (transaction : Transaction) × Begins first others transaction × IsCutBy transaction rest

-- The marks of a log are those of these pieces, one after the other.
abbrev pub ArePieces : List Mark → List Piece → Type 0
ArePieces marks [] = marks ≡ []
ArePieces marks (piece ∷ pieces) = (rest : List Mark) × (marks ≡ marks_of piece ++ rest) × IsPiece piece rest × ArePieces rest pieces

-- ---- what is said of their events

abbrev pub turn : Bool → Place → Option Refusal → Turn
turn cuts place refusal = record { cuts = cuts; place = place; refusal = refusal }

-- Of events within a transaction.
abbrev pub turns_within : Transaction → List Mark → List Turn
turns_within transaction [] = []
turns_within transaction (mark ∷ marks) = turn false Within (refusal_at transaction mark) ∷ turns_within (behind transaction mark) marks

-- Of the events of a transaction.
abbrev pub whole_turns : Bool → Transaction → Mark → List Mark → Mark → List Turn
whole_turns cuts transaction first others last =
    turn cuts First (refusal_at transaction first)
    ∷ turns_within (behind transaction first) others ++ turn false Last (refusal_at (behind_all (behind transaction first) others) last) ∷ []

abbrev pub unfinished_turns : Bool → Transaction → Mark → List Mark → List Turn
unfinished_turns cuts transaction first others = turn cuts First (refusal_at transaction first) ∷ turns_within (behind transaction first) others

-- Of the events of a piece, behind a transaction that is cut off or isn't, which begins with this transaction.
abbrev pub turns_of_alone : Bool → Mark → Option Transaction → List Turn
turns_of_alone cuts mark None = []
turns_of_alone cuts mark (Some transaction) = turn cuts Alone (refusal_at transaction mark) ∷ []

abbrev pub turns_of_whole : Bool → Mark → List Mark → Mark → Option Transaction → List Turn
turns_of_whole cuts first others last None = []
turns_of_whole cuts first others last (Some transaction) = whole_turns cuts transaction first others last

abbrev pub turns_of_unfinished : Bool → Mark → List Mark → Option Transaction → List Turn
turns_of_unfinished cuts first others None = []
turns_of_unfinished cuts first others (Some transaction) = unfinished_turns cuts transaction first others

abbrev pub turns_of : Bool → Piece → List Turn
turns_of cuts (outside mark) = turn cuts Outside (refusal_outside mark) ∷ []
turns_of cuts (alone mark) = turns_of_alone cuts mark (begun mark)
turns_of cuts (whole first others last) = turns_of_whole cuts first others last (begun first)
turns_of cuts (unfinished first others) = turns_of_unfinished cuts first others (begun first)

abbrev pub is_unfinished : Piece → Bool
is_unfinished (unfinished first others) = true
is_unfinished _ = false

-- Of the events of all pieces. A transaction that isn't finished is told with the event behind it.
abbrev pub turns_in : Bool → List Piece → List Turn
turns_in cuts [] = []
turns_in cuts (piece ∷ pieces) = turns_of cuts piece ++ turns_in (is_unfinished piece) pieces

-- The log ends within a transaction.
abbrev pub ends_unfinished : Bool → List Piece → Bool
ends_unfinished cuts [] = cuts
ends_unfinished cuts (piece ∷ pieces) = ends_unfinished (is_unfinished piece) pieces

-- ---- one event after the other

-- What is said of an event with which a transaction begins, or none does, and the transaction that is there behind it.
abbrev pub begin_as : Bool → Mark → Option Transaction → Turn × Option Transaction
begin_as cuts mark None = (turn cuts Outside (refusal_outside mark), None)
begin_as cuts mark (Some transaction) =
    if ends transaction mark
    then (turn cuts Alone (refusal_at transaction mark), None)
    else (turn cuts First (refusal_at transaction mark), Some (behind transaction mark))

abbrev pub begin_with : Bool → Mark → Turn × Option Transaction
begin_with cuts mark = begin_as cuts mark (begun mark)

-- Of an event of a transaction.
abbrev pub go_on : Transaction → Mark → Turn × Option Transaction
go_on transaction mark =
    if ends transaction mark
    then (turn false Last (refusal_at transaction mark), None)
    else (turn false Within (refusal_at transaction mark), Some (behind transaction mark))

-- Of an event, where this transaction, or none, is there in front of it.
abbrev pub step : Option Transaction → Mark → Turn × Option Transaction
step None mark = begin_with false mark
step (Some transaction) mark = if cuts transaction mark then begin_with true mark else go_on transaction mark

-- Of events, one after the other.
abbrev pub told : Option Transaction → List Mark → List Turn
told current [] = []
told current (mark ∷ marks) = (step current mark).0 ∷ told (step current mark).1 marks

-- The transaction that is there behind them.
abbrev pub current_behind : Option Transaction → List Mark → Option Transaction
current_behind current [] = current
current_behind current (mark ∷ marks) = current_behind (step current mark).1 marks
