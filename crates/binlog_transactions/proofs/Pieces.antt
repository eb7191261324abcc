-- The pieces of a log.
use Rattle.std.proofs.Common.{◌≡◌, ◌⊎◌, inl, inr, Bool, true, false, List, [], ◌∷◌, ◌++◌, Option, Some, None, refl, sym, ◌∙◌, ap, subst, append_assoc}
use Rattle.std.specs.Prelude.{is_some, if◌then◌else◌}
use Rattle.binlog_transactions.specs.Pieces.{Piece, outside, alone, whole, unfinished, marks_of, behind_all, GoesOn, Begins, IsCutBy, IsPiece, ArePieces, turn, turns_within, whole_turns, unfinished_turns, turns_of_alone, turns_of_whole, turns_of_unfinished, turns_of, is_unfinished, turns_in, ends_unfinished, begin_as, begin_with, go_on, step, told, current_behind}
use Rattle.binlog_transactions.specs.Tables.{begun, cuts, behind, ends, refusal_at, refusal_outside}
use Rattle.binlog_transactions.specs.declared.mark.Mark.{Mark}
use Rattle.binlog_transactions.specs.declared.transaction.Transaction.{Transaction}
use Rattle.binlog_transactions.specs.declared.turn.Place.TheVariants.{Outside, First, Within, Last, Alone}
use Rattle.binlog_transactions.specs.declared.turn.Turn.{Turn}

-- ---- there are pieces

abbrev SomePieces : List Mark → Type 0
SomePieces marks = (pieces : List Piece) × ArePieces marks pieces

-- The transaction ends with one of the marks, behind which there are pieces.
record EndsIn (transaction : Transaction) (marks : List Mark) : Type 0 where
  pub front : List Mark
  pub last : Mark
  pub rest : List Mark
  pub split : marks ≡ front ++ last ∷ rest
  pub goes : GoesOn transaction front
  pub stays : cuts (behind_all transaction front) last ≡ false
  pub ends : ends (behind_all transaction front) last ≡ true
  pub others : SomePieces rest

-- It is cut off in front of one of them, or behind all.
record IsCutIn (transaction : Transaction) (marks : List Mark) : Type 0 where
  pub front : List Mark
  pub rest : List Mark
  pub split : marks ≡ front ++ rest
  pub goes : GoesOn transaction front
  pub cut : IsCutBy (behind_all transaction front) rest
  pub others : SomePieces rest

abbrev GoesTo : Transaction → List Mark → Type 0
GoesTo transaction marks = EndsIn transaction marks ⊎ IsCutIn transaction marks

-- A transaction that begins with a mark is a piece, and others follow.
first_piece : (mark : Mark) (marks : List Mark) (transaction : Transaction) → begun mark ≡ Some transaction → ends transaction mark ≡ false
    → GoesTo (behind transaction mark) marks → SomePieces (mark ∷ marks)
first_piece mark marks transaction begins stays (inl h) =
    let first : Begins mark h.front (behind_all (behind transaction mark) h.front) = record { transaction = transaction; begins = begins; stays = stays; goes_on = h.goes; is = refl } in
    let split : mark ∷ marks ≡ (mark ∷ h.front ++ h.last ∷ []) ++ h.rest =
    ap (λ (ms : List Mark). mark ∷ ms) (h.split ∙ sym (append_assoc h.front (h.last ∷ []) h.rest)) in
    (whole mark h.front h.last ∷ h.others.0, (h.rest, split, (behind_all (behind transaction mark) h.front, first, h.stays, h.ends), h.others.1))
first_piece mark marks transaction begins stays (inr h) =
    let first : Begins mark h.front (behind_all (behind transaction mark) h.front) = record { transaction = transaction; begins = begins; stays = stays; goes_on = h.goes; is = refl } in
    (unfinished mark h.front ∷ h.others.0, (h.rest, ap (λ (ms : List Mark). mark ∷ ms) h.split, (behind_all (behind transaction mark) h.front, first, h.cut), h.others.1))

begins_or_ends : (mark : Mark) (marks : List Mark) (transaction : Transaction) (ends_here : Bool) → begun mark ≡ Some transaction → ends transaction mark ≡ ends_here
    → SomePieces marks → GoesTo (behind transaction mark) marks → SomePieces (mark ∷ marks)
begins_or_ends mark marks transaction true begins is others goes = (alone mark ∷ others.0, (marks, refl, (transaction, begins, is), others.1))
begins_or_ends mark marks transaction false begins is others goes = first_piece mark marks transaction begins is goes

one_more_begins : (mark : Mark) (marks : List Mark) (first : Option Transaction) → begun mark ≡ first → SomePieces marks
    → ((transaction : Transaction) → GoesTo transaction marks) → SomePieces (mark ∷ marks)
one_more_begins mark marks None is others goes = (outside mark ∷ others.0, (marks, refl, is, others.1))
one_more_begins mark marks (Some transaction) is others goes =
    begins_or_ends mark marks transaction (ends transaction mark) is refl others (goes (behind transaction mark))

-- A transaction goes on over one more mark.
goes_over : (mark : Mark) (marks : List Mark) (transaction : Transaction) → cuts transaction mark ≡ false → ends transaction mark ≡ false
    → GoesTo (behind transaction mark) marks → GoesTo transaction (mark ∷ marks)
goes_over mark marks transaction uncut stays (inl h) = inl (record {
  front = mark ∷ h.front;
  last = h.last;
  rest = h.rest;
  split = ap (λ (ms : List Mark). mark ∷ ms) h.split;
  goes = (uncut, stays, h.goes);
  stays = h.stays;
  ends = h.ends;
  others = h.others;
})
goes_over mark marks transaction uncut stays (inr h) = inr (record {
  front = mark ∷ h.front;
  rest = h.rest;
  split = ap (λ (ms : List Mark). mark ∷ ms) h.split;
  goes = (uncut, stays, h.goes);
  cut = h.cut;
  others = h.others;
})

ends_or_goes : (mark : Mark) (marks : List Mark) (transaction : Transaction) (ends_here : Bool) → cuts transaction mark ≡ false → ends transaction mark ≡ ends_here
    → SomePieces marks → GoesTo (behind transaction mark) marks → GoesTo transaction (mark ∷ marks)
ends_or_goes mark marks transaction true uncut is others goes =
    inl (record { front = []; last = mark; rest = marks; split = refl; goes = tt; stays = uncut; ends = is; others = others })
ends_or_goes mark marks transaction false uncut is others goes = goes_over mark marks transaction uncut is goes

cut_or_goes : (mark : Mark) (marks : List Mark) (transaction : Transaction) (cut_here : Bool) → cuts transaction mark ≡ cut_here → SomePieces marks → SomePieces (mark ∷ marks)
    → GoesTo (behind transaction mark) marks → GoesTo transaction (mark ∷ marks)
cut_or_goes mark marks transaction true is others all goes = inr (record { front = []; rest = mark ∷ marks; split = refl; goes = tt; cut = is; others = all })
cut_or_goes mark marks transaction false is others all goes = ends_or_goes mark marks transaction (ends transaction mark) is refl others goes

-- Each list of marks is pieces, also behind the front of a transaction.
all_ways : (marks : List Mark) → SomePieces marks × ((transaction : Transaction) → GoesTo transaction marks)
all_ways [] = (([], refl), λ transaction. inr (record { front = []; rest = []; split = refl; goes = tt; cut = tt; others = ([], refl) }))
all_ways (mark ∷ marks) =
    let more = all_ways marks in
    let all : SomePieces (mark ∷ marks) = one_more_begins mark marks (begun mark) refl more.0 more.1 in
    (all, λ transaction. cut_or_goes mark marks transaction (cuts transaction mark) refl more.0 all (more.1 (behind transaction mark)))

pub some_pieces : (marks : List Mark) → SomePieces marks
some_pieces marks = (all_ways marks).0

-- ---- what is said of their events

-- What is said of marks where no transaction is there, behind one that is cut off or isn't, and the transaction behind them.
abbrev told_first : Bool → List Mark → List Turn
told_first cut [] = []
told_first cut (mark ∷ marks) = (begin_with cut mark).0 ∷ told (begin_with cut mark).1 marks

abbrev behind_first : Bool → List Mark → Option Transaction
behind_first cut [] = None
behind_first cut (mark ∷ marks) = current_behind (begin_with cut mark).1 marks

first_told : (marks : List Mark) → told None marks ≡ told_first false marks
first_told [] = refl
first_told (mark ∷ marks) = refl

first_behind : (marks : List Mark) → current_behind None marks ≡ behind_first false marks
first_behind [] = refl
first_behind (mark ∷ marks) = refl

-- Whether a transaction is cut off doesn't matter to those behind it.
cut_is_told : (transaction : Transaction) (rest : List Mark) → IsCutBy transaction rest → told (Some transaction) rest ≡ told_first true rest
cut_is_told transaction [] cut = refl
cut_is_told transaction (mark ∷ marks) cut =
    let here : step (Some transaction) mark ≡ begin_with true mark = ap (λ (b : Bool). if b then begin_with true mark else go_on transaction mark) cut in
    ap (λ (x : Turn × Option Transaction). x.0 ∷ told x.1 marks) here

stays_at : (transaction : Transaction) (mark : Mark) → cuts transaction mark ≡ false → ends transaction mark ≡ false
    → step (Some transaction) mark ≡ (turn false Within (refusal_at transaction mark), Some (behind transaction mark))
stays_at transaction mark uncut stays =
    ap (λ (b : Bool). if b then begin_with true mark else go_on transaction mark) uncut
    ∙ ap (λ (b : Bool). let x : Turn × Option Transaction = if b then (turn false Last (refusal_at transaction mark), None) else (turn false Within (refusal_at transaction mark), Some (behind transaction mark)) in x) stays

ends_at : (transaction : Transaction) (mark : Mark) → cuts transaction mark ≡ false → ends transaction mark ≡ true
    → step (Some transaction) mark ≡ (turn false Last (refusal_at transaction mark), None)
ends_at transaction mark uncut ends_here =
    ap (λ (b : Bool). if b then begin_with true mark else go_on transaction mark) uncut
    ∙ ap (λ (b : Bool). let x : Turn × Option Transaction = if b then (turn false Last (refusal_at transaction mark), None) else (turn false Within (refusal_at transaction mark), Some (behind transaction mark)) in x) ends_here

within_told : (transaction : Transaction) (marks rest : List Mark) → GoesOn transaction marks
    → told (Some transaction) (marks ++ rest) ≡ turns_within transaction marks ++ told (Some (behind_all transaction marks)) rest
within_told transaction [] rest goes = refl
within_told transaction (mark ∷ marks) rest goes =
    ap (λ (x : Turn × Option Transaction). x.0 ∷ told x.1 (marks ++ rest)) (stays_at transaction mark goes.0 goes.1)
    ∙ ap (λ (turns : List Turn). turn false Within (refusal_at transaction mark) ∷ turns) (within_told (behind transaction mark) marks rest goes.2)

begins_at : (cut : Bool) (mark : Mark) (transaction : Transaction) → begun mark ≡ Some transaction → ends transaction mark ≡ false
    → begin_with cut mark ≡ (turn cut First (refusal_at transaction mark), Some (behind transaction mark))
begins_at cut mark transaction begins stays =
    ap (begin_as cut mark) begins
    ∙ ap (λ (b : Bool). let x : Turn × Option Transaction = if b then (turn cut Alone (refusal_at transaction mark), None) else (turn cut First (refusal_at transaction mark), Some (behind transaction mark)) in x) stays

alone_at : (cut : Bool) (mark : Mark) (transaction : Transaction) → begun mark ≡ Some transaction → ends transaction mark ≡ true
    → begin_with cut mark ≡ (turn cut Alone (refusal_at transaction mark), None)
alone_at cut mark transaction begins ends_here =
    ap (begin_as cut mark) begins
    ∙ ap (λ (b : Bool). let x : Turn × Option Transaction = if b then (turn cut Alone (refusal_at transaction mark), None) else (turn cut First (refusal_at transaction mark), Some (behind transaction mark)) in x) ends_here

-- A transaction that ends, and one that doesn't.
whole_told : (cut : Bool) (first : Mark) (others : List Mark) (last : Mark) (rest : List Mark) (end : Transaction) → (h : Begins first others end) → cuts end last ≡ false → ends end last ≡ true
    → told_first cut (first ∷ (others ++ last ∷ rest)) ≡ whole_turns cut h.transaction first others last ++ told_first false rest
whole_told cut first others last rest end h uncut ends_here =
    let start : Transaction = behind h.transaction first in
    let all : Transaction = behind_all start others in
    let end_is : step (Some all) last ≡ (turn false Last (refusal_at all last), None) =
    ends_at all last (subst (λ (t : Transaction). cuts t last ≡ false) h.is uncut) (subst (λ (t : Transaction). ends t last ≡ true) h.is ends_here) in
    let then_told : told (Some all) (last ∷ rest) ≡ turn false Last (refusal_at all last) ∷ told_first false rest =
    ap (λ (x : Turn × Option Transaction). x.0 ∷ told x.1 rest) end_is ∙ ap (λ (turns : List Turn). turn false Last (refusal_at all last) ∷ turns) (first_told rest) in
    ap (λ (x : Turn × Option Transaction). x.0 ∷ told x.1 (others ++ last ∷ rest)) (begins_at cut first h.transaction h.begins h.stays)
    ∙ ap (λ (turns : List Turn). turn cut First (refusal_at h.transaction first) ∷ turns)
    (within_told start others (last ∷ rest) h.goes_on ∙ ap (λ (turns : List Turn). turns_within start others ++ turns) then_told
    ∙ sym (append_assoc (turns_within start others) (turn false Last (refusal_at all last) ∷ []) (told_first false rest)))

unfinished_told : (cut : Bool) (first : Mark) (others rest : List Mark) (end : Transaction) → (h : Begins first others end) → IsCutBy end rest
    → told_first cut (first ∷ (others ++ rest)) ≡ unfinished_turns cut h.transaction first others ++ told_first true rest
unfinished_told cut first others rest end h is_cut =
    let start : Transaction = behind h.transaction first in
    let all : Transaction = behind_all start others in
    ap (λ (x : Turn × Option Transaction). x.0 ∷ told x.1 (others ++ rest)) (begins_at cut first h.transaction h.begins h.stays)
    ∙ ap (λ (turns : List Turn). turn cut First (refusal_at h.transaction first) ∷ turns)
    (within_told start others rest h.goes_on
    ∙ ap (λ (turns : List Turn). turns_within start others ++ turns) (cut_is_told all rest (subst (λ (t : Transaction). IsCutBy t rest) h.is is_cut)))

-- One piece.
piece_told : (cut : Bool) (piece : Piece) (rest : List Mark) → IsPiece piece rest
    → told_first cut (marks_of piece ++ rest) ≡ turns_of cut piece ++ told_first (is_unfinished piece) rest
piece_told cut (outside mark) rest h =
    ap (λ (x : Turn × Option Transaction). x.0 ∷ told x.1 rest) (ap (begin_as cut mark) h) ∙ ap (λ (turns : List Turn). turn cut Outside (refusal_outside mark) ∷ turns) (first_told rest)
piece_told cut (alone mark) rest h =
    ap (λ (x : Turn × Option Transaction). x.0 ∷ told x.1 rest) (alone_at cut mark h.0 h.1 h.2)
    ∙ ap (λ (turns : List Turn). turn cut Alone (refusal_at h.0 mark) ∷ turns) (first_told rest)
    ∙ ap (λ (o : Option Transaction). turns_of_alone cut mark o ++ told_first false rest) (sym h.1)
piece_told cut (whole first others last) rest h =
    ap (λ (marks : List Mark). told_first cut (first ∷ marks)) (append_assoc others (last ∷ []) rest)
    ∙ whole_told cut first others last rest h.0 h.1 h.2 h.3
    ∙ ap (λ (o : Option Transaction). turns_of_whole cut first others last o ++ told_first false rest) (sym h.1.begins)
piece_told cut (unfinished first others) rest h =
    unfinished_told cut first others rest h.0 h.1 h.2 ∙ ap (λ (o : Option Transaction). turns_of_unfinished cut first others o ++ told_first true rest) (sym h.1.begins)

pieces_told : (cut : Bool) (marks : List Mark) (pieces : List Piece) → ArePieces marks pieces → told_first cut marks ≡ turns_in cut pieces
pieces_told cut marks [] h = ap (told_first cut) h
pieces_told cut marks (piece ∷ pieces) h =
    ap (told_first cut) h.1 ∙ piece_told cut piece h.0 h.2
    ∙ ap (λ (turns : List Turn). turns_of cut piece ++ turns) (pieces_told (is_unfinished piece) h.0 pieces h.3)

pub all_told : (marks : List Mark) (pieces : List Piece) → ArePieces marks pieces → told None marks ≡ turns_in false pieces
all_told marks pieces h = first_told marks ∙ pieces_told false marks pieces h

-- ---- the end of the log

within_behind : (transaction : Transaction) (marks rest : List Mark) → GoesOn transaction marks
    → current_behind (Some transaction) (marks ++ rest) ≡ current_behind (Some (behind_all transaction marks)) rest
within_behind transaction [] rest goes = refl
within_behind transaction (mark ∷ marks) rest goes =
    ap (λ (x : Turn × Option Transaction). current_behind x.1 (marks ++ rest)) (stays_at transaction mark goes.0 goes.1)
    ∙ within_behind (behind transaction mark) marks rest goes.2

-- Whether a transaction is there behind marks that follow a cut one, or none.
abbrev IsLeft : Bool → List Mark → Bool → Type 0
IsLeft cut [] left = left ≡ cut
IsLeft cut (mark ∷ marks) left = is_some (current_behind (begin_with cut mark).1 marks) ≡ left

left_behind : (rest : List Mark) (left : Bool) → IsLeft false rest left → is_some (current_behind None rest) ≡ left
left_behind [] left h = sym h
left_behind (mark ∷ marks) left h = h

cut_left : (transaction : Transaction) (rest : List Mark) (left : Bool) → IsCutBy transaction rest → IsLeft true rest left → is_some (current_behind (Some transaction) rest) ≡ left
cut_left transaction [] left cut h = sym h
cut_left transaction (mark ∷ marks) left cut h =
    let here : step (Some transaction) mark ≡ begin_with true mark = ap (λ (b : Bool). if b then begin_with true mark else go_on transaction mark) cut in
    ap (λ (x : Turn × Option Transaction). is_some (current_behind x.1 marks)) here ∙ h

piece_left : (cut : Bool) (piece : Piece) (rest : List Mark) (left : Bool) → IsPiece piece rest → IsLeft (is_unfinished piece) rest left → IsLeft cut (marks_of piece ++ rest) left
piece_left cut (outside mark) rest left h l = ap (λ (x : Turn × Option Transaction). is_some (current_behind x.1 rest)) (ap (begin_as cut mark) h) ∙ left_behind rest left l
piece_left cut (alone mark) rest left h l =
    ap (λ (x : Turn × Option Transaction). is_some (current_behind x.1 rest)) (alone_at cut mark h.0 h.1 h.2) ∙ left_behind rest left l
piece_left cut (whole first others last) rest left h l =
    let b = h.1 in
    let start : Transaction = behind b.transaction first in
    let all : Transaction = behind_all start others in
    let end_is : step (Some all) last ≡ (turn false Last (refusal_at all last), None) =
    ends_at all last (subst (λ (t : Transaction). cuts t last ≡ false) b.is h.2) (subst (λ (t : Transaction). ends t last ≡ true) b.is h.3) in
    ap (λ (marks : List Mark). is_some (current_behind (begin_with cut first).1 marks)) (append_assoc others (last ∷ []) rest)
    ∙ ap (λ (x : Turn × Option Transaction). is_some (current_behind x.1 (others ++ last ∷ rest))) (begins_at cut first b.transaction b.begins b.stays)
    ∙ ap is_some (within_behind start others (last ∷ rest) b.goes_on)
    ∙ ap (λ (x : Turn × Option Transaction). is_some (current_behind x.1 rest)) end_is ∙ left_behind rest left l
piece_left cut (unfinished first others) rest left h l =
    let b = h.1 in
    let start : Transaction = behind b.transaction first in
    let all : Transaction = behind_all start others in
    ap (λ (x : Turn × Option Transaction). is_some (current_behind x.1 (others ++ rest))) (begins_at cut first b.transaction b.begins b.stays)
    ∙ ap is_some (within_behind start others rest b.goes_on)
    ∙ cut_left all rest left (subst (λ (t : Transaction). IsCutBy t rest) b.is h.2) l

pieces_left : (cut : Bool) (marks : List Mark) (pieces : List Piece) → ArePieces marks pieces → IsLeft cut marks (ends_unfinished cut pieces)
pieces_left cut marks [] h = subst (λ (ms : List Mark). IsLeft cut ms cut) (sym h) refl
pieces_left cut marks (piece ∷ pieces) h =
    subst (λ (ms : List Mark). IsLeft cut ms (ends_unfinished (is_unfinished piece) pieces)) (sym h.1)
    (piece_left cut piece h.0 (ends_unfinished (is_unfinished piece) pieces) h.2 (pieces_left (is_unfinished piece) h.0 pieces h.3))

pub all_left : (marks : List Mark) (pieces : List Piece) → ArePieces marks pieces → is_some (current_behind None marks) ≡ ends_unfinished false pieces
all_left marks pieces h = left_behind marks (ends_unfinished false pieces) (pieces_left false marks pieces h)
