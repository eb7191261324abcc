-- Laws of refusals of columns, one column at a time.
use Rattle.std.proofs.Common.{◌≡◌, ℕ, suc, ◌+◌, ◌<◌, List, [], ◌∷◌, length, get_or, drop, Option, Some, None, Ok, Err, refl, ap, add-one, ◌∙◌}
use Rattle.binlog_wire.specs.declared.error.Error.{Error}
use Rattle.binlog_wire.specs.declared.error.Error.TheVariants as errors
use Rattle.binlog_wire.specs.Reading.{Refusal, Read, ends, invalid, other_type, Refuses}
use Rattle.binlog_variable_fields.specs.Laws.RepeatedLoops.{drop_item}
use Rattle.binlog_columns.specs.Metadata.{Typed, column}
use Rattle.binlog_columns.specs.Kinds.{kind_as, kind_of}
use Rattle.binlog_columns.specs.Refusals.{refused_or, refusal, given_and, columns_in}
use Rattle.binlog_columns.specs.declared.column_error.ColumnError.{ColumnError}

-- The error of a refusal.
abbrev pub error_as : Refusal → Error
error_as ends = errors.EndOfBody
error_as (invalid why) = errors.InvalidData why
error_as (other_type number) = errors.WrongEventType number

-- An error of reading that takes no memory is that of a refusal.
pub refusal_of : {V : Type 0} (e : Error) (read : Read V) → Refuses ⊥ e read → (d : Refusal) × (read ≡ Err d) × (e ≡ error_as d)
refusal_of errors.EndOfBody read h = (ends, h, refl)
refusal_of (errors.InvalidData why) read h = (invalid why, h, refl)
refusal_of (errors.WrongEventType number) read h = (other_type number, h, refl)
refusal_of errors.Memory read h = absurd h
refusal_of errors.EndOfInput read h = absurd h
refusal_of errors.InvalidFileHeader read h = absurd h
refusal_of (errors.EventSizeTooSmall size) read h = absurd h
refusal_of errors.TooShortForChecksum read h = absurd h
refusal_of (errors.RemainingBytes count) read h = absurd h
refusal_of (errors.UnknownChecksumAlg algorithm) read h = absurd h
refusal_of errors.EventTooLong read h = absurd h
refusal_of (errors.Unwritable field) read h = absurd h
refusal_of errors.FrameMemory read h = absurd h
refusal_of errors.Reader read h = absurd h
refusal_of errors.ReaderInFrame read h = absurd h
refusal_of errors.Writer read h = absurd h
refusal_of (errors.ChecksumMismatch stored computed) read h = absurd h
refusal_of (errors.BadGno number) read h = absurd h

kind_of_error : (d : Refusal) → kind_of (error_as d) ≡ kind_as d
kind_of_error ends = refl
kind_of_error (invalid why) = refl
kind_of_error (other_type number) = refl

-- If the kind of each refusal's error is that of the refusal, the error of a refused reading has the kind of its refusal.
pub same_kind : {V K : Type 0} (kind : Error → K) (kind_of_refusal : Refusal → K) → ((d : Refusal) → kind (error_as d) ≡ kind_of_refusal d)
    → (e : Error) (read : Read V) → Refuses ⊥ e read → (d : Refusal) × (read ≡ Err d) × (kind e ≡ kind_of_refusal d)
same_kind kind kind_of_refusal same e read h =
    let r = refusal_of e read h in
    (r.0, r.1, ap kind r.2 ∙ same r.0)

-- One more column is read.
pub refusal_step : (types : List ℕ) (i number : ℕ) (m : List ℕ) (typed : Typed) (rest : List ℕ) → i < length types → number ≡ get_or types i 0
    → (column number).reads m ≡ Ok (typed, rest) → refusal i (drop i types) m ≡ refusal (i + 1) (drop (i + 1) types) rest
refusal_step types i number m typed rest less is e = rw (drop_item types i number 0 less is, e, add-one i) refl

-- A column is refused.
pub refusal_here : (types : List ℕ) (i number : ℕ) (m : List ℕ) (e : Error) → i < length types → number ≡ get_or types i 0
    → Refuses ⊥ e ((column number).reads m) → refusal i (drop i types) m ≡ Some (record { kind = kind_of e; column = i })
refusal_here types i number m e less is h =
    let d = same_kind kind_of kind_as kind_of_error e ((column number).reads m) h in
    rw (drop_item types i number 0 less is, d.1, d.2) refl

-- If no column is refused, none is with another index of the first column.
none_by : (i j : ℕ) (read : Read Typed) (f g : List ℕ → Option ColumnError) → ((m : List ℕ) → f m ≡ None → g m ≡ None) → refused_or i read f ≡ None → refused_or j read g ≡ None
none_by i j (Ok x) f g ih h = ih x.1 h
none_by i j (Err d) f g ih h = absurd cc

pub none_anywhere : (i j : ℕ) (types m : List ℕ) → refusal i types m ≡ None → refusal j types m ≡ None
none_anywhere i j [] [] h = refl
none_anywhere i j [] (byte ∷ m) h = absurd cc
none_anywhere i j (number ∷ types) m h = none_by i j ((column number).reads m) (refusal (suc i) types) (refusal (suc j) types) (λ m. none_anywhere (suc i) (suc j) types m) h

some_by : (i : ℕ) (read : Read Typed) (f : List ℕ → Option ColumnError) → refused_or i read f ≡ None → (x : Typed × List ℕ) × (read ≡ Ok x) × (f x.1 ≡ None)
some_by i (Ok x) f h = (x, refl, h)
some_by i (Err d) f h = absurd cc

-- If no column is refused, the first is read.
pub first_read : (i number : ℕ) (types m : List ℕ) → refusal i (number ∷ types) m ≡ None
    → (x : Typed × List ℕ) × ((column number).reads m ≡ Ok x) × (refusal (suc i) types x.1 ≡ None)
first_read i number types m h = some_by i ((column number).reads m) (refusal (suc i) types) h

-- If no column is refused, none of those after the first is.
pub tail_whole : (s types m rest : List ℕ) (number : ℕ) (typed : Typed) → refusal 0 s m ≡ None → s ≡ number ∷ types → (column number).reads m ≡ Ok (typed, rest)
    → refusal 0 types rest ≡ None
tail_whole s types m rest number typed h split read =
    let whole : refusal 0 (number ∷ types) m ≡ None = rw split at h in
    let first = first_read 0 number types m whole in
    let pairs : ◌≡◌ {A = Typed × List ℕ} (typed, rest) first.0 = cc in
    let left : rest ≡ first.0.1 = ap (λ (p : Typed × List ℕ). p.1) pairs in
    none_anywhere 1 0 types rest (rw left first.2)

count_by : (i number : ℕ) (read : Read Typed) (types : List ℕ) → ((m : List ℕ) → refusal (suc i) types m ≡ None → length (columns_in types m) ≡ length types)
    → refused_or i read (refusal (suc i) types) ≡ None → length (given_and read (columns_in types)) ≡ length (number ∷ types)
count_by i number (Ok x) types ih h = ap (λ (n : ℕ). suc n) (ih x.1 h)
count_by i number (Err d) types ih h = absurd cc

-- Where no column is refused, there are as many columns as types.
pub columns_count : (i : ℕ) (types m : List ℕ) → refusal i types m ≡ None → length (columns_in types m) ≡ length types
columns_count i [] [] h = refl
columns_count i [] (byte ∷ m) h = absurd cc
columns_count i (number ∷ types) m h = count_by i number ((column number).reads m) types (λ m. columns_count (suc i) types m) h
