-- The counts of a reader's and a writer's failures after the line of an item.
use Rattle.std.proofs.Common.{◌≡◌, ◌⊎◌, inl, inr, ℕ, Bool, false, List, [], ◌∷◌, get_or, Option, Some, None, Result, Ok, Err, IfErr, refl, ap, subst, ◌∙◌}
use Rattle.binlog_ends.specs.Counts.{FailureCount, borrowed_count, count_of}
use Rattle.binlog_wire.specs.declared.error.Error.{Error}
use Rattle.binlog_wire.specs.declared.error.Error.TheVariants.{Memory, Reader, ReaderInFrame, Writer}
use Rattle.binlog_wire.specs.Errors.{is_environment_error}
use Rattle.binlog_file.specs.EventReading.{CountsReader, reader_count}
use Rattle.binlog_file.specs.Writing.{CountsWriter, writer_count}
use Rattle.binlog_visits.specs.KnownCounts.{CountsKnown}
use Rattle.binlog_visits.specs.Lines.{listed}

-- Where only memory or the writer failed, the reader didn't.
pub line_counts : {T : Type 0} (result : Result T Error) (old new : FailureCount) → IfErr result (λ e. (e ≡ Memory) ⊎ (e ≡ Writer)) → new ≡ old → CountsReader result old new
line_counts (Ok x) old new kind same = same
line_counts (Err Reader) old new (inl is) same = absurd cc
line_counts (Err Reader) old new (inr is) same = absurd cc
line_counts (Err ReaderInFrame) old new (inl is) same = absurd cc
line_counts (Err ReaderInFrame) old new (inr is) same = absurd cc
line_counts (Err error) old new kind same = same

-- An item that gets a line is no failure of the reader.
pub item_counts : (error : Error) (old new : FailureCount) → is_environment_error error ≡ false → new ≡ reader_count error old → new ≡ old
item_counts Reader old new inside is = absurd cc
item_counts ReaderInFrame old new inside is = absurd cc
item_counts error old new inside is = is

-- An error that isn't the writer's leaves its count.
pub unwritten_counts : (T : Type 0) (error : Error) (count : FailureCount) → (error ≡ Writer → ⊥) → CountsWriter {A = T} (Err error) count count
unwritten_counts T Writer count other = absurd (other refl)
unwritten_counts T error count other = refl

-- The first name of a count, or 0.
abbrev first_name : FailureCount → ℕ
first_name count = get_or count.held 0 0

-- The names behind the first one.
names_behind : List ℕ → List ℕ
names_behind [] = []
names_behind (name ∷ names) = names

-- The count behind a borrow.
behind_borrow : FailureCount → FailureCount
behind_borrow count = record { failures = count.failures; held = names_behind count.held }

-- The count of a reader that was borrowed with the count `borrowed`, where the borrow ended with the count `ended`.
pub borrowed_counts : {T : Type 0} (result : Result T Error) (name other : ℕ) (old borrowed ended new : FailureCount) → borrowed ≡ old → new ≡ ended
    → CountsReader result (borrowed_count name borrowed) (borrowed_count other ended) → CountsReader result old new
unfolding behind_borrow names_behind
borrowed_counts (Ok x) name other old borrowed ended new begins ends counts = ends ∙ ap behind_borrow counts ∙ begins
borrowed_counts (Err error) name other old borrowed ended new begins ends counts = ends ∙ ap behind_borrow counts ∙ ap (reader_count error) begins

-- The name of a borrow stays.
pub borrowed_name : {T : Type 0} (result : Result T Error) (name other : ℕ) (borrowed ended : FailureCount) → CountsReader result (borrowed_count name borrowed) (borrowed_count other ended) → other ≡ name
borrowed_name (Ok x) name other borrowed ended counts = ap first_name counts
borrowed_name (Err error) name other borrowed ended counts = ap first_name counts

-- ---- counts that may not be known

-- A visitor that isn't called.
pub known_same : {A : Type 0} (x : A) (count : Option FailureCount) → CountsKnown (Ok x) count count
known_same x None = tt
known_same x (Some count) = refl

-- An error that isn't the writer's.
pub known_unwritten : (A : Type 0) (error : Error) (count : Option FailureCount) → (error ≡ Writer → ⊥) → CountsKnown {A = A} (Err error) count count
known_unwritten A error None other = tt
known_unwritten A error (Some count) other = ap (λ (c : FailureCount). Some c) (unwritten_counts A error count other)

-- The same for another value.
pub known_ok : {A B : Type 0} (x : A) (y : B) (old new : Option FailureCount) → CountsKnown (Ok x) old new → CountsKnown (Ok y) old new
known_ok x y None new known = tt
known_ok x y (Some old) new known = known

pub known_err : (A B : Type 0) (error : Error) (old new : Option FailureCount) → CountsKnown {A = A} (Err error) old new → CountsKnown {A = B} (Err error) old new
known_err A B error None new known = tt
known_err A B error (Some old) new known = known

-- One more call.
pub known_more : {A B : Type 0} (x : A) (answer : Result B Error) (old mid new : Option FailureCount) → CountsKnown (Ok x) old mid → CountsKnown answer mid new → CountsKnown answer old new
known_more x answer None mid new kept next = tt
known_more x answer (Some old) mid new kept next = subst (λ (m : Option FailureCount). CountsKnown answer m new) kept next

-- ---- a writer that was borrowed

-- The count behind the borrow, of a known count.
behind_known : Option FailureCount → FailureCount
behind_known None = count_of 0
behind_known (Some count) = behind_borrow count

-- The name of the borrow, of a known count.
known_name : Option FailureCount → ℕ
known_name None = 0
known_name (Some count) = first_name count

-- The count of a writer that was borrowed with the count `borrowed`, where the borrow ended with the count `ended`.
pub borrowed_written : {T : Type 0} (result : Result T Error) (name other : ℕ) (old borrowed ended new : FailureCount) → borrowed ≡ old → new ≡ ended
    → CountsKnown result (Some (borrowed_count name borrowed)) (Some (borrowed_count other ended)) → CountsWriter result old new
unfolding behind_known behind_borrow names_behind
borrowed_written (Ok x) name other old borrowed ended new begins ends counts = ends ∙ ap behind_known counts ∙ begins
borrowed_written (Err error) name other old borrowed ended new begins ends counts = ends ∙ ap behind_known counts ∙ ap (writer_count error) begins

-- The name of its borrow stays.
pub borrowed_writer_name : {T : Type 0} (result : Result T Error) (name other : ℕ) (borrowed ended : FailureCount)
    → CountsKnown result (Some (borrowed_count name borrowed)) (Some (borrowed_count other ended)) → other ≡ name
unfolding known_name
borrowed_writer_name (Ok x) name other borrowed ended counts = ap known_name counts
borrowed_writer_name (Err error) name other borrowed ended counts = ap known_name counts

-- ---- the result of a listing

pub listed_reader : (answer : Result (Option ℕ) Error) (has_errors : Bool) (old new : FailureCount) → CountsReader answer old new → CountsReader (listed answer has_errors) old new
listed_reader (Ok len) has_errors old new counts = counts
listed_reader (Err error) has_errors old new counts = counts

pub listed_writer : (answer : Result (Option ℕ) Error) (has_errors : Bool) (old new : FailureCount) → CountsWriter answer old new → CountsWriter (listed answer has_errors) old new
listed_writer (Ok len) has_errors old new counts = counts
listed_writer (Err error) has_errors old new counts = counts
