-- A listing of a file that is verified by the checksums that `gives` says is one by those that `other` says, if both say the
-- same.
use Rattle.std.proofs.Common.{inl, inr, ℕ, ◌<◌, ◌^◌, Bool, true, false, List, [], ◌∷◌, ◌++◌, length, Option, Some, None, IfSome, Result, Ok, Err}
use Rattle.binlog_wire.specs.declared.error.Error.{Error}
use Rattle.binlog_wire.specs.declared.error.Error.TheVariants.{EndOfInput, InvalidFileHeader, Memory, Reader, Writer}
use Rattle.binlog_file.specs.Events.{EventView}
use Rattle.binlog_file.specs.State.{StreamState}
use Rattle.binlog_file.specs.Verifications.{HandlesVerified}
use Rattle.binlog_file.proofs.OtherChecksums.{handles_other, items_other, gives_other}
use Rattle.binlog_visits.specs.Places.{Place, first_place, LeavesVerified, AreFirst}
use Rattle.binlog_visits.specs.Lines.{ListsAll, ListsBefore, ListsFront, ListsBeforeLine, ListsItems, ListsFile, ListsVerified}
use Rattle.binlog_visits.proofs.Places.{place_at, first_along}

left_by : (gives other : List ℕ → ℕ → Type 0) → ((bytes : List ℕ) (checksum : ℕ) → gives bytes checksum → other bytes checksum)
    → (s : StreamState) (unread : Option (List ℕ)) (ended : Bool) (items : List (Result EventView Error)) → LeavesVerified gives (place_at s unread ended) items → LeavesVerified other (place_at s unread ended) items
left_by gives other to s None ended items left = absurd left
left_by gives other to s (Some rest) true items left = left
left_by gives other to s (Some rest) false items left = items_other gives other to s.fde rest items left

pub left_other : (gives other : List ℕ → ℕ → Type 0) → ((bytes : List ℕ) (checksum : ℕ) → gives bytes checksum → other bytes checksum)
    → (place : Place) (items : List (Result EventView Error)) → LeavesVerified gives place items → LeavesVerified other place items
left_other gives other to place items left = left_by gives other to place.state place.unread place.ended items left

module _ (gives other : List ℕ → ℕ → Type 0) (to : (bytes : List ℕ) (checksum : ℕ) → gives bytes checksum → other bytes checksum)
    (from : (bytes : List ℕ) (checksum : ℕ) → other bytes checksum → gives bytes checksum) (line : ℕ → Result EventView Error → List ℕ) (takes : Result EventView Error → Type 0) where
  first_other : (start place : Place) (items : List (Result EventView Error)) → AreFirst (LeavesVerified gives) start items place → AreFirst (LeavesVerified other) start items place
  first_other start place items first = first_along (LeavesVerified gives) (LeavesVerified other) (left_other gives other to) (left_other other gives from) start place items first

  all_other : (start : Place) (old : Option (List ℕ)) (has_errors : Bool) (new : Option (List ℕ)) → ListsAll (HandlesVerified gives) (LeavesVerified gives) line takes start old has_errors new
      → ListsAll (HandlesVerified other) (LeavesVerified other) line takes start old has_errors new
  all_other start old has_errors new lists =
      record { items = lists.items; are = left_other gives other to start lists.items lists.are; written = lists.written; errors = lists.errors }

  before_other : (error : Error) (start : Place) (old : Option (List ℕ)) (after : Place) (new : Option (List ℕ))
      → ListsBefore (HandlesVerified gives) (LeavesVerified gives) line takes error start old after new
      → ListsBefore (HandlesVerified other) (LeavesVerified other) line takes error start old after new
  before_other error start old after new lists = record {
    items = lists.items;
    place = lists.place;
    first = first_other start lists.place lists.items lists.first;
    written = lists.written;
    refused =
        gives_other (HandlesVerified gives) (HandlesVerified other) (handles_other gives other to) lists.place.state after.state lists.place.unread lists.place.ended (Some (Err error)) after.unread after.ended
        lists.refused;
    outside = lists.outside;
  }

  front_other : (start : Place) (old new : Option (List ℕ)) → ListsFront (HandlesVerified gives) (LeavesVerified gives) line takes start old new
      → ListsFront (HandlesVerified other) (LeavesVerified other) line takes start old new
  front_other start old new lists =
      record { items = lists.items; place = lists.place; first = first_other start lists.place lists.items lists.first; written = lists.written }

  before_line_other : (start : Place) (old : Option (List ℕ)) (after : Place) (new : Option (List ℕ))
      → ListsBeforeLine (HandlesVerified gives) (LeavesVerified gives) line takes start old after new
      → ListsBeforeLine (HandlesVerified other) (LeavesVerified other) line takes start old after new
  before_line_other start old after new lists = record {
    items = lists.items;
    item = lists.item;
    grows = lists.grows;
    first = first_other start after (lists.items ++ lists.item ∷ []) lists.first;
    written = lists.written;
  }

  items_listed_other : (start : Place) (old : Option (List ℕ)) (answer : Result Bool Error) (after : Place) (new : Option (List ℕ))
      → ListsItems (HandlesVerified gives) (LeavesVerified gives) line takes start old answer after new
      → ListsItems (HandlesVerified other) (LeavesVerified other) line takes start old answer after new
  items_listed_other start old (Ok has_errors) after new lists = (all_other start old has_errors new lists.0, lists.1)
  items_listed_other start old (Err Writer) after new lists = front_other start old new lists
  items_listed_other start old (Err Memory) after new lists =
      elim lists [
        | inl before ↦ inl (before_other Memory start old after new before)
        | inr before ↦ inr (before_line_other start old after new before)
      ]
  items_listed_other start old (Err error) after new lists = before_other error start old after new lists

  file_listed_other : (bytes : List ℕ) (old : Option (List ℕ)) (answer : Result Bool Error) (new : Option (List ℕ)) → ListsFile (HandlesVerified gives) (LeavesVerified gives) line takes bytes old answer new
      → ListsFile (HandlesVerified other) (LeavesVerified other) line takes bytes old answer new
  file_listed_other bytes old answer new lists =
      record { stream = lists.stream; file = lists.file; after = lists.after; lists = items_listed_other (first_place lists.stream) old answer lists.after new lists.lists }

  pub listed_other : (bytes : List ℕ) (old : Option (List ℕ)) (answer : Result Bool Error) (new : Option (List ℕ)) → ListsVerified gives line takes bytes old answer new
      → ListsVerified other line takes bytes old answer new
  listed_other bytes old (Err EndOfInput) new lists = lists
  listed_other bytes old (Err InvalidFileHeader) new lists = lists
  listed_other bytes old (Err Reader) new lists =
      elim lists [
        | inl file ↦ inl (file_listed_other bytes old (Err Reader) new file)
        | inr none ↦ inr none
      ]
  listed_other bytes old answer new lists = file_listed_other bytes old answer new lists

-- The same, where the reader tells its bytes.
pub known_listed_other : {gives : List ℕ → ℕ → Type 0} (other : List ℕ → ℕ → Type 0) (line : ℕ → Result EventView Error → List ℕ) (takes : Result EventView Error → Type 0) (remaining old : Option (List ℕ))
    (answer : Result Bool Error) (new : Option (List ℕ)) → IfSome remaining (λ bytes. length bytes < 2 ^ 64 → ListsVerified gives line takes bytes old answer new)
    → ((bytes : List ℕ) (checksum : ℕ) → gives bytes checksum → other bytes checksum) → ((bytes : List ℕ) (checksum : ℕ) → other bytes checksum → gives bytes checksum)
    → IfSome remaining (λ bytes. length bytes < 2 ^ 64 → ListsVerified other line takes bytes old answer new)
known_listed_other other line takes None old answer new lists to from = tt
known_listed_other {gives} other line takes (Some bytes) old answer new lists to from = λ small. listed_other gives other to from line takes bytes old answer new (lists small)
