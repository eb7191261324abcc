-- A visit of a file that is verified by the checksums that `gives` says is one by those that `other` says, if both say the
-- same.
use Rattle.std.proofs.Common.{inl, inr, ℕ, ◌<◌, ◌^◌, List, [], ◌∷◌, ◌++◌, length, Option, Some, None, IfSome, Result, Ok, Err}
use Rattle.binlog_wire.specs.declared.error.Error.{Error}
use Rattle.binlog_file.specs.Events.{EventView}
use Rattle.binlog_file.specs.Verifications.{HandlesVerified}
use Rattle.binlog_file.proofs.OtherChecksums.{handles_other, gives_other}
use Rattle.binlog_visits.specs.Places.{Place, first_place, LeavesVerified, AreFirst}
use Rattle.binlog_visits.proofs.Places.{first_along}
use Rattle.binlog_visits.proofs.OtherListings.{left_other}
use Rattle.binlog_visits.specs.Visits.{VisitRelation, RefusalRelation, VisitsAll, VisitsBefore, VisitsUntil, VisitsItems, VisitsFile, VisitsVerifiedLog}

module _ {T : Type 0} (visits : VisitRelation T) (refuses : RefusalRelation T)
    (gives other : List ℕ → ℕ → Type 0) (to : (bytes : List ℕ) (checksum : ℕ) → gives bytes checksum → other bytes checksum)
    (from : (bytes : List ℕ) (checksum : ℕ) → other bytes checksum → gives bytes checksum) where
  first_other : (start place : Place) (items : List (Result EventView Error)) → AreFirst (LeavesVerified gives) start items place → AreFirst (LeavesVerified other) start items place
  first_other start place items first = first_along (LeavesVerified gives) (LeavesVerified other) (left_other gives other to) (left_other other gives from) start place items first

  all_other : (tail_len : Option ℕ) (start : Place) (old new : T) → VisitsAll visits refuses (HandlesVerified gives) (LeavesVerified gives) tail_len start old new
      → VisitsAll visits refuses (HandlesVerified other) (LeavesVerified other) tail_len start old new
  all_other tail_len start old new all = record { items = all.items; are = left_other gives other to start all.items all.are; visited = all.visited; tail = all.tail }

  before_other : (error : Error) (start : Place) (old new : T) → VisitsBefore visits refuses (HandlesVerified gives) (LeavesVerified gives) error start old new
      → VisitsBefore visits refuses (HandlesVerified other) (LeavesVerified other) error start old new
  before_other error start old new some = record {
    items = some.items;
    place = some.place;
    first = first_other start some.place some.items some.first;
    visited = some.visited;
    after = some.after;
    refused =
        gives_other (HandlesVerified gives) (HandlesVerified other) (handles_other gives other to) some.place.state some.after.state some.place.unread some.place.ended (Some (Err error)) some.after.unread some.after.ended
        some.refused;
    outside = some.outside;
  }

  until_other : (error : Error) (start : Place) (old new : T) → VisitsUntil visits refuses (HandlesVerified gives) (LeavesVerified gives) error start old new
      → VisitsUntil visits refuses (HandlesVerified other) (LeavesVerified other) error start old new
  until_other error start old new some = record {
    items = some.items;
    item = some.item;
    place = some.place;
    first = first_other start some.place (some.items ++ some.item ∷ []) some.first;
    mid = some.mid;
    visited = some.visited;
    refused = some.refused;
  }

  items_visited_other : (start : Place) (old : T) (answer : Result (Option ℕ) Error) (new : T) → VisitsItems visits refuses (HandlesVerified gives) (LeavesVerified gives) start old answer new
      → VisitsItems visits refuses (HandlesVerified other) (LeavesVerified other) start old answer new
  items_visited_other start old (Ok tail_len) new all = all_other tail_len start old new all
  items_visited_other start old (Err error) new (inl some) = inl (before_other error start old new some)
  items_visited_other start old (Err error) new (inr some) = inr (until_other error start old new some)

  file_visited_other : (bytes : List ℕ) (old : T) (answer : Result (Option ℕ) Error) (new : T) → VisitsFile visits refuses (HandlesVerified gives) (LeavesVerified gives) bytes old answer new
      → VisitsFile visits refuses (HandlesVerified other) (LeavesVerified other) bytes old answer new
  file_visited_other bytes old answer new file =
      record { stream = file.stream; file = file.file; visited = items_visited_other (first_place file.stream) old answer new file.visited }

  pub visited_other : (bytes : List ℕ) (old : T) (answer : Result (Option ℕ) Error) (new : T) → VisitsVerifiedLog gives visits refuses bytes old answer new
      → VisitsVerifiedLog other visits refuses bytes old answer new
  visited_other bytes old (Ok tail_len) new file = file_visited_other bytes old (Ok tail_len) new file
  visited_other bytes old (Err error) new (inl file) = inl (file_visited_other bytes old (Err error) new file)
  visited_other bytes old (Err error) new (inr none) = inr none

-- The same, where the reader tells its bytes.
pub known_visited_other : {T : Type 0} (visits : VisitRelation T) (refuses : RefusalRelation T)
    {gives : List ℕ → ℕ → Type 0} (other : List ℕ → ℕ → Type 0) (remaining : Option (List ℕ)) (old : T) (answer : Result (Option ℕ) Error) (new : T)
    → IfSome remaining (λ bytes. length bytes < 2 ^ 64 → VisitsVerifiedLog gives visits refuses bytes old answer new)
    → ((bytes : List ℕ) (checksum : ℕ) → gives bytes checksum → other bytes checksum) → ((bytes : List ℕ) (checksum : ℕ) → other bytes checksum → gives bytes checksum)
    → IfSome remaining (λ bytes. length bytes < 2 ^ 64 → VisitsVerifiedLog other visits refuses bytes old answer new)
known_visited_other visits refuses other None old answer new visited to from = tt
known_visited_other visits refuses {gives} other (Some bytes) old answer new visited to from = λ small. visited_other visits refuses gives other to from bytes old answer new (visited small)
