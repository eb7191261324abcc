-- What the copy of a log promises: where its checksums are verified by CRC-32, and where none is.
use Rattle.std.proofs.Common.{◌≡◌, inl, inr, ◌⊎◌, ℕ, ◌^◌, ◌<◌, Bool, true, false, List, [], ◌∷◌, ◌++◌, length, map, All, Option, Some, None, IfSome, Result, Ok, Err, refl, sym, subst, ◌∙◌, append_assoc}
use Rattle.std.proofs.lemmas.List.Elements.{All-nil, All-cons}
use Rattle.std.specs.Io.KnownBytes.{prepend_known}
use Rattle.binlog_wire.specs.declared.error.Error.{Error}
use Rattle.binlog_wire.specs.declared.error.Error.TheVariants.{EndOfInput, InvalidFileHeader, Reader}
use Rattle.binlog_consts.specs.declared.version.BinlogVersion.TheVariants.{Version4}
use Rattle.binlog_file.specs.FileHeader.{file_header, ReadsHeader}
use Rattle.binlog_file.specs.Framing.{Known}
use Rattle.binlog_file.specs.Events.{EventView}
use Rattle.binlog_file.specs.State.{StreamState, Handles, first_state}
use Rattle.binlog_file.specs.Streams.{HasGiven}
use Rattle.binlog_file.specs.Verifications.{Handling, HandlesVerified}
use Rattle.binlog_file.specs.VerifiedFiles.{IsNoMismatch, GivesOne, GivesAllVerified, AreVerifiedItems}
use Rattle.binlog_file.specs.WholeFiles.{IsCopied}
use Rattle.binlog_file.proofs.Streams as streams
use Rattle.binlog_file.proofs.Iterations as iterations
use Rattle.binlog_file.proofs.Iterating.{some_left, next_is_first}
use Rattle.binlog_file.proofs.WholeFiles.{given_and_left, events_inside, copied}
use Rattle.binlog_file.proofs.VerifiedItems.{unverified, yields_verified}
use Rattle.binlog_file.proofs.VerifiedFiles.{all_verified, verified_copied}
use Rattle.binlog_file.proofs.OtherChecksums.{gives_other}
use Rattle.binlog_visits.proofs.Places.{place_at, verified_from}
use Rattle.crc32_ieee.specs.Checksums.{IsCrc32}
use Rattle.examples.specs.Copying.{IsByCrc32, IsNotCopied, Copies, IsWholeBy, StopsBy, CopiesBy, IsVerifiedCopy, StopsAtVerified, CopiesVerified, StopsAtItem, WritesBack}

-- the state of a file that was just opened
abbrev first : StreamState
first = first_state Version4

-- ---- a log whose checksums are verified

-- what a frame does
abbrev H : Handling
H = HandlesVerified IsCrc32

module _ (handles : Handling) (by : IsByCrc32 handles) where
  given_by : (s t : StreamState) (old rest : List ℕ) (was is : Bool) (items : List (Result EventView Error)) → HasGiven handles s t old was items rest is → HasGiven H s t old was items rest is
  given_by s t old rest was is [] given = given
  given_by s t old rest was is (item ∷ items) given = (
    given.0,
    given.1,
    given.2,
    gives_other handles H by s given.0 (Some old) was (Some item) (Some given.1) given.2 given.3,
    given_by given.0 t given.1 rest given.2 is items given.4,
  )

  whole_by : (bytes : List ℕ) (old new : Option (List ℕ)) → IsWholeBy handles bytes old new → IsWholeBy H bytes old new
  whole_by bytes old new w = record {
    stream = w.stream;
    file = w.file;
    events = w.events;
    state = w.state;
    rest = w.rest;
    was = w.was;
    given = given_by first w.state w.stream w.rest false w.was (map Ok w.events) w.given;
    after = w.after;
    left = w.left;
    ended = w.ended;
    none = gives_other handles H by w.state w.after (Some w.rest) w.was None (Some w.left) w.ended w.none;
    writes = w.writes;
  }

  stops_by : (bytes : List ℕ) (error : Error) → StopsBy handles bytes error → StopsBy H bytes error
  stops_by bytes error w = record {
    stream = w.stream;
    file = w.file;
    events = w.events;
    state = w.state;
    rest = w.rest;
    was = w.was;
    given = given_by first w.state w.stream w.rest false w.was (map Ok w.events) w.given;
    item = w.item;
    after = w.after;
    left = w.left;
    ended = w.ended;
    gives = gives_other handles H by w.state w.after (Some w.rest) w.was (Some w.item) (Some w.left) w.ended w.gives;
    inside = w.inside;
    refused = w.refused;
  }

one_crc32 : GivesOne IsCrc32
one_crc32 bytes x y is also = is ∙ sym also

-- No event is a mismatch.
no_mismatches : (events : List EventView) → All IsNoMismatch (map Ok events)
no_mismatches [] = All-nil IsNoMismatch
no_mismatches (event ∷ events) = All-cons IsNoMismatch (Ok event) (map Ok events) tt (no_mismatches events)

verified_whole : (bytes : List ℕ) (old new : Option (List ℕ)) → IsWholeBy H bytes old new → IsVerifiedCopy bytes old new
verified_whole bytes old new w =
    let given : GivesAllVerified IsCrc32 first w.after w.stream (map Ok w.events) w.left w.ended = record { state = w.state; rest = w.rest; was = w.was; given = w.given; none = w.none } in
    let items = (all_verified IsCrc32 first w.after w.stream w.left (map Ok w.events) w.ended given (events_inside w.events)).are in
    let back = (verified_copied IsCrc32 Version4 w.after bytes w.stream w.left w.ended w.events old new w.file given one_crc32 w.writes).1 in
    record {
      stream = w.stream;
      file = w.file;
      events = w.events;
      verified = items;
      are = unverified IsCrc32 first.fde w.stream (map Ok w.events) items (no_mismatches w.events);
      written = back.0;
      tail = back.1;
      appended = back.2;
      whole = back.3;
      none = back.4;
    }

verified_stops : (bytes : List ℕ) (error : Error) → StopsBy H bytes error → StopsAtVerified bytes error
verified_stops bytes error w = record {
  stream = w.stream;
  file = w.file;
  events = w.events;
  item = w.item;
  place = place_at w.after (Some w.left) w.ended;
  first = record {
    known = refl;
    before = λ others are.
        let behind = verified_from IsCrc32 (place_at w.after (Some w.left) w.ended) others are in
        let next = (streams.next_is_first H w.state w.after w.rest w.left w.was w.ended w.item w.gives w.inside).0 behind.0 others behind.1 in
        subst (AreVerifiedItems IsCrc32 first.fde w.stream) (sym (append_assoc (map Ok w.events) (w.item ∷ []) others))
        (yields_verified IsCrc32 first behind.0 w.stream (map Ok w.events ++ w.item ∷ others)
        (iterations.given_and_left H first w.state behind.0 w.stream w.rest false w.was (map Ok w.events) (w.item ∷ others) w.given (events_inside w.events) next));
  };
  refused = w.refused;
}

-- ---- a log whose checksums aren't verified

plain_whole : (bytes : List ℕ) (old new : Option (List ℕ)) → IsWholeBy Handles bytes old new → IsCopied IsCrc32 Version4 bytes old new
plain_whole bytes old new w =
    copied IsCrc32 Version4 w.after bytes w.stream w.left w.ended w.events old new w.file
    (record { state = w.state; rest = w.rest; was = w.was; given = w.given; none = w.none }) w.writes

plain_stops : (bytes : List ℕ) (error : Error) → StopsBy Handles bytes error → StopsAtItem bytes error
plain_stops bytes error w =
    let more = some_left w.after.fde w.left w.ended in
    let behind = (next_is_first w.state w.after w.rest w.left w.was w.ended w.item w.gives w.inside).0 more.0 more.1 in
    record {
      stream = w.stream;
      file = w.file;
      events = w.events;
      item = w.item;
      others = more.0;
      are = given_and_left first w.state w.stream w.rest false w.was (map Ok w.events) (w.item ∷ more.0) w.given (events_inside w.events) behind;
      refused = w.refused;
    }

-- ---- a whole file

module _ (IsWhole Other : List ℕ → Option (List ℕ) → Option (List ℕ) → Type 0) (Stops Refuses : List ℕ → Error → Type 0) (whole : (bytes : List ℕ) (old new : Option (List ℕ)) → IsWhole bytes old new → Other bytes old new) (stops : (bytes : List ℕ) (error : Error) → Stops bytes error → Refuses bytes error) where
  not_as : (bytes : List ℕ) (error : Error) → IsNotCopied Stops bytes error → IsNotCopied Refuses bytes error
  not_as bytes error (inl header) = inl header
  not_as bytes error (inr (inl stopped)) = inr (inl (stops bytes error stopped))
  not_as bytes error (inr (inr outside)) = inr (inr outside)

  copies_as : (bytes : List ℕ) (old : Option (List ℕ)) (answer : Result (Unit {0}) Error) (new : Option (List ℕ)) → Copies IsWhole Stops bytes old answer new → Copies Other Refuses bytes old answer new
  copies_as bytes old (Ok done) new copies = whole bytes old new copies
  copies_as bytes old (Err error) new copies = not_as bytes error copies

  file_as : {X : Type 0} (known unread : Option (List ℕ)) (old new : Option (List ℕ)) (answer : Result (Unit {0}) Error) (file : X) → Known (ReadsHeader (Ok file)) known unread
      → IfSome (prepend_known file_header unread) (λ bytes. length bytes < 2 ^ 64 → Copies IsWhole Stops bytes old answer new)
      → IfSome known (λ bytes. length bytes < 2 ^ 64 → Copies Other Refuses bytes old answer new)
  file_as None unread old new answer file read copies = tt
  file_as (Some bytes) None old new answer file read copies = absurd read
  file_as (Some bytes) (Some rest) old new answer file read copies = λ few.
      subst (λ (b : List ℕ). Copies Other Refuses b old answer new) (sym read)
      (copies_as (file_header ++ rest) old answer new (copies (subst (λ (b : List ℕ). length b < 2 ^ 64) read few)))

-- The copy of a file whose checksums are verified by CRC-32.
pub copied_verified : {X : Type 0} (handles : Handling) (known unread : Option (List ℕ)) (old new : Option (List ℕ)) (answer : Result (Unit {0}) Error) (file : X) → Known (ReadsHeader (Ok file)) known unread
    → IfSome (prepend_known file_header unread) (λ bytes. length bytes < 2 ^ 64 → CopiesBy handles bytes old answer new) → IsByCrc32 handles
    → IfSome known (λ bytes. length bytes < 2 ^ 64 → CopiesVerified bytes old answer new)
copied_verified handles known unread old new answer file read copies by =
    file_as (IsWholeBy handles) IsVerifiedCopy (StopsBy handles) StopsAtVerified (λ bytes was is w. verified_whole bytes was is (whole_by handles by bytes was is w))
    (λ bytes error w. verified_stops bytes error (stops_by handles by bytes error w)) known unread old new answer file read copies

-- The copy of a file whose checksums aren't verified.
pub copied_plain : {X : Type 0} (known unread : Option (List ℕ)) (old new : Option (List ℕ)) (answer : Result (Unit {0}) Error) (file : X) → Known (ReadsHeader (Ok file)) known unread
    → IfSome (prepend_known file_header unread) (λ bytes. length bytes < 2 ^ 64 → CopiesBy Handles bytes old answer new)
    → IfSome known (λ bytes. length bytes < 2 ^ 64 → WritesBack bytes old answer new)
copied_plain known unread old new answer file read copies =
    file_as (IsWholeBy Handles) (IsCopied IsCrc32 Version4) (StopsBy Handles) StopsAtItem plain_whole plain_stops known unread old new answer file read copies

-- A file that isn't opened.
pub not_opened : (Stops : List ℕ → Error → Type 0) (X : Type 0) (known rest : Option (List ℕ)) (error : Error) → Known (ReadsHeader {X = X} (Err error)) known rest
    → IfSome known (λ bytes. length bytes < 2 ^ 64 → IsNotCopied Stops bytes error)
not_opened Stops X None rest error read = tt
not_opened Stops X (Some bytes) None error read = absurd read
not_opened Stops X (Some bytes) (Some rest) EndOfInput read = λ few. inl (rest, read)
not_opened Stops X (Some bytes) (Some rest) InvalidFileHeader read = λ few. inl (rest, read)
not_opened Stops X (Some bytes) (Some rest) Reader read = λ few. inl (rest, read)
not_opened Stops X (Some bytes) (Some rest) error read = absurd read
