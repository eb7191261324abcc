-- What a copy has written so far, and its next steps, whatever a frame does.
use Rattle.std.proofs.Common.{◌≡◌, inl, inr, ◌⊎◌, ℕ, ◌+◌, ◌-◌, ◌^◌, ◌<◌, ◌≤◌, Bool, true, false, List, [], ◌∷◌, ◌++◌, length, map, Option, Some, None, IfSome, Result, Ok, Err, refl, sym, ap, subst, ◌∙◌, arith, length-append}
use Rattle.std.specs.Option.{MatchOption}
use Rattle.std.specs.Io.KnownBytes.{Appends, prepend_known}
use Rattle.binlog_wire.specs.declared.error.Error.{Error}
use Rattle.binlog_wire.specs.declared.error.Error.TheVariants.{Memory, Writer}
use Rattle.binlog_file.specs.Errors.{is_environment_error}
use Rattle.binlog_consts.specs.declared.version.BinlogVersion.TheVariants.{Version4}
use Rattle.binlog_file.specs.FileHeader.{file_header}
use Rattle.binlog_file.specs.Framing.{Known}
use Rattle.binlog_file.specs.Events.{EventView}
use Rattle.binlog_file.specs.State.{StreamState, first_state}
use Rattle.binlog_file.specs.Streams.{Gives, HasGiven}
use Rattle.binlog_file.specs.Verifications.{Handling}
use Rattle.binlog_file.specs.Checksums.{WritesEvent, write_refusal}
use Rattle.binlog_file.specs.WrittenBack.{WritesLog}
use Rattle.binlog_file.specs.WholeFiles.{IsInside}
use Rattle.binlog_file.proofs.Iterations as iterations
use Rattle.binlog_file.proofs.WritingEvents.{writes_more}
use Rattle.binlog_file.proofs.WholeFiles.{events_inside}
use Rattle.binlog_visits.specs.Places.{Place, GivesFrom}
use Rattle.binlog_visits.proofs.Places.{place_at}
use Rattle.crc32_ieee.specs.Checksums.{IsCrc32}
use Rattle.examples.specs.Copying.{IsRefusedAs, StopsBy, IsNotCopied, CopiesBy, CopiesItem, CopiesNext}

-- ---- one event

refused_as : (why : Option Error) (error : Error) → MatchOption why ((error ≡ Memory) ⊎ (error ≡ Writer)) (λ w. ◌≡◌ {A = Result (Unit {0}) Error} (Err error) (Err w))
    → (why ≡ Some error) ⊎ (is_environment_error error ≡ true)
refused_as None error (inl memory) = inr (ap is_environment_error memory)
refused_as None error (inr writer) = inr (ap is_environment_error writer)
refused_as (Some why) error same = inl cc

-- An event that `write` refuses.
pub event_refused : (handles : Handling) (before after : Place) (old new : Option (List ℕ)) (event : EventView) (error : Error)
    → GivesFrom handles before (Some (Ok event)) after
    → MatchOption (write_refusal event.fde.footer (length event.frame)) ((error ≡ Memory) ⊎ (error ≡ Writer)) (λ w. ◌≡◌ {A = Result (Unit {0}) Error} (Err error) (Err w))
    → CopiesNext handles before old (Err error) after new
event_refused handles before after old new event error gives refused = record { item = Some (Ok event); gives = gives; writes = refused_as _ error refused }

-- The step of a file whose verification stays what it is.
pub next_of_same : {V : Type 0} (of : V → Handling) (v w : V) (before after : Place) (old new : Option (List ℕ)) (answer : Result Bool Error)
    → w ≡ v → CopiesNext (of w) before old answer after new → CopiesNext (of v) before old answer after new
next_of_same of v w before after old new answer same next = subst (λ u. CopiesNext (of u) before old answer after new) same next

module _ (H : Handling) where
  -- One more item.
  has_given_more : (s t u : StreamState) (old rest left : List ℕ) (was is ended : Bool) (items : List (Result EventView Error)) (item : Result EventView Error)
      → HasGiven H s t old was items rest is → Gives H t u (Some rest) is (Some item) (Some left) ended → HasGiven H s u old was (items ++ item ∷ []) left ended
  has_given_more s t u old rest left was is ended [] item given gives =
      let first : Gives H s u (Some old) was (Some item) (Some left) ended =
      subst (λ (m : StreamState). Gives H m u (Some old) was (Some item) (Some left) ended) given.0
      (subst (λ (r : List ℕ). Gives H t u (Some r) was (Some item) (Some left) ended) given.1
      (subst (λ (b : Bool). Gives H t u (Some rest) b (Some item) (Some left) ended) given.2 gives)) in
      (u, left, ended, first, (refl, refl, refl))
  has_given_more s t u old rest left was is ended (first ∷ items) item given gives =
      (given.0, given.1, given.2, given.3, has_given_more given.0 t u given.1 rest left given.2 is ended items item given.4 gives)

  -- The state of a file that was just opened.
  abbrev first : StreamState
  first = first_state Version4

  -- The events that the file gave since it was opened are written. Its state is `s`, and `rest` is unread.
  pub record IsWritten (bytes : List ℕ) (s : StreamState) (rest : List ℕ) (ended : Bool) (old new : Option (List ℕ)) (index : ℕ) : Type 0 where
    pub stream : List ℕ
    pub file : bytes ≡ file_header ++ stream
    pub events : List EventView
    pub given : HasGiven H first s stream false (map Ok events) rest ended
    pub writes : WritesLog IsCrc32 events old new
    pub count : length events ≡ index

  -- The same for a reader whose bytes may not be known: the file stands at `place`.
  abbrev pub IsWrittenSoFar : (known : Option (List ℕ)) (place : Place) (old new : Option (List ℕ)) (index : ℕ) → Type 0
  IsWrittenSoFar known place old new index = Known (λ bytes rest. IsWritten bytes place.state rest place.ended old new index) known place.unread

  -- The promise of a copy for a result, and that for an error.
  abbrev pub Promises : Option (List ℕ) → Option (List ℕ) → Result (Unit {0}) Error → Option (List ℕ) → Type 0
  Promises known old answer new = IfSome known (λ bytes. length bytes < 2 ^ 64 → CopiesBy H bytes old answer new)

  abbrev pub Refuses : Option (List ℕ) → Error → Type 0
  Refuses known error = IfSome known (λ bytes. length bytes < 2 ^ 64 → IsNotCopied (StopsBy H) bytes error)

  -- After the file header.
  none_by : (unread : Option (List ℕ)) (s : StreamState) (ended : Bool) (old new : Option (List ℕ)) → s ≡ first → ended ≡ false → Appends old new file_header
      → IsWrittenSoFar (prepend_known file_header unread) (place_at s unread ended) old new 0
  none_by None s ended old new starts goes header = tt
  none_by (Some rest) s ended old new starts goes header =
      record { stream = rest; file = refl; events = []; given = (starts, refl, goes); writes = (new, header, refl); count = refl }

  pub written_none : (place : Place) (old new : Option (List ℕ)) → place.state ≡ first → place.ended ≡ false → Appends old new file_header
      → IsWrittenSoFar (prepend_known file_header place.unread) place old new 0
  written_none place old new starts goes header = none_by place.unread place.state place.ended old new starts goes header

  -- Items that are events.
  abbrev oks : List EventView → List (Result EventView Error)
  oks events = map Ok events

  oks-more : (events : List EventView) (event : EventView) → oks events ++ Ok event ∷ [] ≡ oks (events ++ event ∷ [])
  oks-more [] event = refl
  oks-more (x ∷ events) event = ap (λ (l : List (Result EventView Error)). Ok x ∷ l) (oks-more events event)

  length-oks : (events : List EventView) → length (oks events) ≡ length events
  length-oks [] = refl
  length-oks (x ∷ events) = omega (arith, length-oks events)

  -- One more event.
  written_event : (bytes : List ℕ) (s then : StreamState) (rest left : List ℕ) (ended is : Bool) (old mid new : Option (List ℕ)) (index : ℕ) (event : EventView)
      → IsWritten bytes s rest ended old mid index → Gives H s then (Some rest) ended (Some (Ok event)) (Some left) is → WritesEvent IsCrc32 event mid new
      → IsWritten bytes then left is old new (index + 1)
  written_event bytes s then rest left ended is old mid new index event so_far gives writes = record {
    stream = so_far.stream;
    file = so_far.file;
    events = so_far.events ++ event ∷ [];
    given = subst (λ (l : List (Result EventView Error)). HasGiven H first then so_far.stream false l left is) (oks-more so_far.events event)
        (has_given_more first s then so_far.stream rest left false ended is (map Ok so_far.events) (Ok event) so_far.given gives);
    writes = (so_far.writes.0, so_far.writes.1, writes_more IsCrc32 so_far.events event so_far.writes.0 mid new so_far.writes.2 writes);
    count = omega (arith, so_far.count, length-append so_far.events (event ∷ []));
  }

  more_by : (known unread after : Option (List ℕ)) (s then : StreamState) (ended is : Bool) (old mid new : Option (List ℕ)) (index : ℕ) (item : Option (Result EventView Error))
      → IsWrittenSoFar known (place_at s unread ended) old mid index → Gives H s then unread ended item after is → CopiesItem item mid (Ok true) new
      → IsWrittenSoFar known (place_at then after is) old new (index + 1)
  more_by None unread after s then ended is old mid new index item so_far gives writes = tt
  more_by (Some bytes) None after s then ended is old mid new index item so_far gives writes = absurd so_far
  more_by (Some bytes) (Some rest) after s then ended is old mid new index None so_far gives writes = absurd (let e : true ≡ false = writes.0 in cc)
  more_by (Some bytes) (Some rest) after s then ended is old mid new index (Some (Err error)) so_far gives writes = absurd writes
  more_by (Some bytes) (Some rest) None s then true is old mid new index (Some (Ok event)) so_far gives writes = absurd gives.3
  more_by (Some bytes) (Some rest) None s then false is old mid new index (Some (Ok event)) so_far gives writes = absurd gives.reads
  more_by (Some bytes) (Some rest) (Some left) s then ended is old mid new index (Some (Ok event)) so_far gives writes =
      written_event bytes s then rest left ended is old mid new index event so_far gives writes.1

  pub step_more : (known : Option (List ℕ)) (place after : Place) (old mid new : Option (List ℕ)) (index : ℕ)
      → IsWrittenSoFar known place old mid index → CopiesNext H place mid (Ok true) after new → IsWrittenSoFar known after old new (index + 1)
  step_more known place after old mid new index so_far next =
      more_by known place.unread after.unread place.state after.state place.ended after.ended old mid new index next.item so_far next.gives next.writes

  -- At the end the file was copied.
  all_by : (known unread after : Option (List ℕ)) (s then : StreamState) (ended is : Bool) (old mid new : Option (List ℕ)) (index : ℕ) (item : Option (Result EventView Error))
      → IsWrittenSoFar known (place_at s unread ended) old mid index → Gives H s then unread ended item after is → CopiesItem item mid (Ok false) new → Promises known old (Ok tt) new
  all_by None unread after s then ended is old mid new index item so_far gives writes = tt
  all_by (Some bytes) None after s then ended is old mid new index item so_far gives writes = absurd so_far
  all_by (Some bytes) (Some rest) after s then ended is old mid new index (Some (Ok event)) so_far gives writes = absurd (let e : false ≡ true = writes.0 in cc)
  all_by (Some bytes) (Some rest) after s then ended is old mid new index (Some (Err error)) so_far gives writes = absurd writes
  all_by (Some bytes) (Some rest) None s then true is old mid new index None so_far gives writes = absurd gives.3
  all_by (Some bytes) (Some rest) None s then false is old mid new index None so_far gives writes = absurd gives.reads
  all_by (Some bytes) (Some rest) (Some left) s then ended is old mid new index None so_far gives writes = λ few.
      record {
        stream = so_far.stream;
        file = so_far.file;
        events = so_far.events;
        state = s;
        rest = rest;
        was = ended;
        given = so_far.given;
        after = then;
        left = left;
        ended = is;
        none = gives;
        writes = subst (WritesLog IsCrc32 so_far.events old) (sym writes.1) so_far.writes;
      }

  pub step_all : (known : Option (List ℕ)) (place after : Place) (old mid new : Option (List ℕ)) (index : ℕ)
      → IsWrittenSoFar known place old mid index → CopiesNext H place mid (Ok false) after new → Promises known old (Ok tt) new
  step_all known place after old mid new index so_far next =
      all_by known place.unread after.unread place.state after.state place.ended after.ended old mid new index next.item so_far next.gives next.writes

  -- An item that isn't written.
  item_stops : (bytes : List ℕ) (s then : StreamState) (rest left : List ℕ) (ended is : Bool) (old mid : Option (List ℕ)) (index : ℕ) (error : Error) (item : Result EventView Error)
      → IsWritten bytes s rest ended old mid index → Gives H s then (Some rest) ended (Some item) (Some left) is → IsInside item → IsRefusedAs error item → StopsBy H bytes error
  item_stops bytes s then rest left ended is old mid index error item so_far gives inside refused = record {
    stream = so_far.stream;
    file = so_far.file;
    events = so_far.events;
    state = s;
    rest = rest;
    was = ended;
    given = so_far.given;
    item = item;
    after = then;
    left = left;
    ended = is;
    gives = gives;
    inside = inside;
    refused = refused;
  }

  error_stops : (bytes : List ℕ) (s then : StreamState) (rest left : List ℕ) (ended is : Bool) (old mid : Option (List ℕ)) (index : ℕ) (error why : Error) (outside : Bool)
      → IsWritten bytes s rest ended old mid index → Gives H s then (Some rest) ended (Some (Err why)) (Some left) is → error ≡ why → is_environment_error why ≡ outside → IsNotCopied (StopsBy H) bytes error
  error_stops bytes s then rest left ended is old mid index error why true so_far gives same outside = inr (inr (ap is_environment_error same ∙ outside))
  error_stops bytes s then rest left ended is old mid index error why false so_far gives same outside =
      inr (inl (item_stops bytes s then rest left ended is old mid index error (Err why) so_far gives (λ e is_e. let other : why ≡ e = cc in subst (λ (x : Error). is_environment_error x ≡ false) other outside) same))

  stop_by : (bytes : List ℕ) (s then : StreamState) (rest left : List ℕ) (ended is : Bool) (old mid : Option (List ℕ)) (index : ℕ) (error : Error) (item : Result EventView Error)
      → IsWritten bytes s rest ended old mid index → Gives H s then (Some rest) ended (Some item) (Some left) is → IsRefusedAs error item ⊎ (is_environment_error error ≡ true) → IsNotCopied (StopsBy H) bytes error
  stop_by bytes s then rest left ended is old mid index error item so_far gives (inr outside) = inr (inr outside)
  stop_by bytes s then rest left ended is old mid index error (Ok event) so_far gives (inl refused) =
      inr (inl (item_stops bytes s then rest left ended is old mid index error (Ok event) so_far gives (λ e is_e. absurd cc) refused))
  stop_by bytes s then rest left ended is old mid index error (Err why) so_far gives (inl same) =
      error_stops bytes s then rest left ended is old mid index error why (is_environment_error why) so_far gives same refl

  refused_by : (known unread after : Option (List ℕ)) (s then : StreamState) (ended is : Bool) (old mid new : Option (List ℕ)) (index : ℕ) (error : Error) (item : Option (Result EventView Error))
      → IsWrittenSoFar known (place_at s unread ended) old mid index → Gives H s then unread ended item after is → CopiesItem item mid (Err error) new → Refuses known error
  refused_by None unread after s then ended is old mid new index error item so_far gives writes = tt
  refused_by (Some bytes) None after s then ended is old mid new index error item so_far gives writes = absurd so_far
  refused_by (Some bytes) (Some rest) after s then ended is old mid new index error None so_far gives writes = absurd writes
  refused_by (Some bytes) (Some rest) None s then true is old mid new index error (Some item) so_far gives writes = absurd gives.3
  refused_by (Some bytes) (Some rest) None s then false is old mid new index error (Some item) so_far gives writes = absurd gives.reads
  refused_by (Some bytes) (Some rest) (Some left) s then ended is old mid new index error (Some (Ok event)) so_far gives writes = λ few.
      stop_by bytes s then rest left ended is old mid index error (Ok event) so_far gives writes
  refused_by (Some bytes) (Some rest) (Some left) s then ended is old mid new index error (Some (Err why)) so_far gives writes = λ few.
      stop_by bytes s then rest left ended is old mid index error (Err why) so_far gives writes

  pub step_error : (known : Option (List ℕ)) (place after : Place) (old mid new : Option (List ℕ)) (index : ℕ) (error : Error)
      → IsWrittenSoFar known place old mid index → CopiesNext H place mid (Err error) after new → Refuses known error
  step_error known place after old mid new index error so_far next =
      refused_by known place.unread after.unread place.state after.state place.ended after.ended old mid new index error next.item so_far next.gives next.writes

  out_by : (known unread : Option (List ℕ)) (s : StreamState) (ended : Bool) (old new : Option (List ℕ)) (index : ℕ)
      → IsWrittenSoFar known (place_at s unread ended) old new index → 2 ^ 64 - 1 ≤ index → Promises known old (Ok tt) new
  out_by None unread s ended old new index so_far out = tt
  out_by (Some bytes) None s ended old new index so_far out = absurd so_far
  out_by (Some bytes) (Some rest) s ended old new index so_far out = λ few.
      absurd (omega (
        arith,
        few,
        out,
        so_far.count,
        ap length so_far.file,
        length-append file_header so_far.stream,
        length-oks so_far.events,
        iterations.few_given H first s so_far.stream rest false ended (map Ok so_far.events) so_far.given (events_inside so_far.events),
      ))

  -- The counter doesn't run out.
  pub counted_out : (known : Option (List ℕ)) (place : Place) (old new : Option (List ℕ)) (index : ℕ) → IsWrittenSoFar known place old new index → 2 ^ 64 - 1 ≤ index → Promises known old (Ok tt) new
  counted_out known place old new index so_far out = out_by known place.unread place.state place.ended old new index so_far out

  -- Memory, the reader or the writer failed.
  pub failed : (known : Option (List ℕ)) (error : Error) → is_environment_error error ≡ true → Refuses known error
  failed None error outside = tt
  failed (Some bytes) error outside = λ few. inr (inr outside)
