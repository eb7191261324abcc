-- A GTID with a tag, read part by part: the bytes that the payload size counts, and then the fields in them.
use Rattle.std.proofs.Common.{ℕ, List, Ok, ◌≡◌, Bool, true, false, cond, length, take, drop, Err, refl, ◌+◌, ltb, ap, ◌-◌, ◌≤◌, ◌∙◌, arith, [], Result, sym}
use Rattle.std.proofs.lemmas.Bool.{le-ltb}
use Rattle.std.specs.Prelude.{⊤}
use Rattle.binlog_wire.specs.Reading.{Read, ◌>>=◌, ends, invalid, Refusal, Gives}
use Rattle.binlog_wire.specs.Fields.{read_decoded, meant}
use Rattle.binlog_wire.specs.declared.error.Invalid.{Invalid}
use Rattle.binlog_wire.specs.declared.error.Error.{Error}
use Rattle.binlog_wire.specs.declared.error.Invalid.TheVariants as kinds
use Rattle.binlog_variable_fields.specs.Within.{left_within, after_head}
use Rattle.binlog_variable_fields.specs.Laws.Refusing.{refused_as}
use Rattle.binlog_gtids.specs.TaggedFields.{Entry}
use Rattle.binlog_gtids.specs.Tagged.{fields, Head, head, tagged_of, payload_size, last_id}
use Rattle.binlog_gtids.specs.TaggedReading.{counted_by, payload_at}
use Rattle.binlog_gtids.specs.Formats.{tagged}
use Rattle.binlog_gtids.specs.declared.gtid_event.GtidEvent.{GtidEvent}
use Rattle.binlog_gtids.specs.Taking.{no_fields, taken, event_known}
use Rattle.binlog_gtids.specs.Laws.Taking.{event_taken}

-- A head, the bytes that its payload size counts, and the bytes left after them.
abbrev pub Payload : Type 0
Payload = (Head × List ℕ) × List ℕ

-- The fields in the bytes of a payload.
abbrev pub fields_in : Payload → Read (Head × List Entry)
fields_in ((h, body), rest) = (fields (last_id h)).reads body >>= λ es. Ok ((h, es.0), rest)

-- The fields after a head that was read.
abbrev after : ℕ → Head × List ℕ → Read (Head × List Entry)
after whole = after_head payload_size kinds.PayloadSize (λ h. (fields (last_id h)).reads) whole

tests : (h : Head) (rest : List ℕ) (k : ℕ) (b c : Bool)
    → cond b (Err (invalid (kinds.PayloadSize (payload_size h)))) (cond c (Err ends) ((fields (last_id h)).reads (take k rest) >>= λ es. Ok ((h, es.0), drop k rest)))
    ≡ (cond b (Err (invalid (kinds.PayloadSize (payload_size h)))) (cond c (Err ends) (Ok ((h, take k rest), drop k rest))) >>= fields_in)
tests h rest k true c = refl
tests h rest k false true = refl
tests h rest k false false = refl

behind_head : (whole : ℕ) (x : Read Head) → (x >>= after whole) ≡ (x >>= counted_by whole >>= fields_in)
behind_head whole (Ok (h, rest)) =
    tests h rest (left_within (payload_size h) (length rest) whole) (ltb (payload_size h + length rest) whole) (ltb whole (payload_size h))
behind_head whole (Err d) = refl

pub tagged_parts : (s : List ℕ) → tagged.reads s ≡ read_decoded tagged_of (payload_at s >>= fields_in)
tagged_parts s = ap (read_decoded tagged_of) (behind_head (length s) (head.reads s))

-- The bytes that the payload size counts, by the number of bytes after the head.
pub payload_ok : (s m body rest : List ℕ) (h : Head) (n : ℕ) → head.reads s ≡ Ok (h, m) → length s - length m ≤ payload_size h → payload_size h ≤ length s
    → n ≡ length m - (length s - payload_size h) → body ≡ take n m → rest ≡ drop n m → payload_at s ≡ Ok ((h, body), rest)
payload_ok s m body rest h n e reaches there is front back =
    let enough : ltb (payload_size h + length m) (length s) ≡ false = le-ltb _ _ (omega arith) in
    let fits : ltb (length s) (payload_size h) ≡ false = le-ltb _ _ there in
    let same : left_within (payload_size h) (length m) (length s) ≡ n = omega arith in
    ap (λ (x : Read Head). x >>= counted_by (length s)) e ∙ rw (enough, fits, same, front, back) refl

-- An error in the payload is an error of the whole body.
pub tagged_refused : (s : List ℕ) (d : Refusal) → payload_at s ≡ Err d → tagged.reads s ≡ Err d
tagged_refused s d e = tagged_parts s ∙ ap (λ (x : Read (Head × List ℕ)). read_decoded tagged_of (x >>= fields_in)) e

-- So is an error in its fields.
pub fields_refused : (s body m : List ℕ) (h : Head) (d : Refusal) → payload_at s ≡ Ok ((h, body), m) → (fields (last_id h)).reads body ≡ Err d → tagged.reads s ≡ Err d
fields_refused s body m h d e f =
    tagged_parts s ∙ ap (λ (x : Read (Head × List ℕ)). read_decoded tagged_of (x >>= fields_in)) e
    ∙ ap (λ (x : Read (List Entry)). read_decoded tagged_of (x >>= λ v. Ok ((h, v.0), m))) f

-- The event with these fields.
pub tagged_known : (s body m : List ℕ) (h : Head) (es : List Entry) → payload_at s ≡ Ok ((h, body), m) → (fields (last_id h)).reads body ≡ Ok (es, [])
    → tagged.reads s ≡ meant (event_known (taken es no_fields)) m
tagged_known s body m h es e f =
    tagged_parts s ∙ ap (λ (x : Read (Head × List ℕ)). read_decoded tagged_of (x >>= fields_in)) e
    ∙ ap (λ (x : Read (List Entry)). read_decoded tagged_of (x >>= λ v. Ok ((h, v.0), m))) f
    ∙ ap (λ (r : Result GtidEvent Invalid). meant r m) (sym (event_taken h es))

known_err : (why : Result GtidEvent Invalid) (m : List ℕ) (d : Refusal) → meant why [] ≡ Err d → meant why m ≡ Err d
known_err (Ok g) m d e = absurd cc
known_err (Err why) m d e = e

known_ok : (r : Result GtidEvent Invalid) (m : List ℕ) (g : GtidEvent) → meant r [] ≡ Ok (g, []) → meant r m ≡ Ok (g, m)
known_ok (Ok x) m g e =
    let same : ◌≡◌ {A = GtidEvent × List ℕ} (x, []) (g, []) = cc in
    ap (λ (y : GtidEvent × List ℕ). Ok (y.0, m)) same
known_ok (Err why) m g e = absurd cc

-- The result for the fields alone is the result for them before a rest.
pub gives_known : (whole : Read GtidEvent) (r : Result GtidEvent Invalid) (m : List ℕ) (result : Result GtidEvent Error) → whole ≡ meant r m
    → Gives ⊤ [] result (meant r []) → Gives ⊤ m result whole
gives_known whole r m (Ok g) is h = is ∙ known_ok r m g h
gives_known whole r m (Err e) is h = refused_as ⊤ ⊤ (λ x. x) e (meant r []) whole (λ d f. is ∙ known_err r m d f) h
