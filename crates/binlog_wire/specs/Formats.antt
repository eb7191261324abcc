-- Formats: one record for all that is stated of an encoding, and the formats that bodies are built from. The format of
-- a body is written once; its grammar, its reading, its written bytes, its normal form and the laws that tie them are
-- members of that one term.
use Rattle.std.proofs.Common.{◌≡◌, ℕ, suc, ◌+◌, ◌^◌, ◌<◌, ◌≤◌, ◌⊎◌, inl, inr, Bool, true, List, [], ◌∷◌, ◌++◌, length, take, replicate, Result, Ok, Err, refl, sym, ap, subst, ◌∙◌, append_assoc, arith}
use Rattle.std.proofs.lemmas.List.{append-nil, length-append, length-replicate, length-take, take_all}
use Rattle.byteorder.specs.Endian.{little_bytes}
use Rattle.binlog_wire.specs.declared.error.Invalid.{Invalid}
use Rattle.binlog_wire.specs.Reading.{Read, read_as, other_type}
use Rattle.binlog_wire.specs.Fields.{IsNumber, number_at, IsAllowed, allowed_at, IsCoded, coded_at, IsBlock, block_at, IsRest, rest_at, IsText, text_at, prefixed, padded, HasNoZero, IsTerminated, terminated_at, Then, then_at, unit_at, Skipped, skipped_at, behind_zeros, IsSeenAs, IsMade, IsSilent, silent_at, IsEither, either_at, IsPresentFrom, present_from_at}
use Rattle.binlog_wire.specs.Laws.{KeepsTo}
use Rattle.binlog_wire.specs.Laws.Numbers.{IsCode, keeps_number, keeps_allowed, keeps_coded, length-number}
use Rattle.binlog_wire.specs.Laws.Texts.{keeps_block, keeps_rest, keeps_text, length-padded, padded_all}
use Rattle.binlog_wire.specs.Laws.Terminated.{keeps_terminated, terminated_long}
use Rattle.binlog_wire.specs.Laws.Sequences.{keeps_then, keeps_unit, keeps_skipped, keeps_seen_as, keeps_made}
use Rattle.binlog_wire.specs.Laws.Choices.{keeps_silent, keeps_either, keeps_present_from}

-- Where a field may be: anywhere in a body, or only at its end, as a field that takes all bytes that are left.
pub data Place : Type 0 where
  anywhere : Place
  last : Place

-- These bytes may follow a field in that place.
abbrev pub Follows : Place → List ℕ → Type 0
Follows anywhere r = Unit {0}
Follows last r = r ≡ []

-- The empty list may follow a field in any place.
pub nothing_follows : (place : Place) → Follows place []
nothing_follows anywhere = tt
nothing_follows last = refl

-- An encoding of the values of a type.
pub record Format (place : Place) (V : Type 0) : Type 1 where
  -- The bytes are an encoding of the value, followed by a rest.
  pub spells : List ℕ → V → List ℕ → Type 0
  -- The result of reading bytes from the left.
  pub reads : List ℕ → Read V
  -- The bytes that are written for a value.
  pub written : V → List ℕ
  -- The normal form of a value: what reading gives after writing it.
  pub normal : V → V
  -- The value can be written: each number fits its bytes.
  pub Fits : V → Type 0
  -- A lower bound on the length of every encoding, in bytes.
  pub least : ℕ
  -- Reading is sound and complete for the encoding.
  pub keeps : KeepsTo spells reads
  -- The written bytes encode the normal form.
  pub writes : (v : V) (r : List ℕ) → Fits v → Follows place r → spells (written v ++ r) (normal v) r
  -- A value that is encoded by any bytes is its own normal form.
  pub settled : (s : List ℕ) (v : V) (r : List ℕ) → spells s v r → normal v ≡ v
  -- A normal form is its own normal form.
  pub twice : (v : V) → normal (normal v) ≡ normal v
  -- A value and its normal form are written as the same bytes.
  pub again : (v : V) → Fits v → written (normal v) ≡ written v
  -- Each encoding has at least `least` bytes.
  pub long : (s : List ℕ) (v : V) (r : List ℕ) → spells s v r → least + length r ≤ length s

-- ---- numbers

-- A little-endian number of k bytes.
abbrev pub number : {place : Place} (k : ℕ) → Format place ℕ
number k = record {
  spells = IsNumber k;
  reads = number_at k;
  written = little_bytes k;
  normal = λ n. n;
  Fits = λ n. n < 256 ^ k;
  least = k;
  keeps = keeps_number k;
  writes = λ n r fits follows. (fits, refl);
  settled = λ s n r h. refl;
  twice = λ n. refl;
  again = λ n fits. refl;
  long = λ s n r h. omega (arith, length-number k s n r h);
}

-- A number of k bytes whose value is allowed.
abbrev pub allowed : {place : Place} (k : ℕ) → (ℕ → Bool) → (ℕ → Invalid) → Format place ℕ
allowed k test why = record {
  spells = IsAllowed k test;
  reads = allowed_at k test why;
  written = little_bytes k;
  normal = λ n. n;
  Fits = λ n. (n < 256 ^ k) × (test n ≡ true);
  least = k;
  keeps = keeps_allowed k test why;
  writes = λ n r fits follows. ((fits.0, refl), fits.1);
  settled = λ s n r h. refl;
  twice = λ n. refl;
  again = λ n fits. refl;
  long = λ s n r h. omega (arith, length-number k s n r h.0);
}

-- A value that is encoded as its code, a number of k bytes.
abbrev pub coded : {place : Place} {E : Type 0} (k : ℕ) (code : E → ℕ) (decoded : ℕ → Result E Invalid) → IsCode k code decoded → Format place E
coded k code decoded law = record {
  spells = IsCoded k code;
  reads = coded_at k decoded;
  written = λ e. little_bytes k (code e);
  normal = λ e. e;
  Fits = λ e. Unit {0};
  least = k;
  keeps = keeps_coded k code decoded law;
  writes = λ e r fits follows. (law.fits e, refl);
  settled = λ s e r h. refl;
  twice = λ e. refl;
  again = λ e fits. refl;
  long = λ s e r h. omega (arith, length-number k s (code e) r h);
}

-- ---- bytes

pub block_long : (k : ℕ) (s block r : List ℕ) → IsBlock k s block r → k + length r ≤ length s
block_long k s block r h = rw h.1 (omega (arith, length-append block r, h.0))

-- A block of k bytes with any values.
abbrev pub block : {place : Place} (k : ℕ) → Format place (List ℕ)
block k = record {
  spells = IsBlock k;
  reads = block_at k;
  written = λ s. s;
  normal = λ s. s;
  Fits = λ s. length s ≡ k;
  least = k;
  keeps = keeps_block k;
  writes = λ s r fits follows. (fits, refl);
  settled = λ s v r h. refl;
  twice = λ s. refl;
  again = λ s fits. refl;
  long = block_long k;
}

-- A block of k bytes; on writing a longer one is cut and a shorter one padded with zeros.
abbrev pub padded_block : {place : Place} (k : ℕ) → Format place (List ℕ)
padded_block k = record {
  spells = IsBlock k;
  reads = block_at k;
  written = padded k;
  normal = padded k;
  Fits = λ s. Unit {0};
  least = k;
  keeps = keeps_block k;
  writes = λ s r fits follows. (length-padded k s, refl);
  settled = λ s v r h. padded_all k v h.0;
  twice = λ s. padded_all k (padded k s) (length-padded k s);
  again = λ s fits. padded_all k (padded k s) (length-padded k s);
  long = block_long k;
}

pub rest_long : (s v r : List ℕ) → IsRest s v r → 0 + length r ≤ length s
rest_long s v r h = rw h.1 (omega arith)

-- All bytes that are left.
abbrev pub rest : Format last (List ℕ)
rest = record {
  spells = IsRest;
  reads = rest_at;
  written = λ s. s;
  normal = λ s. s;
  Fits = λ s. Unit {0};
  least = 0;
  keeps = keeps_rest;
  writes = λ s r fits follows. (rw (follows, append-nil s) refl, follows);
  settled = λ s v r h. refl;
  twice = λ s. refl;
  again = λ s fits. refl;
  long = rest_long;
}

pub text_long : (k : ℕ) (s text r : List ℕ) → IsText k s text r → k + length r ≤ length s
text_long k s text r h = omega (arith, length-number k s (length text) h.0 h.1, ap length h.2, length-append text r)

pub text_writes : (k max : ℕ) → max < 256 ^ k → (s r : List ℕ) → IsText k (prefixed k (take max s) ++ r) (take max s) r
text_writes k max less s r =
    let text : List ℕ = take max s in
    (text ++ r, (omega (arith, length-take max s), append_assoc (little_bytes k (length text)) text r), refl)

pub text_settled : (k max : ℕ) → suc max ≡ 256 ^ k → (s text r : List ℕ) → IsText k s text r → take max text ≡ text
text_settled k max e s text r h = take_all max text (omega (arith, h.1.0))

-- A string after its length in k bytes; on writing it is cut to the largest length that fits.
abbrev pub text : {place : Place} (k max : ℕ) → suc max ≡ 256 ^ k → Format place (List ℕ)
text k max most = record {
  spells = IsText k;
  reads = text_at k;
  written = λ s. prefixed k (take max s);
  normal = take max;
  Fits = λ s. Unit {0};
  least = k;
  keeps = keeps_text k;
  writes = λ s r fits follows. text_writes k max (omega (arith, most)) s r;
  settled = text_settled k max most;
  twice = λ s. take_all max (take max s) (omega (arith, length-take max s));
  again = λ s fits. ap (prefixed k) (take_all max (take max s) (omega (arith, length-take max s)));
  long = text_long k;
}

-- A zero-terminated string.
abbrev pub terminated : {place : Place} → Format place (List ℕ)
terminated = record {
  spells = IsTerminated;
  reads = terminated_at;
  written = λ s. s ++ 0 ∷ [];
  normal = λ s. s;
  Fits = HasNoZero;
  least = 1;
  keeps = keeps_terminated;
  writes = λ s r fits follows. (fits, append_assoc s (0 ∷ []) r);
  settled = λ s v r h. refl;
  twice = λ s. refl;
  again = λ s fits. refl;
  long = terminated_long;
}

-- ---- sequences of fields

-- One format and then another, which may depend on the value of the first.
abbrev pub then : {place : Place} {A B : Type 0} → Format anywhere A → (A → Format place B) → Format place (A × B)
then {place} {A} {B} f g = record {
  spells = Then f.spells (λ a. (g a).spells);
  reads = then_at f.reads (λ a. (g a).reads);
  written = λ x. f.written x.0 ++ (g (f.normal x.0)).written x.1;
  normal = λ x. (f.normal x.0, (g (f.normal x.0)).normal x.1);
  Fits = λ x. f.Fits x.0 × (g (f.normal x.0)).Fits x.1;
  least = f.least;
  keeps = keeps_then f.keeps (λ a. (g a).keeps);
  writes = λ x r fits follows.
      let first : List ℕ = f.written x.0 in
      let second : List ℕ = (g (f.normal x.0)).written x.1 in (
        second ++ r,
        subst (λ (s : List ℕ). f.spells s (f.normal x.0) (second ++ r)) (sym (append_assoc first second r)) (f.writes x.0 (second ++ r) fits.0 tt),
        (g (f.normal x.0)).writes x.1 r fits.1 follows,
      );
  settled = λ s x r h.
      subst (λ (a : A). ◌≡◌ {A = A × B} (a, (g a).normal x.1) x) (sym (f.settled s x.0 h.0 h.1)) (ap (λ (b : B). (x.0, b)) ((g x.0).settled h.0 x.1 r h.2));
  twice = λ x.
      let a : A = f.normal x.0 in
      subst (λ (c : A). ◌≡◌ {A = A × B} (c, (g c).normal ((g a).normal x.1)) (a, (g a).normal x.1)) (sym (f.twice x.0))
      (ap (λ (b : B). (a, b)) ((g a).twice x.1));
  again = λ x fits.
      let a : A = f.normal x.0 in
      subst (λ (c : A). f.written a ++ (g c).written ((g a).normal x.1) ≡ f.written x.0 ++ (g a).written x.1) (sym (f.twice x.0))
      (subst (λ (s : List ℕ). s ++ (g a).written ((g a).normal x.1) ≡ f.written x.0 ++ (g a).written x.1) (sym (f.again x.0 fits.0))
      (ap (λ (s : List ℕ). f.written x.0 ++ s) ((g a).again x.1 fits.1)));
  long = λ s x r h. omega (arith, f.long s x.0 h.0 h.1, (g x.0).long h.0 x.1 r h.2);
}

-- One format and then another.
infixr 20 ◌⨾◌
abbrev pub ◌⨾◌ : {place : Place} {A B : Type 0} → Format anywhere A → Format place B → Format place (A × B)
f ⨾ g = record (then f (λ _. g)) {
  least = f.least + g.least;
  long = λ s x r h. omega (arith, f.long s x.0 h.0 h.1, g.long h.0 x.1 r h.2);
}

-- Fields in one unit: all of the bytes that they need at least have to be there before the first of them is looked at.
abbrev pub unit : {place : Place} {V : Type 0} → Format place V → Format place V
unit f = record f {
  reads = unit_at f.least f.reads;
  keeps = keeps_unit f.least (λ s v r h. omega (arith, f.long s v r h)) f.keeps;
}

-- A format after k reserved bytes, which may have any values and are written as zeros.
abbrev pub skip_then : {place : Place} {V : Type 0} (k : ℕ) → Format place V → Format place V
skip_then {place} {V} k f = record {
  spells = Skipped k f.spells;
  reads = skipped_at k f.reads;
  written = behind_zeros k f.written;
  normal = f.normal;
  Fits = f.Fits;
  least = k + f.least;
  keeps = keeps_skipped k f.keeps;
  writes = λ v r fits follows.
      (replicate k 0, f.written v ++ r, (length-replicate k 0, append_assoc (replicate k 0) (f.written v) r), f.writes v r fits follows);
  settled = λ s v r h. f.settled h.1 v r h.3;
  twice = f.twice;
  again = λ v fits. ap (λ (s : List ℕ). replicate k 0 ++ s) (f.again v fits);
  long = λ s v r h. omega (arith, block_long k s h.0 h.1 h.2, f.long h.1 v r h.3);
}

-- ---- optional fields

-- A value whose encoding is empty.
abbrev pub silent : {place : Place} {V : Type 0} → V → Format place V
silent x = record {
  spells = IsSilent x;
  reads = silent_at x;
  written = λ v. [];
  normal = λ v. x;
  Fits = λ v. Unit {0};
  least = 0;
  keeps = keeps_silent x;
  writes = λ v r fits follows. (refl, refl);
  settled = λ s v r h. sym h.0;
  twice = λ v. refl;
  again = λ v fits. refl;
  long = λ s v r h. rw h.1 (omega arith);
}

-- The byte 0 and the first kind's encoding, or the byte 1 and the second kind's.
abbrev pub written_either : {A B : Type 0} → (A → List ℕ) → (B → List ℕ) → A ⊎ B → List ℕ
written_either f g (inl a) = 0 ∷ f a
written_either f g (inr b) = 1 ∷ g b

-- The normal form of a value of one of two kinds.
abbrev pub normal_either : {A B : Type 0} → (A → A) → (B → B) → A ⊎ B → A ⊎ B
normal_either f g (inl a) = inl (f a)
normal_either f g (inr b) = inr (g b)

-- A value of one of two kinds can be written.
abbrev pub FitsEither : {A B : Type 0} → (A → Type 0) → (B → Type 0) → A ⊎ B → Type 0
FitsEither f g (inl a) = f a
FitsEither f g (inr b) = g b

-- The bytes encode a value of one of two kinds.
abbrev pub SpellsEither : {place : Place} {A B : Type 0} → Format place A → Format place B → List ℕ → A ⊎ B → List ℕ → Type 0
SpellsEither f g = IsEither (IsMade (λ a. inl a) f.spells) (IsMade (λ b. inr b) g.spells)

pub either_writes : {place : Place} {A B : Type 0} (f : Format place A) (g : Format place B) (x : A ⊎ B) (r : List ℕ)
    → FitsEither f.Fits g.Fits x → Follows place r → SpellsEither f g (written_either f.written g.written x ++ r) (normal_either f.normal g.normal x) r
either_writes f g (inl a) r fits follows = inl (f.written a ++ r, refl, (f.normal a, refl, f.writes a r fits follows))
either_writes f g (inr b) r fits follows = inr (0, g.written b ++ r, refl, omega arith, (g.normal b, refl, g.writes b r fits follows))

pub either_settled : {place : Place} {A B : Type 0} (f : Format place A) (g : Format place B) (s : List ℕ) (x : A ⊎ B) (r : List ℕ)
    → SpellsEither f g s x r → normal_either f.normal g.normal x ≡ x
either_settled {A = A} {B = B} f g s x r (inl h) = rw h.2.1 (ap (λ (a : A). inl a) (f.settled h.0 h.2.0 r h.2.2))
either_settled {A = A} {B = B} f g s x r (inr h) = rw h.4.1 (ap (λ (b : B). inr b) (g.settled h.1 h.4.0 r h.4.2))

pub either_twice : {place : Place} {A B : Type 0} (f : Format place A) (g : Format place B) (x : A ⊎ B)
    → normal_either f.normal g.normal (normal_either f.normal g.normal x) ≡ normal_either f.normal g.normal x
either_twice {A = A} {B = B} f g (inl a) = ap (λ (a : A). inl a) (f.twice a)
either_twice {A = A} {B = B} f g (inr b) = ap (λ (b : B). inr b) (g.twice b)

pub either_again : {place : Place} {A B : Type 0} (f : Format place A) (g : Format place B) (x : A ⊎ B) → FitsEither f.Fits g.Fits x
    → written_either f.written g.written (normal_either f.normal g.normal x) ≡ written_either f.written g.written x
either_again f g (inl a) fits = ap (λ (s : List ℕ). 0 ∷ s) (f.again a fits)
either_again f g (inr b) fits = ap (λ (s : List ℕ). 1 ∷ s) (g.again b fits)

pub either_long : {place : Place} {A B : Type 0} (f : Format place A) (g : Format place B) (s : List ℕ) (x : A ⊎ B) (r : List ℕ)
    → SpellsEither f g s x r → 1 + length r ≤ length s
either_long f g s x r (inl h) = rw h.1 (omega (arith, f.long h.0 h.2.0 r h.2.2))
either_long f g s x r (inr h) = rw h.2 (omega (arith, g.long h.1 h.4.0 r h.4.2))

-- A byte 0 and then one format, or any other byte, which is written as 1, and then another.
abbrev pub either : {place : Place} {A B : Type 0} → Format place A → Format place B → Format place (A ⊎ B)
either f g = record {
  spells = SpellsEither f g;
  reads = either_at (λ s. read_as (λ a. inl a) (f.reads s)) (λ s. read_as (λ b. inr b) (g.reads s));
  written = written_either f.written g.written;
  normal = normal_either f.normal g.normal;
  Fits = FitsEither f.Fits g.Fits;
  least = 1;
  keeps = keeps_either (keeps_made (λ a. inl a) f.keeps) (keeps_made (λ b. inr b) g.keeps);
  writes = either_writes f g;
  settled = either_settled f g;
  twice = either_twice f g;
  again = either_again f g;
  long = either_long f g;
}

pub if_left_settled : {place : Place} {V : Type 0} (x : V) (f : Format place V) → f.normal x ≡ x → (s : List ℕ) (v : V) (r : List ℕ)
    → IsPresentFrom f.least x f.spells s v r → f.normal v ≡ v
if_left_settled x f default s v r (inl h) = rw h.1.0 default
if_left_settled x f default s v r (inr h) = f.settled s v r h.1

pub if_left_long : {place : Place} {V : Type 0} (x : V) (f : Format place V) (s : List ℕ) (v : V) (r : List ℕ)
    → IsPresentFrom f.least x f.spells s v r → 0 + length r ≤ length s
if_left_long x f s v r (inl h) = rw h.1.1 (omega arith)
if_left_long x f s v r (inr h) = omega (arith, f.long s v r h.1)

-- A format that is present where at least its least number of bytes is left, and whose value is x where it is absent;
-- on writing it is always present.
abbrev pub if_left : {place : Place} {V : Type 0} (x : V) (f : Format place V) → f.normal x ≡ x → Format place V
if_left x f default = record {
  spells = IsPresentFrom f.least x f.spells;
  reads = present_from_at f.least x f.reads;
  written = f.written;
  normal = f.normal;
  Fits = f.Fits;
  least = 0;
  keeps = keeps_present_from f.least x f.keeps;
  writes = λ v r fits follows.
      let spelled = f.writes v r fits follows in
      inr (omega (arith, f.long (f.written v ++ r) (f.normal v) r spelled), spelled);
  settled = if_left_settled x f default;
  twice = f.twice;
  again = f.again;
  long = if_left_long x f;
}

pub keeps_nowhere : {V : Type 0} (number : ℕ) → KeepsTo {V = V} (λ s v r. ⊥) (λ s. Err (other_type number))
keeps_nowhere number = record { sound = λ s x fits e. absurd cc; complete = λ s v r h. absurd h }

-- The format under a raw event type that has no such body: every list of bytes is refused, and no value can be
-- written.
abbrev pub nowhere : {place : Place} {V : Type 0} → ℕ → Format place V
nowhere number = record {
  spells = λ s v r. ⊥;
  reads = λ s. Err (other_type number);
  written = λ v. [];
  normal = λ v. v;
  Fits = λ v. ⊥;
  least = 0;
  keeps = keeps_nowhere number;
  writes = λ v r fits follows. absurd fits;
  settled = λ s v r h. refl;
  twice = λ v. refl;
  again = λ v fits. refl;
  long = λ s v r h. absurd h;
}

-- ---- a value mapped to its fields

-- A value that corresponds one to one to its fields.
abbrev pub seen_as : {place : Place} {A B : Type 0} (to : A → B) (from : B → A) → ((a : A) → from (to a) ≡ a) → ((b : B) → to (from b) ≡ b)
    → Format place A → Format place B
seen_as {place} {A} {B} to from back forth f = record {
  spells = IsSeenAs from f.spells;
  reads = λ s. read_as to (f.reads s);
  written = λ b. f.written (from b);
  normal = λ b. to (f.normal (from b));
  Fits = λ b. f.Fits (from b);
  least = f.least;
  keeps = keeps_seen_as to from back forth f.keeps;
  writes = λ b r fits follows. subst (λ (a : A). f.spells (f.written (from b) ++ r) a r) (sym (back (f.normal (from b)))) (f.writes (from b) r fits follows);
  settled = λ s b r h. ap to (f.settled s (from b) r h) ∙ forth b;
  twice = λ b. ap (λ (a : A). to (f.normal a)) (back (f.normal (from b))) ∙ ap to (f.twice (from b));
  again = λ b fits. ap f.written (back (f.normal (from b))) ∙ f.again (from b) fits;
  long = λ s b r h. f.long s (from b) r h;
}

-- A value that is made of fields, where the fields can be recovered from it if they were read or are a normal form.
abbrev pub made : {place : Place} {A B : Type 0} (to : A → B) (from : B → A) (f : Format place A)
    → ((s : List ℕ) (a : A) (r : List ℕ) → f.spells s a r → from (to a) ≡ a)
    → ((b : B) → from (to (f.normal (from b))) ≡ f.normal (from b)) → Format place B
made {place} {A} {B} to from f back whole = record {
  spells = IsMade to f.spells;
  reads = λ s. read_as to (f.reads s);
  written = λ b. f.written (from b);
  normal = λ b. to (f.normal (from b));
  Fits = λ b. f.Fits (from b);
  least = f.least;
  keeps = keeps_made to f.keeps;
  writes = λ b r fits follows. (f.normal (from b), refl, f.writes (from b) r fits follows);
  settled = λ s b r h.
      let e : from b ≡ h.0 = ap from h.1 ∙ back s h.0 r h.2 in
      ap (λ (a : A). to (f.normal a)) e ∙ ap to (f.settled s h.0 r h.2) ∙ sym h.1;
  twice = λ b. ap (λ (a : A). to (f.normal a)) (whole b) ∙ ap to (f.twice (from b));
  again = λ b fits. ap f.written (whole b) ∙ f.again (from b) fits;
  long = λ s b r h. f.long s h.0 r h.2;
}

-- ---- the canonical form

-- The written body of a value that fits encodes its normal form, a normal form is its own, and two values that fit
-- have equal written bodies exactly where their normal forms are equal.
pub record IsCanonicalIn {place : Place} {V : Type 0} (f : Format place V) (v : V) : Type 0 where
  pub reads_back : f.Fits v → f.spells (f.written v) (f.normal v) []
  pub twice : f.normal (f.normal v) ≡ f.normal v
  pub one_form : f.Fits v → (w : V) → f.Fits w → (f.written w ≡ f.written v → f.normal w ≡ f.normal v) × (f.normal w ≡ f.normal v → f.written w ≡ f.written v)

-- The written bytes of a value are read as its normal form.
written_whole : {place : Place} {V : Type 0} (f : Format place V) (v : V) → f.Fits v → f.spells (f.written v) (f.normal v) []
written_whole {place} f v fits = subst (λ (s : List ℕ). f.spells s (f.normal v) []) (append-nil (f.written v)) (f.writes v [] fits (nothing_follows place))

-- Every format is canonical.
pub canonical_in : {place : Place} {V : Type 0} (f : Format place V) (v : V) → IsCanonicalIn f v
canonical_in {place} {V} f v = record {
  reads_back = λ fits. written_whole f v fits;
  twice = f.twice v;
  one_form = λ fits w fits_w. (
    (λ e.
        let a = f.keeps.complete (f.written w) (f.normal w) [] (written_whole f w fits_w) in
        let b = f.keeps.complete (f.written v) (f.normal v) [] (written_whole f v fits) in
        let same : ◌≡◌ {A = Read V} (Ok (f.normal w, [])) (Ok (f.normal v, [])) = sym a ∙ ap f.reads e ∙ b in
        let pairs : ◌≡◌ {A = V × List ℕ} (f.normal w, []) (f.normal v, []) = cc in
        ap (λ (p : V × List ℕ). p.0) pairs),
    (λ e. sym (f.again w fits_w) ∙ ap f.written e ∙ f.again v fits),
  );
}

-- A reading that equals the reading of a format is sound and complete for its grammar.
pub keeps_as : {place : Place} {V : Type 0} {reads : List ℕ → Read V} (f : Format place V) → reads ≡ f.reads → KeepsTo f.spells reads
keeps_as {V = V} f same = subst (λ (reading : List ℕ → Read V). KeepsTo f.spells reading) (sym same) f.keeps
