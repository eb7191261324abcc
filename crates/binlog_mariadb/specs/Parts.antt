-- Parts of a body: a part that a flag announces, a part that is present if bytes are left, and reserved bytes at the
-- end of a body.
use Rattle.std.proofs.Common.{◌≡◌, ℕ, ◌+◌, ◌-◌, ◌≤◌, Bool, cond, not, eqb, ltb, Option, None, Some, List, [], ◌∷◌, ◌++◌, length, replicate, Ok, Err, refl, sym, ap, subst, ◌∙◌, arith}
use Rattle.std.specs.Prelude.{bit_and, unwrap_or}
use Rattle.std.proofs.lemmas.Bool.{ltb-false, le-ltb}
use Rattle.std.proofs.lemmas.List.{append-nil, length-append, length-replicate}
use Rattle.binlog_wire.specs.Reading.{Read, ends, read_as}
use Rattle.binlog_wire.specs.Fields.{IsBytes, IsRest}
use Rattle.binlog_wire.specs.Laws.{KeepsTo, bind_ok, guard_ok}
use Rattle.binlog_wire.specs.Formats.{Place, last, Format, silent, made}
use Rattle.binlog_variable_fields.specs.Chosen.{choose}

-- Whether this bit of the flags is set.
abbrev pub has_bit : ℕ → ℕ → Bool
has_bit flags bit = not (eqb (bit_and flags bit) 0)

-- A part that is present if `there` is true; its value is x if it is absent.
abbrev pub part : {place : Place} {V : Type 0} → Bool → V → Format place V → Format place V
part there x f = choose there f (silent x)

-- A value that is always present; None is written as v.
abbrev pub supplied : {place : Place} {V : Type 0} → V → Format place V → Format place (Option V)
supplied v f = made (λ x. Some x) (λ o. unwrap_or o v) f (λ s a r h. refl) (λ o. refl)

-- ---- a part that is present if bytes are left

-- The bytes encode the value, or there are none and there is no value.
abbrev pub IsOptional : {V : Type 0} → (List ℕ → V → List ℕ → Type 0) → List ℕ → Option V → List ℕ → Type 0
IsOptional F s (Some v) r = F s v r
IsOptional F s None r = (s ≡ []) × (r ≡ [])

-- Reading a value if bytes are left.
abbrev pub optional_at : {V : Type 0} → (List ℕ → Read V) → List ℕ → Read (Option V)
optional_at f [] = Ok (None, [])
optional_at f (b ∷ s) = read_as (λ v. Some v) (f (b ∷ s))

-- The bytes of a value that may be absent.
abbrev pub optional_written : {V : Type 0} → (V → List ℕ) → Option V → List ℕ
optional_written f (Some v) = f v
optional_written f None = []

-- The normal form of a value that may be absent.
abbrev pub optional_normal : {V : Type 0} → (V → V) → Option V → Option V
optional_normal f (Some v) = Some (f v)
optional_normal f None = None

-- A value that may be absent can be written.
abbrev pub FitsOptional : {V : Type 0} → (V → Type 0) → Option V → Type 0
FitsOptional f (Some v) = f v
FitsOptional f None = Unit {0}

pub optional_sound : {V : Type 0} {F : List ℕ → V → List ℕ → Type 0} {f : List ℕ → Read V} → KeepsTo F f → (s : List ℕ) (x : Option V × List ℕ) → IsBytes s
    → optional_at f s ≡ Ok x → IsOptional F s x.0 x.1 × IsBytes x.1
optional_sound {V} {F} {f} k [] x fits e =
    let same : ◌≡◌ {A = Option V × List ℕ} (None, []) x = cc in
    subst (λ (y : Option V × List ℕ). IsOptional F [] y.0 y.1 × IsBytes y.1) same ((refl, refl), fits)
optional_sound {V} {F} {f} k (b ∷ s) x fits e =
    let a = bind_ok (f (b ∷ s)) (λ v. Ok (Some v.0, v.1)) x e in
    let p = k.sound (b ∷ s) a.0 fits a.1 in
    let same : ◌≡◌ {A = Option V × List ℕ} (Some a.0.0, a.0.1) x = cc in
    subst (λ (y : Option V × List ℕ). IsOptional F (b ∷ s) y.0 y.1 × IsBytes y.1) same p

pub optional_complete : {V : Type 0} (f : Format last V) → 1 ≤ f.least → (s : List ℕ) (o : Option V) (r : List ℕ) → IsOptional f.spells s o r
    → optional_at f.reads s ≡ Ok (o, r)
optional_complete f some [] (Some v) r h = absurd (omega (arith, f.long [] v r h))
optional_complete f some (b ∷ s) (Some v) r h = rw (f.keeps.complete (b ∷ s) v r h) refl
optional_complete f some s None r h = rw (h.0, h.1) refl

pub optional_writes : {V : Type 0} (f : Format last V) (o : Option V) (r : List ℕ) → FitsOptional f.Fits o → r ≡ []
    → IsOptional f.spells (optional_written f.written o ++ r) (optional_normal f.normal o) r
optional_writes f (Some v) r fits follows = f.writes v r fits follows
optional_writes f None r fits follows = (follows, follows)

pub optional_settled : {V : Type 0} (f : Format last V) (s : List ℕ) (o : Option V) (r : List ℕ) → IsOptional f.spells s o r → optional_normal f.normal o ≡ o
optional_settled {V} f s (Some v) r h = ap (λ (w : V). Some w) (f.settled s v r h)
optional_settled f s None r h = refl

pub optional_twice : {V : Type 0} (f : Format last V) (o : Option V) → optional_normal f.normal (optional_normal f.normal o) ≡ optional_normal f.normal o
optional_twice {V} f (Some v) = ap (λ (w : V). Some w) (f.twice v)
optional_twice f None = refl

pub optional_again : {V : Type 0} (f : Format last V) (o : Option V) → FitsOptional f.Fits o → optional_written f.written (optional_normal f.normal o) ≡ optional_written f.written o
optional_again f (Some v) fits = f.again v fits
optional_again f None fits = refl

pub optional_long : {V : Type 0} (f : Format last V) (s : List ℕ) (o : Option V) (r : List ℕ) → IsOptional f.spells s o r → 0 + length r ≤ length s
optional_long f s (Some v) r h = omega (arith, f.long s v r h)
optional_long f s None r h = rw (h.0, h.1) (omega arith)

-- A part at the end of a body that is present if bytes are left. It takes at least one byte.
abbrev pub optional : {V : Type 0} (f : Format last V) → 1 ≤ f.least → Format last (Option V)
optional f some = record {
  spells = IsOptional f.spells;
  reads = optional_at f.reads;
  written = optional_written f.written;
  normal = optional_normal f.normal;
  Fits = FitsOptional f.Fits;
  least = 0;
  keeps = record { sound = optional_sound f.keeps; complete = optional_complete f some };
  writes = optional_writes f;
  settled = optional_settled f;
  twice = optional_twice f;
  again = optional_again f;
  long = optional_long f;
}

-- ---- reserved bytes at the end of a body

-- All bytes that are left, at least m of them.
abbrev pub IsPadding : ℕ → List ℕ → List ℕ → List ℕ → Type 0
IsPadding m s v r = (m ≤ length s) × IsRest s v r

-- Reading all bytes that are left, at least m of them.
abbrev pub padding_at : ℕ → List ℕ → Read (List ℕ)
padding_at m s = cond (ltb (length s) m) (Err ends) (Ok (s, []))

-- The bytes, and zeros up to m of them.
abbrev pub zero_padded : ℕ → List ℕ → List ℕ
zero_padded m s = s ++ replicate (m - length s) 0

pub zero_padded_long : (m : ℕ) (s : List ℕ) → m ≤ length (zero_padded m s)
zero_padded_long m s = omega (arith, length-append s (replicate (m - length s) 0), length-replicate {A = ℕ} (m - length s) 0)

pub zero_padded_same : (m : ℕ) (s : List ℕ) → m ≤ length s → zero_padded m s ≡ s
zero_padded_same m s enough =
    let none : m - length s ≡ 0 = omega arith in
    ap (λ (k : ℕ). s ++ replicate k 0) none ∙ append-nil s

pub padding_sound : (m : ℕ) (s : List ℕ) (x : List ℕ × List ℕ) → IsBytes s → padding_at m s ≡ Ok x → IsPadding m s x.0 x.1 × IsBytes x.1
padding_sound m s x fits e =
    let a = guard_ok (ltb (length s) m) ends (Ok (s, [])) x e in
    let enough : m ≤ length s = ltb-false _ _ a.0 in
    let same : ◌≡◌ {A = List ℕ × List ℕ} (s, []) x = cc in
    subst (λ (y : List ℕ × List ℕ). IsPadding m s y.0 y.1 × IsBytes y.1) same ((enough, (refl, refl)), λ i. omega arith)

pub padding_complete : (m : ℕ) (s v r : List ℕ) → IsPadding m s v r → padding_at m s ≡ Ok (v, r)
padding_complete m s v r h = rw (le-ltb _ _ h.0, h.1.0, h.1.1) refl

pub padding_writes : (m : ℕ) (v r : List ℕ) → r ≡ [] → IsPadding m (zero_padded m v ++ r) (zero_padded m v) r
padding_writes m v r follows =
    let all : zero_padded m v ++ r ≡ zero_padded m v = ap (λ (t : List ℕ). zero_padded m v ++ t) follows ∙ append-nil (zero_padded m v) in
    (subst (λ (s : List ℕ). m ≤ length s) (sym all) (zero_padded_long m v), (sym all, follows))

-- Reserved bytes to the end of a body, at least m of them, which may have any values. On writing, zeros are added up to
-- m bytes.
abbrev pub padding : (m : ℕ) → Format last (List ℕ)
padding m = record {
  spells = IsPadding m;
  reads = padding_at m;
  written = zero_padded m;
  normal = zero_padded m;
  Fits = λ v. Unit {0};
  least = m;
  keeps = record { sound = padding_sound m; complete = padding_complete m };
  writes = λ v r fits follows. padding_writes m v r follows;
  settled = λ s v r h. zero_padded_same m v (subst (λ (t : List ℕ). m ≤ length t) (sym h.1.0) h.0);
  twice = λ v. zero_padded_same m (zero_padded m v) (zero_padded_long m v);
  again = λ v fits. zero_padded_same m (zero_padded m v) (zero_padded_long m v);
  long = λ s v r h. rw h.1.1 (omega (arith, h.0));
}
