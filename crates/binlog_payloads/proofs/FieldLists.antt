-- Lists of fields: what is read of them is what they state.
use Rattle.std.proofs.Common.{◌≡◌, ◌⊎◌, inl, inr, ℕ, zero, suc, ◌<◌, Bool, true, false, cond, eqb, List, [], ◌∷◌, ◌++◌, length, Option, Some, None, Result, Ok, refl, sym, ap, subst, ◌∙◌, arith}
use Rattle.std.specs.Prelude.{◌≢◌}
use Rattle.std.proofs.lemmas.Bool.{eqb-true, eqb-false, ne_eqb, eq-eqb}
use Rattle.std.proofs.lemmas.List.{length-append}
use Rattle.binlog_wire.specs.Fields.{IsBytes}
use Rattle.binlog_variable_fields.specs.LenEnc.{IsLenEnc}
use Rattle.binlog_variable_fields.specs.Laws.LenEnc.{lenenc_long}
use Rattle.binlog_payloads.specs.declared.error.PayloadError.{PayloadError}
use Rattle.binlog_payloads.specs.declared.error.PayloadError.TheVariants as errors
use Rattle.binlog_payloads.specs.declared.compression.TransactionPayloadCompressionType.{TransactionPayloadCompressionType}
use Rattle.binlog_payloads.specs.declared.compression.TransactionPayloadCompressionType.TheVariants as kinds
use Rattle.binlog_payloads.specs.declared.fields.Stated.{Stated}
use Rattle.binlog_payloads.specs.Results.{step}
use Rattle.binlog_payloads.specs.Fields.{Payload, Field, AreFields, values, States, IsPayloadEvent, Behind, number_of, number, value, with_field, field, fields, nothing, finished, payload_event}
use Rattle.binlog_payloads.proofs.Numbers.{step_ok, allowed_if, same_parts, number_complete, number_sound, value_complete, value_sound}
use Rattle.binlog_payloads.proofs.KnownFields.{size_added, algorithm_added, uncompressed_added, other_added, adds_size, adds_algorithm, adds_uncompressed}
use Rattle.binlog_payloads.proofs.FieldSteps.{fields_end, fields_more}

-- The number of the compression type that is stated.
abbrev num : Option TransactionPayloadCompressionType → Option ℕ
num None = None
num (Some a) = Some (number_of a)

-- What fields say of a type, where this was given before.
abbrev Joins : ℕ → Option ℕ → List Field → Option ℕ → Type 0
Joins type (Some n) fs got = (values type fs ≡ []) × (got ≡ Some n)
Joins type None fs got = States type fs got

-- What is stated behind fields, from what is stated before.
record JoinAll (s t : Stated) (fs : List Field) : Type 0 where
  pub size : Joins 1 s.payload_size fs t.payload_size
  pub algorithm : Joins 2 (num s.algorithm) fs (num t.algorithm)
  pub uncompressed : Joins 3 s.uncompressed_size fs t.uncompressed_size

-- ---- one field

-- A field of another type says nothing of this one.
passed : (type : ℕ) (given got : Option ℕ) (f : Field) (fs : List Field) → eqb f.type type ≡ false → Joins type given fs got → Joins type given (f ∷ fs) got
passed type (Some n) got f fs e h = (rw e h.0, h.1)
passed type None (Some k) f fs e h = (h.0, rw e h.1, h.2)
passed type None None f fs e h = rw e h

unpassed : (type : ℕ) (given got : Option ℕ) (f : Field) (fs : List Field) → eqb f.type type ≡ false → Joins type given (f ∷ fs) got → Joins type given fs got
unpassed type (Some n) got f fs e h = (rw e at h.0, h.1)
unpassed type None (Some k) f fs e h = (h.0, rw e at h.1, h.2)
unpassed type None None f fs e h = rw e at h

-- A field of this type states its number, once.
joined : (type n : ℕ) (given got : Option ℕ) (f : Field) (fs : List Field) → eqb f.type type ≡ true → given ≡ None → IsLenEnc f.value n [] → Joins type (Some n) fs got → Joins type given (f ∷ fs) got
joined type n given got f fs e none spelled h =
    subst (λ (g : Option ℕ). Joins type g (f ∷ fs) got) (sym none)
    (subst (λ (o : Option ℕ). States type (f ∷ fs) o) (sym h.1) (f.value, rw e (ap (λ (vs : List (List ℕ)). f.value ∷ vs) h.0), spelled))

record Parted (type : ℕ) (given got : Option ℕ) (f : Field) (fs : List Field) : Type 0 where
  pub n : ℕ
  pub none : given ≡ None
  pub spelled : IsLenEnc f.value n []
  pub others : values type fs ≡ []
  pub is : got ≡ Some n

first_of : (v w : List ℕ) (vs : List (List ℕ)) → v ∷ vs ≡ w ∷ [] → (v ≡ w) × (vs ≡ [])
first_of v w vs e = (cc, cc)

parted : (type : ℕ) (given got : Option ℕ) (f : Field) (fs : List Field) → eqb f.type type ≡ true → Joins type given (f ∷ fs) got → Parted type given got f fs
parted type (Some k) got f fs e h = let bad : f.value ∷ values type fs ≡ [] = rw e at h.0 in absurd cc
parted type None None f fs e h = let bad : f.value ∷ values type fs ≡ [] = rw e at h in absurd cc
parted type None (Some n) f fs e h =
    let whole : f.value ∷ values type fs ≡ h.0 ∷ [] = rw e at h.1 in
    let p = first_of f.value h.0 (values type fs) whole in
    record { n = n; none = refl; spelled = subst (λ (v : List ℕ). IsLenEnc v n []) (sym p.0) h.2; others = p.1; is = refl }

-- ---- soundness

joins_size : (s u t : Stated) (f : Field) (fs : List Field) → eqb f.type 1 ≡ true → IsBytes f.value → with_field f.type f.value s ≡ Ok u → JoinAll u t fs → JoinAll s t (f ∷ fs)
joins_size s u t f fs h fits e all =
    let one : f.type ≡ 1 = eqb-true _ _ h in
    let adds = adds_size s u f.value fits (subst (λ (k : ℕ). with_field k f.value s ≡ Ok u) one e) in
    let there : JoinAll (record s { payload_size = Some adds.n }) t fs = subst (λ (x : Stated). JoinAll x t fs) adds.is all in
    record {
      size = joined 1 adds.n s.payload_size t.payload_size f fs h adds.before adds.spelled there.size;
      algorithm = passed 2 (num s.algorithm) (num t.algorithm) f fs (rw one refl) there.algorithm;
      uncompressed = passed 3 s.uncompressed_size t.uncompressed_size f fs (rw one refl) there.uncompressed;
    }

none_num : (o : Option TransactionPayloadCompressionType) → o ≡ None → num o ≡ None
none_num o e = ap num e

joins_algorithm : (s u t : Stated) (f : Field) (fs : List Field) → eqb f.type 2 ≡ true → IsBytes f.value → with_field f.type f.value s ≡ Ok u → JoinAll u t fs → JoinAll s t (f ∷ fs)
joins_algorithm s u t f fs h fits e all =
    let two : f.type ≡ 2 = eqb-true _ _ h in
    let adds = adds_algorithm s u f.value fits (subst (λ (k : ℕ). with_field k f.value s ≡ Ok u) two e) in
    let there : JoinAll (record s { algorithm = Some adds.a }) t fs = subst (λ (x : Stated). JoinAll x t fs) adds.is all in
    record {
      size = passed 1 s.payload_size t.payload_size f fs (rw two refl) there.size;
      algorithm = joined 2 (number_of adds.a) (num s.algorithm) (num t.algorithm) f fs h (none_num s.algorithm adds.before) adds.spelled there.algorithm;
      uncompressed = passed 3 s.uncompressed_size t.uncompressed_size f fs (rw two refl) there.uncompressed;
    }

joins_uncompressed : (s u t : Stated) (f : Field) (fs : List Field) → eqb f.type 3 ≡ true → IsBytes f.value → with_field f.type f.value s ≡ Ok u → JoinAll u t fs → JoinAll s t (f ∷ fs)
joins_uncompressed s u t f fs h fits e all =
    let three : f.type ≡ 3 = eqb-true _ _ h in
    let adds = adds_uncompressed s u f.value fits (subst (λ (k : ℕ). with_field k f.value s ≡ Ok u) three e) in
    let there : JoinAll (record s { uncompressed_size = Some adds.n }) t fs = subst (λ (x : Stated). JoinAll x t fs) adds.is all in
    record {
      size = passed 1 s.payload_size t.payload_size f fs (rw three refl) there.size;
      algorithm = passed 2 (num s.algorithm) (num t.algorithm) f fs (rw three refl) there.algorithm;
      uncompressed = joined 3 adds.n s.uncompressed_size t.uncompressed_size f fs h adds.before adds.spelled there.uncompressed;
    }

joins_other : (s u t : Stated) (f : Field) (fs : List Field) → eqb f.type 1 ≡ false → eqb f.type 2 ≡ false → eqb f.type 3 ≡ false → with_field f.type f.value s ≡ Ok u → JoinAll u t fs → JoinAll s t (f ∷ fs)
joins_other s u t f fs a b d e all =
    let is : with_field f.type f.value s ≡ Ok s = other_added f.type f.value s a b d in
    let same : u ≡ s = cc in
    let there : JoinAll s t fs = subst (λ (x : Stated). JoinAll x t fs) same all in
    record {
      size = passed 1 s.payload_size t.payload_size f fs a there.size;
      algorithm = passed 2 (num s.algorithm) (num t.algorithm) f fs b there.algorithm;
      uncompressed = passed 3 s.uncompressed_size t.uncompressed_size f fs d there.uncompressed;
    }

joins_by : (a b d : Bool) (s u t : Stated) (f : Field) (fs : List Field) → eqb f.type 1 ≡ a → eqb f.type 2 ≡ b → eqb f.type 3 ≡ d → IsBytes f.value → with_field f.type f.value s ≡ Ok u → JoinAll u t fs → JoinAll s t (f ∷ fs)
joins_by true b d s u t f fs ha hb hd fits e all = joins_size s u t f fs ha fits e all
joins_by false true d s u t f fs ha hb hd fits e all = joins_algorithm s u t f fs hb fits e all
joins_by false false true s u t f fs ha hb hd fits e all = joins_uncompressed s u t f fs hd fits e all
joins_by false false false s u t f fs ha hb hd fits e all = joins_other s u t f fs ha hb hd e all

record IsEndRead (s : Stated) (bytes : List ℕ) (x : Behind) : Type 0 where
  pub spelled : IsLenEnc bytes 0 x.rest
  pub same : x.stated ≡ s
  pub is : x.is_end ≡ true

record IsFieldRead (s : Stated) (bytes : List ℕ) (x : Behind) : Type 0 where
  pub f : Field
  pub known : f.type ≢ 0
  pub sized : List ℕ
  pub spelled : IsLenEnc bytes f.type sized
  pub valued : IsLenEnc sized (length f.value) (f.value ++ x.rest)
  pub adds : with_field f.type f.value s ≡ Ok x.stated
  pub is : x.is_end ≡ false
  pub fits : IsBytes f.value
  pub left : IsBytes x.rest

field_by : (b : Bool) (s : Stated) (bytes : List ℕ) (x : Behind) (type : ℕ) (sized : List ℕ) → eqb type 0 ≡ b → IsLenEnc bytes type sized → IsBytes sized
    → cond b (Ok (record { stated = s; rest = sized; is_end = true })) (step (value sized) (λ (found : List ℕ × List ℕ). step (with_field type found.0 s) (λ (after : Stated). Ok (record { stated = after; rest = found.1; is_end = false })))) ≡ Ok x
    → IsEndRead s bytes x ⊎ IsFieldRead s bytes x
field_by true s bytes x type sized hb spelled fits e =
    let is : ◌≡◌ {A = Behind} (record { stated = s; rest = sized; is_end = true }) x = cc in
    let zero_is : type ≡ 0 = eqb-true _ _ hb in
    inl (subst (λ (y : Behind). IsEndRead s bytes y) is (record { spelled = subst (λ (k : ℕ). IsLenEnc bytes k sized) zero_is spelled; same = refl; is = refl }))
field_by false s bytes x type sized hb spelled fits e =
    let p = step_ok (value sized) (λ (found : List ℕ × List ℕ). step (with_field type found.0 s) (λ (after : Stated). Ok (record { stated = after; rest = found.1; is_end = false }))) x e in
    let q = step_ok (with_field type p.0.0 s) (λ (after : Stated). Ok (record { stated = after; rest = p.0.1; is_end = false })) x p.2 in
    let v = value_sound sized p.0.0 p.0.1 fits p.1 in
    let is : ◌≡◌ {A = Behind} (record { stated = q.0; rest = p.0.1; is_end = false }) x = cc in
    inr (subst (λ (y : Behind). IsFieldRead s bytes y) is (record {
      f = record { type = type; value = p.0.0 };
      known = eqb-false _ _ hb;
      sized = sized;
      spelled = spelled;
      valued = v.0;
      adds = q.1;
      is = refl;
      fits = v.1;
      left = v.2;
    }))

field_sound : (s : Stated) (bytes : List ℕ) (x : Behind) → IsBytes bytes → field s bytes ≡ Ok x → IsEndRead s bytes x ⊎ IsFieldRead s bytes x
unfolding field
field_sound s bytes x fits e =
    let p = step_ok (number bytes) (λ (type : ℕ × List ℕ). cond (eqb type.0 0) (Ok (record { stated = s; rest = type.1; is_end = true })) (step (value type.1) (λ (found : List ℕ × List ℕ). step (with_field type.0 found.0 s) (λ (after : Stated). Ok (record { stated = after; rest = found.1; is_end = false }))))) x e in
    let here = number_sound bytes p.0 fits p.1 in
    field_by (eqb p.0.0 0) s bytes x p.0.0 p.0.1 refl here.0 here.1 p.2

joins_none : (type : ℕ) (o : Option ℕ) → Joins type o [] o
joins_none type (Some n) = (refl, refl)
joins_none type None = refl

no_fields : (s t : Stated) (bytes rest : List ℕ) → fields zero s bytes ≡ Ok (t, rest) → ⊥
unfolding fields
no_fields s t bytes rest e = cc

more_fields : (n : ℕ) (s t : Stated) (bytes rest : List ℕ) → fields (suc n) s bytes ≡ Ok (t, rest) → (x : Behind) × (field s bytes ≡ Ok x) × (cond x.is_end (Ok (x.stated, x.rest)) (fields n x.stated x.rest) ≡ Ok (t, rest))
unfolding fields
more_fields n s t bytes rest e = step_ok (field s bytes) (λ (x : Behind). cond x.is_end (Ok (x.stated, x.rest)) (fields n x.stated x.rest)) (t, rest) e

-- Fields that are these bytes.
abbrev AreRead : Stated → Stated → List ℕ → List ℕ → Type 0
AreRead s t bytes rest = (fs : List Field) × AreFields bytes fs rest × JoinAll s t fs

sound_by : (n : ℕ) (s t : Stated) (bytes rest : List ℕ) (x : Behind) → ((u : Stated) (others : List ℕ) → IsBytes others → fields n u others ≡ Ok (t, rest) → AreRead u t others rest)
    → IsEndRead s bytes x ⊎ IsFieldRead s bytes x → cond x.is_end (Ok (x.stated, x.rest)) (fields n x.stated x.rest) ≡ Ok (t, rest) → AreRead s t bytes rest
sound_by n s t bytes rest x ih (inl end) e =
    let stops : ◌≡◌ {A = Result (Stated × List ℕ) PayloadError} (Ok (x.stated, x.rest)) (Ok (t, rest)) = subst (λ (b : Bool). cond b (Ok (x.stated, x.rest)) (fields n x.stated x.rest) ≡ Ok (t, rest)) end.is e in
    let parts = same_parts (x.stated, x.rest) (t, rest) stops in
    let to : x.stated ≡ t = parts.0 in
    let left : x.rest ≡ rest = parts.1 in
    let same : s ≡ t = sym end.same ∙ to in (
      [],
      subst (λ (r : List ℕ). IsLenEnc bytes 0 r) left end.spelled,
      subst (λ (u : Stated). JoinAll s u []) same (record { size = joins_none 1 s.payload_size; algorithm = joins_none 2 (num s.algorithm); uncompressed = joins_none 3 s.uncompressed_size }),
    )
sound_by n s t bytes rest x ih (inr read) e =
    let goes : fields n x.stated x.rest ≡ Ok (t, rest) = subst (λ (b : Bool). cond b (Ok (x.stated, x.rest)) (fields n x.stated x.rest) ≡ Ok (t, rest)) read.is e in
    let others = ih x.stated x.rest read.left goes in (
      read.f ∷ others.0,
      (read.known, read.sized, read.spelled, x.rest, read.valued, others.1),
      joins_by (eqb read.f.type 1) (eqb read.f.type 2) (eqb read.f.type 3) s x.stated t read.f others.0 refl refl refl read.fits read.adds others.2,
    )

fields_sound : (n : ℕ) (s t : Stated) (bytes rest : List ℕ) → IsBytes bytes → fields n s bytes ≡ Ok (t, rest) → AreRead s t bytes rest
fields_sound zero s t bytes rest fits e = absurd (no_fields s t bytes rest e)
fields_sound (suc n) s t bytes rest fits e =
    let p = more_fields n s t bytes rest e in
    sound_by n s t bytes rest p.0 (λ (u : Stated) (others : List ℕ) (left : IsBytes others) (goes : fields n u others ≡ Ok (t, rest)). fields_sound n u t others rest left goes)
    (field_sound s bytes p.0 fits p.1) p.2

-- ---- completeness

end_complete : (s : Stated) (bytes rest : List ℕ) → IsLenEnc bytes 0 rest → field s bytes ≡ Ok (record { stated = s; rest = rest; is_end = true })
unfolding field
end_complete s bytes rest h = let e : number bytes ≡ Ok (0, rest) = number_complete bytes 0 rest h in rw e refl

field_complete : (s u : Stated) (f : Field) (bytes sized others : List ℕ) → f.type ≢ 0 → IsLenEnc bytes f.type sized → IsLenEnc sized (length f.value) (f.value ++ others) → with_field f.type f.value s ≡ Ok u
    → field s bytes ≡ Ok (record { stated = u; rest = others; is_end = false })
unfolding field
field_complete s u f bytes sized others known spelled valued adds =
    let e : number bytes ≡ Ok (f.type, sized) = number_complete bytes f.type sized spelled in
    let goes : eqb f.type 0 ≡ false = ne_eqb f.type 0 known in
    let v : value sized ≡ Ok (f.value, others) = value_complete sized f.value others valued in
    rw (e, goes, v, adds) refl

record Stepped (s t : Stated) (f : Field) (fs : List Field) : Type 0 where
  pub u : Stated
  pub adds : with_field f.type f.value s ≡ Ok u
  pub all : JoinAll u t fs

as_type : (s u : Stated) (f : Field) (type : ℕ) → f.type ≡ type → with_field type f.value s ≡ Ok u → with_field f.type f.value s ≡ Ok u
as_type s u f type e h = subst (λ (k : ℕ). with_field k f.value s ≡ Ok u) (sym e) h

steps_size : (s t : Stated) (f : Field) (fs : List Field) → eqb f.type 1 ≡ true → JoinAll s t (f ∷ fs) → Stepped s t f fs
steps_size s t f fs h all =
    let one : f.type ≡ 1 = eqb-true _ _ h in
    let p = parted 1 s.payload_size t.payload_size f fs h all.size in
    record {
      u = record s { payload_size = Some p.n };
      adds = as_type s (record s { payload_size = Some p.n }) f 1 one (size_added s f.value p.n p.none p.spelled);
      all = record {
        size = (p.others, p.is);
        algorithm = unpassed 2 (num s.algorithm) (num t.algorithm) f fs (rw one refl) all.algorithm;
        uncompressed = unpassed 3 s.uncompressed_size t.uncompressed_size f fs (rw one refl) all.uncompressed;
      };
    }

num_none : (o : Option TransactionPayloadCompressionType) → num o ≡ None → o ≡ None
num_none None e = refl
num_none (Some a) e = absurd cc

num_some : (o : Option TransactionPayloadCompressionType) (n : ℕ) → num o ≡ Some n → (a : TransactionPayloadCompressionType) × (o ≡ Some a) × (n ≡ number_of a)
num_some None n e = absurd cc
num_some (Some a) n e = (a, refl, cc)

steps_algorithm : (s t : Stated) (f : Field) (fs : List Field) → eqb f.type 2 ≡ true → JoinAll s t (f ∷ fs) → Stepped s t f fs
steps_algorithm s t f fs h all =
    let two : f.type ≡ 2 = eqb-true _ _ h in
    let p = parted 2 (num s.algorithm) (num t.algorithm) f fs h all.algorithm in
    let a = num_some t.algorithm p.n p.is in
    let spelled : IsLenEnc f.value (number_of a.0) [] = subst (λ (k : ℕ). IsLenEnc f.value k []) a.2 p.spelled in
    record {
      u = record s { algorithm = Some a.0 };
      adds = as_type s (record s { algorithm = Some a.0 }) f 2 two (algorithm_added s f.value a.0 (num_none s.algorithm p.none) spelled);
      all = record {
        size = unpassed 1 s.payload_size t.payload_size f fs (rw two refl) all.size;
        algorithm = (p.others, ap num a.1);
        uncompressed = unpassed 3 s.uncompressed_size t.uncompressed_size f fs (rw two refl) all.uncompressed;
      };
    }

steps_uncompressed : (s t : Stated) (f : Field) (fs : List Field) → eqb f.type 3 ≡ true → JoinAll s t (f ∷ fs) → Stepped s t f fs
steps_uncompressed s t f fs h all =
    let three : f.type ≡ 3 = eqb-true _ _ h in
    let p = parted 3 s.uncompressed_size t.uncompressed_size f fs h all.uncompressed in
    record {
      u = record s { uncompressed_size = Some p.n };
      adds = as_type s (record s { uncompressed_size = Some p.n }) f 3 three (uncompressed_added s f.value p.n p.none p.spelled);
      all = record {
        size = unpassed 1 s.payload_size t.payload_size f fs (rw three refl) all.size;
        algorithm = unpassed 2 (num s.algorithm) (num t.algorithm) f fs (rw three refl) all.algorithm;
        uncompressed = (p.others, p.is);
      };
    }

steps_other : (s t : Stated) (f : Field) (fs : List Field) → eqb f.type 1 ≡ false → eqb f.type 2 ≡ false → eqb f.type 3 ≡ false → JoinAll s t (f ∷ fs) → Stepped s t f fs
steps_other s t f fs a b d all = record {
  u = s;
  adds = other_added f.type f.value s a b d;
  all = record {
    size = unpassed 1 s.payload_size t.payload_size f fs a all.size;
    algorithm = unpassed 2 (num s.algorithm) (num t.algorithm) f fs b all.algorithm;
    uncompressed = unpassed 3 s.uncompressed_size t.uncompressed_size f fs d all.uncompressed;
  };
}

steps_by : (a b d : Bool) (s t : Stated) (f : Field) (fs : List Field) → eqb f.type 1 ≡ a → eqb f.type 2 ≡ b → eqb f.type 3 ≡ d → JoinAll s t (f ∷ fs) → Stepped s t f fs
steps_by true b d s t f fs ha hb hd all = steps_size s t f fs ha all
steps_by false true d s t f fs ha hb hd all = steps_algorithm s t f fs hb all
steps_by false false true s t f fs ha hb hd all = steps_uncompressed s t f fs hd all
steps_by false false false s t f fs ha hb hd all = steps_other s t f fs ha hb hd all

joined_end : (type : ℕ) (given got : Option ℕ) → Joins type given [] got → given ≡ got
joined_end type (Some n) got h = sym h.1
joined_end type None None h = refl
joined_end type None (Some n) h = let bad : [] ≡ h.0 ∷ [] = h.1 in absurd cc

number_one : (a b : TransactionPayloadCompressionType) → number_of a ≡ number_of b → a ≡ b
number_one kinds.ZSTD kinds.ZSTD e = refl
number_one kinds.NONE kinds.NONE e = refl
number_one kinds.ZSTD kinds.NONE e = absurd (omega arith)
number_one kinds.NONE kinds.ZSTD e = absurd (omega arith)

num_one : (a b : Option TransactionPayloadCompressionType) → num a ≡ num b → a ≡ b
num_one None None e = refl
num_one None (Some b) e = absurd cc
num_one (Some a) None e = absurd cc
num_one (Some a) (Some b) e = let same : number_of a ≡ number_of b = cc in ap Some (number_one a b same)

all_end : (s t : Stated) → JoinAll s t [] → s ≡ t
all_end s t all =
    let a : s.payload_size ≡ t.payload_size = joined_end 1 s.payload_size t.payload_size all.size in
    let b : s.algorithm ≡ t.algorithm = num_one s.algorithm t.algorithm (joined_end 2 (num s.algorithm) (num t.algorithm) all.algorithm) in
    let d : s.uncompressed_size ≡ t.uncompressed_size = joined_end 3 s.uncompressed_size t.uncompressed_size all.uncompressed in
    ap (λ (x : Option ℕ). record s { payload_size = x }) a
    ∙ ap (λ (x : Option TransactionPayloadCompressionType). record s { payload_size = t.payload_size; algorithm = x }) b
    ∙ ap (λ (x : Option ℕ). record t { uncompressed_size = x }) d

fields_complete : (fs : List Field) (n : ℕ) (s t : Stated) (bytes rest : List ℕ) → AreFields bytes fs rest → JoinAll s t fs → length fs < n → fields n s bytes ≡ Ok (t, rest)
fields_complete fs zero s t bytes rest are all few = absurd (omega arith)
fields_complete [] (suc n) s t bytes rest are all few =
    subst (λ (u : Stated). fields (suc n) s bytes ≡ Ok (u, rest)) (all_end s t all) (fields_end n s bytes s rest (end_complete s bytes rest are))
fields_complete (f ∷ fs) (suc n) s t bytes rest are all few =
    let next = steps_by (eqb f.type 1) (eqb f.type 2) (eqb f.type 3) s t f fs refl refl refl all in
    let others = are.3 in
    fields_more n s bytes next.u others (field_complete s next.u f bytes are.1 others are.0 are.2 are.4 next.adds)
    ∙ fields_complete fs n next.u t others rest are.5 next.all (omega arith)

fewer : (fs : List Field) (bytes rest : List ℕ) → AreFields bytes fs rest → length fs < length bytes
fewer [] bytes rest h = let long = lenenc_long bytes 0 rest h in omega arith
fewer (f ∷ fs) bytes rest h =
    let one = lenenc_long bytes f.type h.1 h.2 in
    let two = lenenc_long h.1 (length f.value) (f.value ++ h.3) h.4 in
    let three = fewer fs h.3 rest h.5 in
    omega (arith, length-append f.value h.3)

-- ---- whole data

record Finished (size : Option ℕ) (algorithm : Option TransactionPayloadCompressionType) (uncompressed : Option ℕ) (rest : List ℕ) (event : Payload) : Type 0 where
  pub size_is : size ≡ Some (length event.payload)
  pub algorithm_is : algorithm ≡ Some event.algorithm
  pub uncompressed_is : uncompressed ≡ event.uncompressed_size
  pub payload_is : rest ≡ event.payload

finished_sound : (size : Option ℕ) (algorithm : Option TransactionPayloadCompressionType) (uncompressed : Option ℕ) (rest : List ℕ) (event : Payload) → finished size algorithm uncompressed rest ≡ Ok event → Finished size algorithm uncompressed rest event
finished_sound None algorithm uncompressed rest event e = absurd cc
finished_sound (Some size) None uncompressed rest event e = absurd cc
finished_sound (Some size) (Some algorithm) uncompressed rest event e =
    let g = allowed_if (eqb size (length rest)) errors.PayloadSize (Ok (record { algorithm = algorithm; uncompressed_size = uncompressed; payload = rest })) event e in
    let is : ◌≡◌ {A = Payload} (record { algorithm = algorithm; uncompressed_size = uncompressed; payload = rest }) event = cc in
    subst (λ (x : Payload). Finished (Some size) (Some algorithm) uncompressed rest x) is (record { size_is = ap Some (eqb-true _ _ g.0); algorithm_is = refl; uncompressed_is = refl; payload_is = refl })

pub data_sound : (bytes : List ℕ) (event : Payload) → IsBytes bytes → payload_event bytes ≡ Ok event → IsPayloadEvent bytes event
unfolding payload_event
data_sound bytes event fits e =
    let p = step_ok (fields (length bytes) nothing bytes) (λ (found : Stated × List ℕ). finished found.0.payload_size found.0.algorithm found.0.uncompressed_size found.1) event e in
    let t = p.0.0 in
    let f = finished_sound t.payload_size t.algorithm t.uncompressed_size p.0.1 event p.2 in
    let read = fields_sound (length bytes) nothing t bytes p.0.1 fits p.1 in
    record {
      fields = read.0;
      spelled = subst (λ (r : List ℕ). AreFields bytes read.0 r) f.payload_is read.1;
      payload_size = subst (λ (o : Option ℕ). States 1 read.0 o) f.size_is read.2.size;
      algorithm = subst (λ (o : Option ℕ). States 2 read.0 o) (ap num f.algorithm_is) read.2.algorithm;
      uncompressed_size = subst (λ (o : Option ℕ). States 3 read.0 o) f.uncompressed_is read.2.uncompressed;
    }

pub data_complete : (bytes : List ℕ) (event : Payload) → IsPayloadEvent bytes event → payload_event bytes ≡ Ok event
unfolding payload_event
data_complete bytes event h =
    let t : Stated = record { payload_size = Some (length event.payload); algorithm = Some event.algorithm; uncompressed_size = event.uncompressed_size } in
    let e : fields (length bytes) nothing bytes ≡ Ok (t, event.payload) =
    fields_complete h.fields (length bytes) nothing t bytes event.payload h.spelled (record { size = h.payload_size; algorithm = h.algorithm; uncompressed = h.uncompressed_size }) (fewer h.fields bytes event.payload h.spelled) in
    let whole : eqb (length event.payload) (length event.payload) ≡ true = eq-eqb _ _ refl in
    rw (e, whole) refl
