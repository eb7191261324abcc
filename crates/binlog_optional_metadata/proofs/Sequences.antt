-- Values in sequence, one at a time.
use Rattle.std.proofs.Common.{◌≡◌, ℕ, zero, suc, ◌+◌, ◌-◌, ◌<◌, true, List, ◌∷◌, length, Result, Ok, Err, refl, ap, ◌∙◌, arith}
use Rattle.std.specs.Prelude.{is_ok}
use Rattle.binlog_wire.specs.declared.error.Error.{Error}
use Rattle.binlog_wire.specs.Reading.{Read, Refusal, Refuses, read_as}
use Rattle.binlog_variable_fields.specs.Repeated.{times_at}
use Rattle.binlog_variable_fields.specs.Laws.Refusing.{refused_as}
use Rattle.binlog_optional_metadata.proofs.Fields.{kind_is}
use Rattle.binlog_optional_metadata.specs.Sequences.{values}

-- A value, and the values after it.
abbrev with_first : {V : Type 0} → V → Read (List V) → Read (List V)
with_first v more = read_as (λ ws. v ∷ ws) more

with_rest : {V : Type 0} (f : List ℕ → Read V) (n : ℕ) (s m : List ℕ) (v : V) → f s ≡ Ok (v, m) → times_at (suc n) f s ≡ with_first v (times_at n f m)
with_rest f n s m v read = rw read refl

-- ---- iteration

values_behind : {V : Type 0} (v : V) (more : Read (List V)) → is_ok (with_first v more) ≡ true → values (with_first v more) ≡ v ∷ values more
values_behind v (Ok b) h = refl
values_behind v (Err d) h = absurd cc

whole_behind : {V : Type 0} (v : V) (more : Read (List V)) → is_ok (with_first v more) ≡ true → is_ok more ≡ true
whole_behind v (Ok b) h = refl
whole_behind v (Err d) h = absurd cc

first_of_some : {V : Type 0} (f : List ℕ → Read V) (n : ℕ) (s m : List ℕ) (v : V) → is_ok (times_at (suc n) f s) ≡ true → f s ≡ Ok (v, m)
    → (values (times_at (suc n) f s) ≡ v ∷ values (times_at n f m)) × (is_ok (times_at n f m) ≡ true)
first_of_some {V} f n s m v whole read =
    let step = with_rest f n s m v read in
    let h : is_ok (with_first v (times_at n f m)) ≡ true = rw step at whole in
    (ap (λ (x : Read (List V)). values x) step ∙ values_behind v (times_at n f m) h, whole_behind v (times_at n f m) h)

-- The first value of a sequence that is read, and those after it.
pub first_value : {V : Type 0} (f : List ℕ → Read V) (n k : ℕ) (s m : List ℕ) (v : V) → k + 1 ≡ n → is_ok (times_at n f s) ≡ true → f s ≡ Ok (v, m)
    → values (times_at n f s) ≡ v ∷ values (times_at k f m)
first_value f zero k s m v more whole read = absurd (omega (arith, more))
first_value f (suc n) k s m v more whole read =
    let e : k ≡ n = omega (arith, more) in
    rw e (first_of_some f n s m v whole read).0

-- The values after the first are read, too.
pub others_whole : {V : Type 0} (f : List ℕ → Read V) (n k : ℕ) (s m : List ℕ) (v : V) → k + 1 ≡ n → is_ok (times_at n f s) ≡ true → f s ≡ Ok (v, m)
    → is_ok (times_at k f m) ≡ true
others_whole f zero k s m v more whole read = absurd (omega (arith, more))
others_whole f (suc n) k s m v more whole read =
    let e : k ≡ n = omega (arith, more) in
    rw e (first_of_some f n s m v whole read).1

some_refused : {V : Type 0} (f : List ℕ → Read V) (n : ℕ) (s : List ℕ) (d : Refusal) → f s ≡ Err d → is_ok (times_at (suc n) f s) ≡ true → ⊥
some_refused f n s d read whole =
    let none = rw read at whole in
    cc

-- The first value of a sequence that is read isn't refused.
pub never_refused : {V : Type 0} (f : List ℕ → Read V) (n : ℕ) (s : List ℕ) (d : Refusal) → 0 < n → f s ≡ Err d → is_ok (times_at n f s) ≡ true → ⊥
never_refused f zero s d more read whole = omega (arith, more)
never_refused f (suc n) s d more read whole = some_refused f n s d read whole

-- Nor is it refused with an error.
pub never_an_error : {V : Type 0} (f : List ℕ → Read V) (n : ℕ) (s : List ℕ) (e : Error) → 0 < n → Refuses ⊥ e (f s) → is_ok (times_at n f s) ≡ true → ⊥
never_an_error f n s e more refused whole =
    let d = kind_is e (f s) refused in
    never_refused f n s d.0 more d.1 whole

count_by : {V : Type 0} (f : List ℕ → Read V) (n : ℕ) (first : Read V) → ((s : List ℕ) → is_ok (times_at n f s) ≡ true → length (values (times_at n f s)) ≡ n)
    → (s : List ℕ) → f s ≡ first → is_ok (times_at (suc n) f s) ≡ true → length (values (times_at (suc n) f s)) ≡ suc n
count_by f n (Ok x) ih s read whole =
    let first = first_of_some f n s x.1 x.0 whole read in
    rw first.0 (ap (λ (k : ℕ). suc k) (ih x.1 first.1))
count_by f n (Err d) ih s read whole = absurd (some_refused f n s d read whole)

-- As many values are read as there are.
pub values_count : {V : Type 0} (f : List ℕ → Read V) (n : ℕ) (s : List ℕ) → is_ok (times_at n f s) ≡ true → length (values (times_at n f s)) ≡ n
values_count f zero s whole = refl
values_count f (suc n) s whole = count_by f n (f s) (λ t h. values_count f n t h) s refl whole

-- ---- reading

-- What is left after the values.
abbrev pub rest_of : {V : Type 0} → Read (List V) → Result (List ℕ) Refusal
rest_of (Ok x) = Ok x.1
rest_of (Err d) = Err d

rest_behind : {V : Type 0} (v : V) (more : Read (List V)) → rest_of (with_first v more) ≡ rest_of more
rest_behind v (Ok b) = refl
rest_behind v (Err d) = refl

-- One more of k values is read.
pub rest_turn : {V : Type 0} (f : List ℕ → Read V) (whole : Read (List V)) (k i : ℕ) (s m : List ℕ) (v : V) → i < k → f s ≡ Ok (v, m)
    → rest_of whole ≡ rest_of (times_at (k - i) f s) → rest_of whole ≡ rest_of (times_at (k - (i + 1)) f m)
rest_turn {V} f whole k i s m v less read is =
    let n : ℕ = k - (i + 1) in
    let left : k - i ≡ suc n = omega (arith, less) in
    is ∙ ap (λ (j : ℕ). rest_of (times_at j f s)) left ∙ ap (λ (x : Read (List V)). rest_of x) (with_rest f n s m v read) ∙ rest_behind v (times_at n f m)

whole_by : {V : Type 0} (whole : Read (List V)) (s : List ℕ) → rest_of whole ≡ Ok s → (whole ≡ Ok (values whole, s)) × (is_ok whole ≡ true)
whole_by (Ok x) s h =
    let left : x.1 ≡ s = cc in
    (ap (λ (r : List ℕ). Ok (x.0, r)) left, refl)
whole_by (Err d) s h = absurd cc

-- All of k values are read.
pub rest_end : {V : Type 0} (f : List ℕ → Read V) (whole : Read (List V)) (k i : ℕ) (s : List ℕ) → k - i ≡ 0
    → rest_of whole ≡ rest_of (times_at (k - i) f s) → whole ≡ Ok (values whole, s)
rest_end f whole k i s none is = (whole_by whole s (rw none at is)).0

pub whole_end : {V : Type 0} (f : List ℕ → Read V) (whole : Read (List V)) (k i : ℕ) (s : List ℕ) → k - i ≡ 0
    → rest_of whole ≡ rest_of (times_at (k - i) f s) → is_ok whole ≡ true
whole_end f whole k i s none is = (whole_by whole s (rw none at is)).1

refused_by : {V : Type 0} (whole : Read (List V)) (d : Refusal) → rest_of whole ≡ Err d → whole ≡ Err d
refused_by (Ok x) d h = absurd cc
refused_by (Err e) d h =
    let same : e ≡ d = cc in
    ap (λ (x : Refusal). Err x) same

one_refused : {V : Type 0} (f : List ℕ → Read V) (n : ℕ) (s : List ℕ) (d : Refusal) → f s ≡ Err d → rest_of (times_at (suc n) f s) ≡ Err d
one_refused f n s d read = rw read refl

refused_in : {V : Type 0} (f : List ℕ → Read V) (whole : Read (List V)) (k i : ℕ) (s : List ℕ) (d : Refusal) → i < k → f s ≡ Err d
    → rest_of whole ≡ rest_of (times_at (k - i) f s) → whole ≡ Err d
refused_in f whole k i s d less read is =
    let n : ℕ = k - (i + 1) in
    let left : k - i ≡ suc n = omega (arith, less) in
    refused_by whole d (is ∙ ap (λ (j : ℕ). rest_of (times_at j f s)) left ∙ one_refused f n s d read)

-- One of k values is refused.
pub refused_here : {V : Type 0} (f : List ℕ → Read V) (whole : Read (List V)) (k i : ℕ) (s : List ℕ) (e : Error) → i < k → Refuses ⊥ e (f s)
    → rest_of whole ≡ rest_of (times_at (k - i) f s) → Refuses ⊥ e whole
refused_here f whole k i s e less refused is = refused_as ⊥ ⊥ (λ x. x) e (f s) whole (λ d read. refused_in f whole k i s d less read is) refused
