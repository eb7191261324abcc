-- Values up to the end of the bytes, one at a time.
use Rattle.std.proofs.Common.{◌≡◌, ℕ, zero, suc, ◌+◌, ◌≤◌, ◌<◌, ◌++◌, true, false, List, [], ◌∷◌, length, Ok, Err, refl, sym, subst, arith}
use Rattle.std.proofs.lemmas.Bool.{eqb-true}
use Rattle.std.proofs.lemmas.List.{length-append}
use Rattle.std.specs.Prelude.{◌==◌}
use Rattle.binlog_wire.specs.declared.error.Error.{Error}
use Rattle.binlog_wire.specs.Fields.{IsBytes}
use Rattle.binlog_wire.specs.Formats.{Format, anywhere}
use Rattle.binlog_wire.specs.Laws.{bind_ok}
use Rattle.binlog_wire.specs.Reading.{Read, Refuses, ◌>>=◌}
use Rattle.binlog_variable_fields.specs.Laws.Refusing.{refused_as}
use Rattle.binlog_variable_fields.specs.Laws.RepeatedLoops.{behind_values}
use Rattle.binlog_variable_fields.specs.Laws.UntilLoops.{shorter, until_more, until_stops, until_refused}
use Rattle.binlog_variable_fields.specs.Repeated.{times_at}
use Rattle.binlog_variable_fields.specs.Within.{until_at, until_in}
use Rattle.binlog_optional_metadata.specs.Sequences.{IsCount}
use Rattle.binlog_optional_metadata.specs.ToEnd.{IsNil, is_nil, nil_is_end}

-- ---- a loop that reads the values

-- This many values have been read, and the bytes s are left.
pub record IsReadSoFar {V : Type 0} (f : Format anywhere V) (start : List ℕ) (count : ℕ) (s : List ℕ) : Type 0 where
  pub values : List V
  pub read : until_at is_nil f.reads start ≡ behind_values values (until_at is_nil f.reads s)
  pub counted : length values ≡ count
  pub within : count + length s ≤ length start
  pub bytes : IsBytes s

behind_none : {V : Type 0} (x : Read (List V)) → x ≡ behind_values [] x
behind_none (Ok x) = refl
behind_none (Err d) = refl

-- No value has been read.
pub none_so_far : {V : Type 0} (f : Format anywhere V) (start : List ℕ) → IsBytes start → IsReadSoFar f start 0 start
none_so_far f start fits = record {
  values = [];
  read = behind_none (until_at is_nil f.reads start);
  counted = refl;
  within = omega arith;
  bytes = fits;
}

some_left : (s : List ℕ) → false ≡ (length s == 0) → is_nil s ≡ false
some_left [] some = absurd cc
some_left (byte ∷ s) some = refl

none_left : (s : List ℕ) → true ≡ (length s == 0) → is_nil s ≡ true
none_left [] none = refl
none_left (byte ∷ s) none = absurd (omega (arith, eqb-true _ _ (sym none)))

-- A value takes a byte at least.
pub fewer_left : {V : Type 0} (f : Format anywhere V) → 1 ≤ f.least → (start s m : List ℕ) (count : ℕ) (v : V) → IsReadSoFar f start count s → f.reads s ≡ Ok (v, m)
    → length m < length s
fewer_left f moves start s m count v so_far read = omega (arith, shorter f IsNil is_nil (nil_is_end f moves) s (v, m) so_far.bytes read)

-- One more value is read.
pub one_so_far : {V : Type 0} (f : Format anywhere V) → 1 ≤ f.least → (start s m : List ℕ) (count : ℕ) (v : V) → false ≡ (length s == 0) → IsReadSoFar f start count s
    → f.reads s ≡ Ok (v, m) → IsReadSoFar f start (count + 1) m
one_so_far f moves start s m count v some so_far read = record {
  values = so_far.values ++ v ∷ [];
  read = until_more f IsNil is_nil (nil_is_end f moves) (until_at is_nil f.reads start) so_far.values s so_far.bytes v m (some_left s some) read so_far.read;
  counted = omega (arith, length-append so_far.values (v ∷ []), so_far.counted);
  within = omega (arith, so_far.within, fewer_left f moves start s m count v so_far read);
  bytes = (f.keeps.sound s (v, m) so_far.bytes read).1;
}

-- A value is refused.
pub refused_so_far : {V : Type 0} (f : Format anywhere V) → 1 ≤ f.least → (start s : List ℕ) (count : ℕ) (e : Error) → false ≡ (length s == 0) → IsReadSoFar f start count s
    → Refuses ⊥ e (f.reads s) → Refuses ⊥ e (until_at is_nil f.reads start)
refused_so_far f moves start s count e some so_far refused =
    refused_as ⊥ ⊥ (λ x. x) e (f.reads s) (until_at is_nil f.reads start)
    (λ d read. until_refused f IsNil is_nil (nil_is_end f moves) (until_at is_nil f.reads start) so_far.values s d (some_left s some) read so_far.read)
    refused

-- ---- the values that were read, counted

-- Values that are read up to the end are read by a reading that takes no less, as many times.
times_by : {V : Type 0} (f g : List ℕ → Read V) → ((s : List ℕ) (x : V × List ℕ) → f s ≡ Ok x → g s ≡ Ok x) → (k : ℕ) (s : List ℕ) (x : List V × List ℕ)
    → until_in k is_nil f s ≡ Ok x → times_at (length x.0) g s ≡ Ok x
times_by {V} f g takes zero [] x e =
    let is : ◌≡◌ {A = List V × List ℕ} ([], []) x = cc in
    subst (λ (y : List V × List ℕ). times_at (length y.0) g [] ≡ Ok y) is refl
times_by f g takes zero (byte ∷ s) x e = absurd cc
times_by {V} f g takes (suc k) [] x e =
    let is : ◌≡◌ {A = List V × List ℕ} ([], []) x = cc in
    subst (λ (y : List V × List ℕ). times_at (length y.0) g [] ≡ Ok y) is refl
times_by {V} f g takes (suc k) (byte ∷ s) x e =
    let a = bind_ok (f (byte ∷ s)) (λ a. until_in k is_nil f a.1 >>= λ b. Ok (a.0 ∷ b.0, b.1)) x e in
    let b = bind_ok (until_in k is_nil f a.0.1) (λ b. Ok (a.0.0 ∷ b.0, b.1)) x a.2 in
    let is : ◌≡◌ {A = List V × List ℕ} (a.0.0 ∷ b.0.0, b.0.1) x = cc in
    subst (λ (y : List V × List ℕ). times_at (length y.0) g (byte ∷ s) ≡ Ok y) is
    (rw (takes (byte ∷ s) a.0 a.1, times_by f g takes k a.0.1 b.0 b.1) refl)

-- All values up to the end have been read.
pub all_so_far : {V : Type 0} (f : Format anywhere V) → 1 ≤ f.least → (g : List ℕ → Read V) → ((s : List ℕ) (x : V × List ℕ) → f.reads s ≡ Ok x → g s ≡ Ok x)
    → (start s : List ℕ) (count : ℕ) → true ≡ (length s == 0) → IsReadSoFar f start count s
    → IsCount g start (until_at is_nil f.reads start) count
all_so_far {V} f moves g takes start s count none so_far =
    let vs : List V = so_far.values in
    let stops : until_at is_nil f.reads start ≡ Ok (vs, []) =
    until_stops f IsNil is_nil (nil_is_end f moves) (until_at is_nil f.reads start) vs s (none_left s none) so_far.read in
    let read : times_at (length vs) g start ≡ Ok (vs, []) = times_by f.reads g takes (length start) start (vs, []) stops in
    rw (← so_far.counted, read) (stops, refl)
