-- Lengths of values: which prefix of some bytes is a value, and whether there is one.
use Rattle.std.proofs.Common.{◌≡◌, ◌≢◌, ℕ, zero, suc, ◌+◌, ◌-◌, ◌≤◌, ◌<◌, inl, inr, Bool, true, false, cond, List, [], ◌∷◌, ◌++◌, length, take, drop, Option, Some, None, Result, Ok, Err, All, refl, sym, ap, subst, ◌∙◌, append_assoc, arith, length-append, length-take, length-drop}
use Rattle.std.specs.List.{flat_map}
use Rattle.std.specs.Prelude.{nat_le, nat_eq}
use Rattle.std.proofs.lemmas.List.{take_all, append-nil}
use Rattle.std.proofs.lemmas.List.Concat.{flat_map-append}
use Rattle.std.proofs.lemmas.List.Elements.{All-nil, All-cons, All-head, All-tail, All-append}
use Rattle.std.proofs.lemmas.Bool.Decides.{nat_tests}
use Rattle.std.specs.Borrow.{Bor}
use Rattle.std.specs.Result.{result_ok}
use Rattle.binlog_wire.specs.declared.error.Error.{Error}
use Rattle.binlog_wire.specs.declared.error.Error.TheVariants as errors
use Rattle.binlog_wire.specs.Reading.{Refusal, ends, invalid, other_type, Read, ◌>>=◌, Refuses, Gives, result_now}
use Rattle.binlog_wire.specs.Fields.{HasNoZero, terminated_at}
use Rattle.binlog_wire.specs.Laws.{bind_ok}
use Rattle.binlog_statements.specs.declared.layout.Layout.{Layout}
use Rattle.binlog_statements.specs.declared.layout.Layout.TheVariants.{Bytes, TextAnd, TwoTexts, Names}
use Rattle.binlog_statements.specs.Layouts.{HasLength, IsCounted, Both, ended, AreNames, IsLaidOut, fixed_len, text_len, plus, behind, both_len, names_len, counted_names_len, value_len, IsWholeLen}

-- A length function agrees with the definition of the bytes, in both directions.
pub record Measures (Is : List ℕ → Type 0) (len : List ℕ → Option ℕ) : Type 0 where
  -- a counted prefix exists, and is defined so
  pub sound : (s : List ℕ) (n : ℕ) → len s ≡ Some n → (n ≤ length s) × Is (take n s)
  -- bytes that are defined so are counted, whatever follows them
  pub complete : (v r : List ℕ) → Is v → len (v ++ r) ≡ Some (length v)

pub take-length : (a r : List ℕ) → take (length a) (a ++ r) ≡ a
take-length [] r = refl
take-length (x ∷ a) r = ap (λ (t : List ℕ). x ∷ t) (take-length a r)

pub drop-length : (a r : List ℕ) → drop (length a) (a ++ r) ≡ r
drop-length [] r = refl
drop-length (x ∷ a) r = drop-length a r

-- ---- a fixed number of bytes, and a text after its length

chosen : (b : Bool) (m n : ℕ) → cond b (Some m) None ≡ Some n → (b ≡ true) × (m ≡ n)
chosen true m n e = (refl, cc)
chosen false m n e = absurd cc

le_true : (a b : ℕ) → nat_le a b ≡ true → a ≤ b
le_true a b e = grind (arith, nat_tests)

true_le : (a b : ℕ) → a ≤ b → nat_le a b ≡ true
true_le a b h = grind (arith, nat_tests)

pub measures_fixed : (k : ℕ) → Measures (HasLength k) (fixed_len k)
measures_fixed k = record {
  sound = λ s n e.
      let c = chosen (nat_le k (length s)) k n e in
      let enough : k ≤ length s = le_true k (length s) c.0 in
      (omega (arith, enough, c.1), omega (arith, length-take n s, enough, c.1));
  complete = λ v r h.
      let enough : nat_le k (length (v ++ r)) ≡ true = true_le k (length (v ++ r)) (omega (arith, length-append v r, h)) in
      rw enough (ap (λ (n : ℕ). Some n) (sym h));
}

pub measures_text : Measures IsCounted text_len
measures_text = record {
  sound = text_sound;
  complete = λ v r h. rw h.1 (text_complete h.0 r);
} where
  text_sound : (s : List ℕ) (n : ℕ) → text_len s ≡ Some n → (n ≤ length s) × IsCounted (take n s)
  text_sound [] n e = absurd cc
  text_sound (k ∷ s) n e =
      let c = chosen (nat_le k (length s)) (suc k) n e in
      let enough : k ≤ length s = le_true k (length s) c.0 in
      let is : length (take k s) ≡ k = omega (arith, length-take k s, enough) in
      subst (λ (m : ℕ). (m ≤ suc (length s)) × IsCounted (take m (k ∷ s))) c.1
      (omega (arith, enough), (take k s, ap (λ (j : ℕ). j ∷ take k s) (sym is)))

  text_complete : (text r : List ℕ) → text_len ((length text ∷ text) ++ r) ≡ Some (suc (length text))
  text_complete text r =
      let enough : nat_le (length text) (length (text ++ r)) ≡ true = true_le (length text) (length (text ++ r)) (omega (arith, length-append text r)) in
      rw enough refl

-- ---- one part and then another

plus_some : (n : ℕ) (o : Option ℕ) (k : ℕ) → plus n o ≡ Some k → (m : ℕ) × (o ≡ Some m) × (n + m ≡ k)
plus_some n None k e = absurd cc
plus_some n (Some m) k e = (m, refl, cc)

behind_some : (g : List ℕ → Option ℕ) (s : List ℕ) (o : Option ℕ) (k : ℕ) → behind g s o ≡ Some k
    → (n : ℕ) × (m : ℕ) × (o ≡ Some n) × (g (drop n s) ≡ Some m) × (n + m ≡ k)
behind_some g s None k e = absurd cc
behind_some g s (Some n) k e =
    let p = plus_some n (g (drop n s)) k e in
    (n, p.0, refl, p.1, p.2)

take_nil : (k : ℕ) → take {A = ℕ} k [] ≡ []
take_nil zero = refl
take_nil (suc k) = refl

take_more : (n m : ℕ) (s : List ℕ) → take (n + m) s ≡ take n s ++ take m (drop n s)
take_more zero m s = ap (λ (k : ℕ). take k s) (omega arith)
take_more (suc n) m [] = take_nil (suc n + m) ∙ sym (take_nil m)
take_more (suc n) m (x ∷ s) =
    let e : suc n + m ≡ suc (n + m) = omega arith in
    ap (λ (k : ℕ). take k (x ∷ s)) e ∙ ap (λ (t : List ℕ). x ∷ t) (take_more n m s)

pub measures_both : {F G : List ℕ → Type 0} {f g : List ℕ → Option ℕ} → Measures F f → Measures G g → Measures (Both F G) (both_len f g)
measures_both {F} {G} {f} {g} first second = record {
  sound = λ s k e.
      let b = behind_some g s (f s) k e in
      let a = first.sound s b.0 b.2 in
      let c = second.sound (drop b.0 s) b.1 b.3 in
      subst (λ (n : ℕ). (n ≤ length s) × Both F G (take n s)) b.4
      (omega (arith, a.0, c.0, length-drop b.0 s), (take b.0 s, take b.1 (drop b.0 s), take_more b.0 b.1 s, a.1, c.1));
  complete = λ v r h.
      let one : f (h.0 ++ (h.1 ++ r)) ≡ Some (length h.0) = first.complete h.0 (h.1 ++ r) h.3 in
      let two : g (h.1 ++ r) ≡ Some (length h.1) = second.complete h.1 r h.4 in
      rw (h.2, append_assoc h.0 h.1 r, one, drop-length h.0 (h.1 ++ r), two, length-append h.0 h.1) refl;
}

-- ---- names

-- how the count and the bytes of the names are related
pub record HasNames (count : ℕ) (s : List ℕ) (names : List (List ℕ)) : Type 0 where
  pub counted : length names ≡ count
  pub is : s ≡ flat_map ended names
  pub whole : All HasNoZero names

plus_plus : (n m : ℕ) (o : Option ℕ) → plus n (plus m o) ≡ plus (n + m) o
plus_plus n m None = refl
plus_plus n m (Some k) = ap (λ (j : ℕ). Some j) (omega arith)

-- counting continues after a name
one_name : (name t : List ℕ) (n : ℕ) → HasNoZero name → names_len (suc n) (name ++ (0 ∷ t)) ≡ plus (suc (length name)) (names_len n t)
one_name [] t n whole = refl
one_name (zero ∷ name) t n whole = absurd whole
one_name (suc b ∷ name) t n whole =
    ap (plus 1) (one_name name t n whole)
    ∙ plus_plus 1 (suc (length name)) (names_len n t)
    ∙ ap (λ (k : ℕ). plus k (names_len n t)) (omega arith)

pub names_complete : (names : List (List ℕ)) (r : List ℕ) → All HasNoZero names
    → names_len (length names) (flat_map ended names ++ r) ≡ Some (length (flat_map ended names))
names_complete [] r whole = refl
names_complete (name ∷ names) r whole =
    let others : List ℕ = flat_map ended names in
    let first : HasNoZero name = All-head HasNoZero name names whole in
    let ih = names_complete names r (All-tail HasNoZero name names whole) in
    let moved : (ended name ++ others) ++ r ≡ name ++ (0 ∷ (others ++ r)) = append_assoc (ended name) others r ∙ append_assoc name (0 ∷ []) (others ++ r) in
    let long : suc (length name) + length others ≡ length (ended name ++ others) = omega (arith, length-append (ended name) others, length-append name (0 ∷ [])) in
    ap (names_len (suc (length names))) moved
    ∙ one_name name (others ++ r) (length names) first
    ∙ ap (plus (suc (length name))) ih
    ∙ ap (λ (k : ℕ). Some k) long

-- one more byte before the first name
longer : (b : ℕ) (count : ℕ) (s : List ℕ) (names : List (List ℕ)) → HasNames (suc count) s names
    → (others : List (List ℕ)) × HasNames (suc count) (suc b ∷ s) others
longer b count s [] h = absurd (omega (arith, h.counted))
longer b count s (name ∷ names) h = (
  (suc b ∷ name) ∷ names,
  record {
    counted = h.counted;
    is = ap (λ (t : List ℕ). suc b ∷ t) h.is;
    whole = All-cons HasNoZero (suc b ∷ name) names
        (All-head HasNoZero name names h.whole)
        (All-tail HasNoZero name names h.whole);
  },
)

-- an empty name first
one_more : (count : ℕ) (s : List ℕ) (names : List (List ℕ)) → HasNames count s names → HasNames (suc count) (0 ∷ s) ([] ∷ names)
one_more count s names h = record {
  counted = ap (λ (k : ℕ). suc k) h.counted;
  is = ap (λ (t : List ℕ). 0 ∷ t) h.is;
  whole = All-cons HasNoZero [] names tt h.whole;
}

abbrev Named : ℕ → List ℕ → ℕ → Type 0
Named count s n = (n ≤ length s) × ((names : List (List ℕ)) × HasNames count (take n s) names)

pub names_sound : (count : ℕ) (s : List ℕ) (n : ℕ) → names_len count s ≡ Some n → Named count s n
names_sound zero s n e =
    let none : 0 ≡ n = cc in
    subst (λ (m : ℕ). Named zero s m) none (omega arith, ([], record { counted = refl; is = refl; whole = All-nil HasNoZero }))
names_sound (suc count) [] n e = absurd cc
names_sound (suc count) (zero ∷ s) n e =
    let p = plus_some 1 (names_len count s) n e in
    let ih = names_sound count s p.0 p.1 in
    let is : suc p.0 ≡ n = omega (arith, p.2) in
    subst (λ (m : ℕ). Named (suc count) (zero ∷ s) m) is
    (omega (arith, ih.0), ([] ∷ ih.1.0, one_more count (take p.0 s) ih.1.0 ih.1.1))
names_sound (suc count) (suc b ∷ s) n e =
    let p = plus_some 1 (names_len (suc count) s) n e in
    let ih = names_sound (suc count) s p.0 p.1 in
    let is : suc p.0 ≡ n = omega (arith, p.2) in
    let l = longer b count (take p.0 s) ih.1.0 ih.1.1 in
    subst (λ (m : ℕ). Named (suc count) (suc b ∷ s) m) is (omega (arith, ih.0), (l.0, l.1))

abbrev IsNameList : List ℕ → Type 0
IsNameList value = (names : List (List ℕ)) × AreNames value names

eq_true : (a b : ℕ) → nat_eq a b ≡ true → a ≡ b
eq_true a b e = grind (arith, nat_tests)

eq_false : (a b : ℕ) → nat_eq a b ≡ false → a ≢ b
eq_false a b e same = grind (arith, nat_tests)

not_eq : (a b : ℕ) → a ≢ b → nat_eq a b ≡ false
not_eq a b differ = grind (arith, nat_tests)

counted_sound : (k : ℕ) (s : List ℕ) (n : ℕ) (b : Bool) → nat_eq k 254 ≡ b → cond b (Some 1) (plus 1 (names_len k s)) ≡ Some n
    → (n ≤ suc (length s)) × IsNameList (take n (k ∷ s))
counted_sound k s n true is e =
    let one : 1 ≡ n = cc in
    subst (λ (m : ℕ). (m ≤ suc (length s)) × IsNameList (take m (k ∷ s))) one
    (omega arith, ([], inl (ap (λ (j : ℕ). j ∷ []) (eq_true k 254 is), refl)))
counted_sound k s n false is e =
    let p = plus_some 1 (names_len k s) n e in
    let named = names_sound k s p.0 p.1 in
    let are = named.1.1 in
    let e' : suc p.0 ≡ n = omega (arith, p.2) in
    let few : length named.1.0 ≢ 254 = λ (same : length named.1.0 ≡ 254). eq_false k 254 is (sym are.counted ∙ same) in
    let value : k ∷ take p.0 s ≡ length named.1.0 ∷ flat_map ended named.1.0 = rw (are.counted, are.is) refl in
    subst (λ (m : ℕ). (m ≤ suc (length s)) × IsNameList (take m (k ∷ s))) e'
    (omega (arith, named.0), (named.1.0, inr (few, value, are.whole)))

names_value_sound : (s : List ℕ) (n : ℕ) → counted_names_len s ≡ Some n → (n ≤ length s) × IsNameList (take n s)
names_value_sound [] n e = absurd cc
names_value_sound (k ∷ s) n e = counted_sound k s n (nat_eq k 254) refl e

names_value_complete : (v r : List ℕ) (names : List (List ℕ)) → AreNames v names → counted_names_len (v ++ r) ≡ Some (length v)
names_value_complete v r names (inl h) = rw h.0 refl
names_value_complete v r names (inr h) =
    let len : ℕ = length (flat_map ended names) in
    let all : plus 1 (names_len (length names) (flat_map ended names ++ r)) ≡ Some (suc len)
    = ap (plus 1) (names_complete names r h.2) ∙ ap (λ (k : ℕ). Some k) (omega arith) in
    let chosen_is : counted_names_len ((length names ∷ flat_map ended names) ++ r) ≡ Some (suc len)
    = ap (λ (b : Bool). cond b (Some 1) (plus 1 (names_len (length names) (flat_map ended names ++ r)))) (not_eq (length names) 254 h.0) ∙ all in
    subst (λ (w : List ℕ). counted_names_len (w ++ r) ≡ Some (length w)) (sym h.1) chosen_is

pub measures_names : Measures IsNameList counted_names_len
measures_names = record {
  sound = names_value_sound;
  complete = λ v r h. names_value_complete v r h.0 h.1;
}

-- ---- each layout

pub measures : (layout : Layout) → Measures (IsLaidOut layout) (value_len layout)
measures (Bytes k) = measures_fixed k
measures (TextAnd k) = measures_both measures_text (measures_fixed k)
measures TwoTexts = measures_both measures_text measures_text
measures Names = measures_names

-- ---- a whole value

pub counted_is_there : (layout : Layout) (s : List ℕ) (n : ℕ) → value_len layout s ≡ Some n → n ≤ length s
counted_is_there layout s n e = ((measures layout).sound s n e).0

-- a counted prefix is a whole value
pub counted_is_whole : (layout : Layout) (s : List ℕ) (n : ℕ) → value_len layout s ≡ Some n → IsWholeLen layout (take n s)
counted_is_whole layout s n e =
    let front : List ℕ = take n s in
    ap (value_len layout) (sym (append-nil front)) ∙ (measures layout).complete front [] ((measures layout).sound s n e).1

-- a whole value has its layout
pub whole_is : (layout : Layout) (s : List ℕ) → IsWholeLen layout s → IsLaidOut layout s
whole_is layout s e = subst (λ (t : List ℕ). IsLaidOut layout t) (take_all (length s) s (omega arith)) ((measures layout).sound s (length s) e).1

-- ---- a name that is read

-- a name that was read is at the start, with its terminator
pub name_is : (s : List ℕ) (x : List ℕ × List ℕ) → terminated_at s ≡ Ok x → HasNoZero x.0 × (s ≡ x.0 ++ (0 ∷ x.1))
name_is [] x e = absurd cc
name_is (zero ∷ s) x e =
    let same : ◌≡◌ {A = List ℕ × List ℕ} ([], s) x = cc in
    subst (λ (y : List ℕ × List ℕ). HasNoZero y.0 × (0 ∷ s ≡ y.0 ++ (0 ∷ y.1))) same (tt, refl)
name_is (suc b ∷ s) x e =
    let a = bind_ok (terminated_at s) (λ y. Ok (suc b ∷ y.0, y.1)) x e in
    let p = name_is s a.0 a.1 in
    let same : ◌≡◌ {A = List ℕ × List ℕ} (suc b ∷ a.0.0, a.0.1) x = cc in
    subst (λ (y : List ℕ × List ℕ). HasNoZero y.0 × (suc b ∷ s ≡ y.0 ++ (0 ∷ y.1))) same (p.0, ap (λ (t : List ℕ). suc b ∷ t) p.1)

-- if a name is read, counting continues after it
pub name_counts : (s : List ℕ) (x : List ℕ × List ℕ) (n : ℕ) → terminated_at s ≡ Ok x
    → (names_len (suc n) s ≡ plus (length s - length x.1) (names_len n x.1)) × (suc (length x.1) ≤ length s)
name_counts s x n e =
    let is = name_is s x e in
    let long : length s ≡ length x.0 + suc (length x.1) = ap length is.1 ∙ length-append x.0 (0 ∷ x.1) in
    let len : suc (length x.0) ≡ length s - length x.1 = omega (arith, long) in
    (ap (names_len (suc n)) is.1 ∙ one_name x.0 x.1 n is.0 ∙ ap (λ (k : ℕ). plus k (names_len n x.1)) len, omega (arith, long))

abbrev one_more_byte : ℕ → List ℕ × List ℕ → Read (List ℕ)
one_more_byte b y = Ok (suc b ∷ y.0, y.1)

refused_behind : (b : ℕ) (r : Read (List ℕ)) (why : Refusal) → (r >>= one_more_byte b) ≡ Err why → (other : Refusal) × (r ≡ Err other)
refused_behind b (Ok y) why e = absurd cc
refused_behind b (Err other) why e = (other, refl)

-- if none is read, there aren't as many names
pub none_counts : (s : List ℕ) (why : Refusal) (n : ℕ) → terminated_at s ≡ Err why → names_len (suc n) s ≡ None
none_counts [] why n e = refl
none_counts (zero ∷ s) why n e = absurd cc
none_counts (suc b ∷ s) why n e =
    let r = refused_behind b (terminated_at s) why e in
    ap (plus 1) (none_counts s r.0 n r.1)

-- a reading that allocates nothing fails exactly where its call did
refused_name : (e : Error) (s : List ℕ) (n : ℕ) → Refuses ⊥ e (terminated_at s) → names_len (suc n) s ≡ None
refused_name errors.EndOfBody s n h = none_counts s ends n h
refused_name (errors.InvalidData why) s n h = none_counts s (invalid why) n h
refused_name (errors.WrongEventType number) s n h = none_counts s (other_type number) n h
refused_name _ s n h = absurd h

-- if names are left to count, the next one isn't refused
pub none_refused : (e : Error) (s : List ℕ) (left k : ℕ) → Refuses ⊥ e (terminated_at s) → names_len left s ≡ Some k → 0 < left → ⊥
none_refused e s zero k refused is more = omega (arith, more)
none_refused e s (suc left) k refused is more =
    let none : names_len (suc left) s ≡ None = refused_name e s left refused in
    cc

-- the names still to count, with those counted
abbrev pub Counts : ℕ → List ℕ → ℕ → List ℕ → Type 0
Counts count bytes left unread = names_len count bytes ≡ plus (length bytes - length unread) (names_len left unread)

-- if a name can't be read, there aren't as many names
pub refused_counts : (count left : ℕ) (bytes unread new : List ℕ) (r : Result (Bor (List ℕ)) Error)
    → Gives ⊥ new (result_now r) (terminated_at unread) → result_ok r ≡ None → Counts count bytes left unread → 0 < left → None ≡ names_len count bytes
refused_counts count zero bytes unread new r read none same more = absurd (omega (arith, more))
refused_counts count (suc left) bytes unread new (Ok x) read none same more = absurd cc
refused_counts count (suc left) bytes unread new (Err e) read none same more =
    sym (same ∙ ap (plus (length bytes - length unread)) (refused_name e unread left read))

-- if a name was read, one fewer is left
pub read_counts : (count left : ℕ) (bytes unread new : List ℕ) (r : Result (Bor (List ℕ)) Error) (x : Bor (List ℕ))
    → Gives ⊥ new (result_now r) (terminated_at unread) → result_ok r ≡ Some x → length unread ≤ length bytes → Counts count bytes left unread → 0 < left
    → (length new ≤ length bytes) × Counts count bytes (left - 1) new
read_counts count zero bytes unread new r x read some long same more = absurd (omega (arith, more))
read_counts count (suc left) bytes unread new (Err e) x read some long same more = absurd cc
read_counts count (suc left) bytes unread new (Ok y) x read some long same more =
    let counts = name_counts unread (y.now, new) left read in
    let k : ℕ = length bytes - length unread in
    let j : ℕ = length unread - length new in
    let sum : k + j ≡ length bytes - length new = omega (arith, counts.1, long) in
    let less : left ≡ suc left - 1 = omega arith in
    let step : names_len count bytes ≡ plus (length bytes - length new) (names_len left new)
    = same ∙ ap (plus k) counts.0 ∙ plus_plus k j (names_len left new) ∙ ap (λ (i : ℕ). plus i (names_len left new)) sum in
    (omega (arith, counts.1, long), subst (λ (n : ℕ). Counts count bytes n new) less step)

-- ---- names that are read

-- the names that were read, and those that are left
pub record ReadsNames (head : ℕ) (rest : List ℕ) (done : List (List ℕ)) (left : ℕ) (unread : List ℕ) : Type 0 where
  pub counted : length done + left ≡ head
  pub bytes : rest ≡ flat_map ended done ++ unread
  pub whole : All HasNoZero done
  pub len : names_len left unread ≡ Some (length unread)

pub names_step : (head : ℕ) (rest : List ℕ) (done after : List (List ℕ)) (left : ℕ) (unread new name : List ℕ)
    → terminated_at unread ≡ Ok (name, new) → after ≡ done ++ name ∷ [] → ReadsNames head rest done left unread → 0 < left → ReadsNames head rest after (left - 1) new
names_step head rest done after zero unread new name read is h more = absurd (omega (arith, more))
names_step head rest done after (suc left) unread new name read is h more =
    let stands = name_is unread (name, new) read in
    let counts = name_counts unread (name, new) left read in
    let less : left ≡ suc left - 1 = omega arith in
    let p = plus_some (length unread - length new) (names_len left new) (length unread) (sym counts.0 ∙ h.len) in
    let m : p.0 ≡ length new = omega (arith, p.2, counts.1) in
    let one : flat_map ended (done ++ name ∷ []) ≡ flat_map ended done ++ (ended name ++ []) = flat_map-append ended done (name ∷ []) in
    let pieces : flat_map ended (done ++ name ∷ []) ++ new ≡ flat_map ended done ++ (name ++ (0 ∷ new))
    = ap (λ (t : List ℕ). t ++ new) (one ∙ ap (λ (t : List ℕ). flat_map ended done ++ t) (append-nil (ended name)))
    ∙ append_assoc (flat_map ended done) (ended name) new
    ∙ ap (λ (t : List ℕ). flat_map ended done ++ t) (append_assoc name (0 ∷ []) new) in
    subst (λ (k : ℕ). ReadsNames head rest after k new) less
    (subst (λ (ds : List (List ℕ)). ReadsNames head rest ds left new) (sym is) (record {
      counted = omega (arith, h.counted, length-append {A = List ℕ} done (name ∷ []));
      bytes = h.bytes ∙ ap (λ (t : List ℕ). flat_map ended done ++ t) stands.1 ∙ sym pieces;
      whole = All-append HasNoZero done (name ∷ []) h.whole (All-cons HasNoZero name [] stands.0 (All-nil HasNoZero));
      len = p.1 ∙ ap (λ (k : ℕ). Some k) m;
    }))
