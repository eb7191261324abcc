-- Lemmas for loops over values.
use Rattle.std.proofs.Common.{◌+◌, List, ◌++◌, Ok, ◌≡◌, [], ◌∷◌, Err, refl, sym, ap, append_assoc, ℕ, suc, ◌-◌, ◌<◌, ◌∙◌, arith, length, get_or, drop, add-one}
use Rattle.std.proofs.lemmas.List.{append-nil, length-append}
use Rattle.std.proofs.Math.Seq.{drop-cons}
use Rattle.binlog_wire.specs.Reading.{Read, ◌>>=◌, Refusal}
use Rattle.binlog_variable_fields.specs.Repeated.{times_at, each_written}

-- ---- reading a number of values

-- The values vs, followed by the values that are read.
abbrev pub behind_values : {V : Type 0} → List V → Read (List V) → Read (List V)
behind_values vs x = x >>= λ y. Ok (vs ++ y.0, y.1)

pub one_more : {V : Type 0} (vs : List V) (v : V) (x : Read (List V)) → behind_values vs (x >>= λ b. Ok (v ∷ b.0, b.1)) ≡ behind_values (vs ++ v ∷ []) x
one_more {V} vs v (Ok x) = ap (λ (ws : List V). Ok (ws, x.1)) (sym (append_assoc vs (v ∷ []) x.0))
one_more vs v (Err d) = refl

turn : {V : Type 0} (f : List ℕ → Read V) (vs : List V) (n : ℕ) (s m : List ℕ) (v : V) → f s ≡ Ok (v, m)
    → behind_values vs (times_at (suc n) f s) ≡ behind_values (vs ++ v ∷ []) (times_at n f m)
turn f vs n s m v e = rw e (one_more vs v (times_at n f m))

-- One turn of reading k values, of which i have been read.
pub times_turn : {V : Type 0} (f : List ℕ → Read V) (whole : Read (List V)) (vs : List V) (k i : ℕ) (s m : List ℕ) (v : V) → i < k
    → whole ≡ behind_values vs (times_at (k - i) f s) → f s ≡ Ok (v, m) → whole ≡ behind_values (vs ++ v ∷ []) (times_at (k - (i + 1)) f m)
times_turn {V} f whole vs k i s m v less is e =
    let left : k - i ≡ suc (k - (i + 1)) = omega arith in
    is ∙ ap (λ (n : ℕ). behind_values vs (times_at n f s)) left ∙ turn f vs (k - (i + 1)) s m v e

pub times_end : {V : Type 0} (f : List ℕ → Read V) (whole : Read (List V)) (vs : List V) (k i : ℕ) (s : List ℕ) → k - i ≡ 0
    → whole ≡ behind_values vs (times_at (k - i) f s) → whole ≡ Ok (vs, s)
times_end {V} f whole vs k i s none is =
    is ∙ ap (λ (n : ℕ). behind_values vs (times_at n f s)) none ∙ ap (λ (ws : List V). Ok (ws, s)) (append-nil vs)

refused : {V : Type 0} (f : List ℕ → Read V) (vs : List V) (n : ℕ) (s : List ℕ) (d : Refusal) → f s ≡ Err d → behind_values vs (times_at (suc n) f s) ≡ Err d
refused f vs n s d e = rw e refl

pub times_refused : {V : Type 0} (f : List ℕ → Read V) (whole : Read (List V)) (vs : List V) (k i : ℕ) (s : List ℕ) (d : Refusal) → i < k
    → whole ≡ behind_values vs (times_at (k - i) f s) → f s ≡ Err d → whole ≡ Err d
times_refused {V} f whole vs k i s d less is e =
    let left : k - i ≡ suc (k - (i + 1)) = omega arith in
    is ∙ ap (λ (n : ℕ). behind_values vs (times_at n f s)) left ∙ refused f vs (k - (i + 1)) s d e

-- ---- writing each value

-- The values from an index on are the value at that index and the values after it.
pub drop_item : {V : Type 0} (xs : List V) (i : ℕ) (x d : V) → i < length xs → x ≡ get_or xs i d → drop i xs ≡ x ∷ drop (i + 1) xs
drop_item {V} xs i x d less is =
    drop-cons xs i d less ∙ ap (λ (y : V). y ∷ drop (suc i) xs) (sym is) ∙ ap (λ (n : ℕ). x ∷ drop n xs) (sym (add-one i))

-- One more value is written.
pub written_step : {V : Type 0} (w : V → List ℕ) (xs : List V) (i : ℕ) (x d : V) (whole before after : List ℕ) → i < length xs → x ≡ get_or xs i d
    → before ++ each_written w (drop i xs) ≡ whole → after ≡ before ++ w x → after ++ each_written w (drop (i + 1) xs) ≡ whole
written_step {V} w xs i x d whole before after less is so more =
    rw more (append_assoc before (w x) (each_written w (drop (i + 1) xs)) ∙ ap (λ (ys : List V). before ++ each_written w ys) (sym (drop_item xs i x d less is)) ∙ so)

-- The bytes that are left to write become fewer by those of the value.
pub written_left : {V : Type 0} (w : V → List ℕ) (xs : List V) (i : ℕ) (x d : V) → i < length xs → x ≡ get_or xs i d
    → length (each_written w (drop i xs)) ≡ length (w x) + length (each_written w (drop (i + 1) xs))
written_left {V} w xs i x d less is =
    ap (λ (ys : List V). length (each_written w ys)) (drop_item xs i x d less is) ∙ length-append (w x) (each_written w (drop (i + 1) xs))
