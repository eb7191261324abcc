-- Logs at the front of bytes.
use Rattle.std.proofs.Common.{◌≡◌, ◌≢◌, ℕ, ◌+◌, ◌<◌, arith, Bool, false, List, [], ◌∷◌, ◌++◌, length, map, refl, sym, ◌∙◌, ap, append_assoc, append-nil}
use Rattle.std.specs.Prelude.{◌==◌}
use Rattle.std.proofs.lemmas.Grind.{flat_map-append}
use Rattle.std.proofs.lemmas.List.{length-append, map-append, nil_from_length}
use Rattle.binlog_undo_items.specs.Logs.{joined, sizes_of, AreLogs}

-- These logs are at the front of the bytes, and their sizes at the front of all sizes.
pub record AreFirst (bytes sizes : List ℕ) (logs : List (List ℕ)) (rest left : List ℕ) : Type 0 where
  pub all : bytes ≡ joined logs ++ rest
  pub lengths : sizes ≡ sizes_of logs ++ left

pub none_first : (bytes sizes : List ℕ) → AreFirst bytes sizes [] bytes sizes
none_first bytes sizes = record { all = refl; lengths = refl }

pub one_more : (bytes sizes : List ℕ) (logs : List (List ℕ)) (log rest behind : List ℕ) (size : ℕ) (others : List ℕ) → AreFirst bytes sizes logs rest (size ∷ others) → rest ≡ log ++ behind
    → length log ≡ size → AreFirst bytes sizes (logs ++ log ∷ []) behind others
one_more bytes sizes logs log rest behind size others h split long =
    let last : joined (logs ++ log ∷ []) ≡ joined logs ++ log =
    flat_map-append (λ (one : List ℕ). one) logs (log ∷ []) ∙ ap (λ (s : List ℕ). joined logs ++ s) (append-nil log) in
    record {
      all = h.all ∙ ap (λ (s : List ℕ). joined logs ++ s) split ∙ sym (append_assoc (joined logs) log behind) ∙ ap (λ (s : List ℕ). s ++ behind) (sym last);
      lengths = h.lengths ∙ ap (λ (n : ℕ). sizes_of logs ++ n ∷ others) (sym long) ∙ sym (append_assoc (sizes_of logs) (length log ∷ []) others)
          ∙ ap (λ (s : List ℕ). s ++ others) (sym (map-append (λ (one : List ℕ). length one) logs (log ∷ [])));
    }

pub all_first : (bytes sizes : List ℕ) (logs : List (List ℕ)) (rest left : List ℕ) → AreFirst bytes sizes logs rest left → rest ≡ [] → left ≡ [] → AreLogs bytes sizes logs
all_first bytes sizes logs rest left h no_rest none =
    record {
      all = h.all ∙ ap (λ (s : List ℕ). joined logs ++ s) no_rest ∙ append-nil (joined logs);
      lengths = h.lengths ∙ ap (λ (s : List ℕ). sizes_of logs ++ s) none ∙ append-nil (sizes_of logs);
    }

-- ---- sums

abbrev total : List ℕ → ℕ
total [] = 0
total (size ∷ sizes) = size + total sizes

total_over : (xs ys : List ℕ) → total (xs ++ ys) ≡ total xs + total ys
total_over [] ys = omega arith
total_over (x ∷ xs) ys = omega (arith, total_over xs ys)

joined_length : (logs : List (List ℕ)) → length (joined logs) ≡ total (sizes_of logs)
joined_length [] = refl
joined_length (log ∷ logs) = omega (arith, length-append log (joined logs), joined_length logs)

-- Where the rest isn't as long as the sizes that are left, the bytes aren't logs of these sizes.
no_logs : (bytes sizes : List ℕ) (front : List (List ℕ)) (rest left : List ℕ) → AreFirst bytes sizes front rest left → length rest ≢ total left → (logs : List (List ℕ)) → AreLogs bytes sizes logs → ⊥
no_logs bytes sizes front rest left h differs logs are =
    let long : length bytes ≡ length (joined front) + length rest = ap length h.all ∙ length-append (joined front) rest in
    let sum : total sizes ≡ total (sizes_of front) + total left = ap total h.lengths ∙ total_over (sizes_of front) left in
    let all : length bytes ≡ total (sizes_of logs) = ap length are.all ∙ joined_length logs in
    let same : total sizes ≡ total (sizes_of logs) = ap total are.lengths in
    differs (omega (arith, long, sum, all, same, joined_length front))

total_cons : (size : ℕ) (others : List ℕ) → total (size ∷ others) ≡ size + total others
total_cons size others = refl

total_none : total [] ≡ 0
total_none = refl

-- The next log would be longer than the rest.
pub too_long : (bytes sizes : List ℕ) (front : List (List ℕ)) (rest : List ℕ) (size : ℕ) (others : List ℕ) → AreFirst bytes sizes front rest (size ∷ others) → length rest < size
    → (logs : List (List ℕ)) → AreLogs bytes sizes logs → ⊥
too_long bytes sizes front rest size others h short =
    no_logs bytes sizes front rest (size ∷ others) h (λ (same : length rest ≡ total (size ∷ others)). omega (arith, same, total_cons size others, short))

-- Bytes are left behind the last log.
pub more_bytes : (bytes sizes : List ℕ) (front : List (List ℕ)) (rest left : List ℕ) → AreFirst bytes sizes front rest left → left ≡ [] → rest ≢ [] → (logs : List (List ℕ)) → AreLogs bytes sizes logs → ⊥
more_bytes bytes sizes front rest left h none some =
    no_logs bytes sizes front rest left h (λ (same : length rest ≡ total left). some (nil_from_length rest (same ∙ ap total none ∙ total_none)))

pub some_bytes : (rest : List ℕ) (none : Bool) → none ≡ (length rest == 0) → none ≡ false → rest ≢ []
some_bytes [] none is isnt = λ _. absurd cc
some_bytes (byte ∷ rest) none is isnt = λ e. absurd cc
