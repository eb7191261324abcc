-- Writing that ends at an index, in terms of writing that begins at one.
use Rattle.std.proofs.Common.{◌≡◌, ℕ, ◌+◌, ◌-◌, ◌≤◌, List, ◌++◌, length, take, drop, refl, ap, sym, ◌∙◌, arith, length-append, length-drop, length-take-le, take-add, take-take, drop_at, take_at, take-append-drop}
use Rattle.json.specs.Filled.{Placed}

-- The digits end at `end`, and no other byte changes.
pub ending_at : (old new digits : List ℕ) (start end : ℕ) → start + length digits ≡ end → end ≤ length old
    → drop start new ≡ digits ++ drop end old → take start new ≡ take start old → Placed old new start digits end
ending_at old new digits start end long fits written before =
    let front : length (take start old) ≡ start = length-take-le start old (omega arith) in
    let behind : length (drop end old) ≡ length old - end = length-drop end old in
    let whole : take start old ++ (digits ++ drop end old) ≡ new = (λ i. sym before i ++ sym written i) ∙ take-append-drop start new in
    record {
      bytes = ap (λ n. take n new) (sym long) ∙ take-add start (length digits) new ∙ (λ i. before i ++ take (length digits) (written i))
          ∙ ap (λ l. take start old ++ l) (take_at digits (drop end old) (length digits) refl);
      moved = sym long;
      len = omega (arith, front, behind, ap length whole, length-append (take start old) (digits ++ drop end old), length-append digits (drop end old));
    }

-- Only the first n bytes of a write count.
pub placed_front : {a b xs : List ℕ} {i j : ℕ} (n : ℕ) → i ≤ length a → n ≤ length xs → Placed a b i xs j → Placed a b i (take n xs) (i + n)
placed_front {a} {b} {xs} {i} {j} n within few p =
    let front = length-take-le i a within in
    record {
      bytes = sym (take-take (i + n) j b (omega (arith, p.moved))) ∙ ap (take (i + n)) p.bytes ∙ take-add i n (take i a ++ xs)
          ∙ (λ k. take_at (take i a) xs i front k ++ take n (drop_at (take i a) xs i front k));
      moved = omega (arith, length-take-le n xs few);
      len = p.len;
    }
