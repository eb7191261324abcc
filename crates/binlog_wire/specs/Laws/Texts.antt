-- Byte strings: of k bytes, to the end, and after a length prefix.
use Rattle.std.proofs.Common.{◌≡◌, ℕ, ◌-◌, ◌≤◌, false, ltb, List, [], ◌++◌, length, take, drop, replicate, Ok, refl, sym, subst, arith}
use Rattle.std.proofs.lemmas.Bool.{ltb-false, le-ltb}
use Rattle.std.proofs.lemmas.List.{take_at, drop_at, take-append-drop, append-nil, length-append, length-replicate, length-take, take_all}
use Rattle.binlog_wire.specs.Reading.{ends}
use Rattle.binlog_wire.specs.Fields.{IsBytes, IsNumber, number_at, IsBlock, block_at, IsRest, rest_at, IsText, text_at, padded}
use Rattle.binlog_wire.specs.Laws.{KeepsTo, IsBytes-drop, bind_ok, guard_ok}
use Rattle.binlog_wire.specs.Laws.Numbers.{keeps_number}

pub keeps_rest : KeepsTo IsRest rest_at
keeps_rest = record {
  sound = λ s x fits e.
      let same : ◌≡◌ {A = List ℕ × List ℕ} (s, []) x = cc in
      subst (λ (y : List ℕ × List ℕ). IsRest s y.0 y.1 × IsBytes y.1) same ((refl, refl), λ i. omega arith);
  complete = λ s v r h. rw (h.0, h.1) refl;
}

pub keeps_block : (k : ℕ) → KeepsTo (IsBlock k) (block_at k)
keeps_block k = record {
  sound = λ s x fits e.
      let g = guard_ok (ltb (length s) k) ends (Ok (take k s, drop k s)) x e in
      let long : k ≤ length s = ltb-false _ _ g.0 in
      let same : ◌≡◌ {A = List ℕ × List ℕ} (take k s, drop k s) x = cc in
      subst (λ (y : List ℕ × List ℕ). IsBlock k s y.0 y.1 × IsBytes y.1) same
      ((omega (arith, length-take k s), sym (take-append-drop k s)), IsBytes-drop k s fits);
  complete = λ s v r h.
      let long : ltb (length (v ++ r)) k ≡ false = le-ltb _ _ (omega (arith, length-append v r, h.0)) in
      rw (h.1, long, take_at v r k h.0, drop_at v r k h.0) refl;
}

pub keeps_text : (k : ℕ) → KeepsTo (IsText k) (text_at k)
keeps_text k = record {
  sound = λ s x fits e.
      let a = bind_ok (number_at k s) (λ n. block_at n.0 n.1) x e in
      let p = (keeps_number k).sound s a.0 fits a.1 in
      let q = (keeps_block a.0.0).sound a.0.1 x p.1 a.2 in
      ((a.0.1, subst (λ (n : ℕ). IsNumber k s n a.0.1) (sym q.0.0) p.0, q.0.1), q.1);
  complete = λ s v r h.
      rw ((keeps_number k).complete s (length v) h.0 h.1, (keeps_block (length v)).complete h.0 v r (refl, h.2)) refl;
}

-- ---- padding with zeros

-- A padded string has k bytes.
pub length-padded : (k : ℕ) (s : List ℕ) → length (padded k s) ≡ k
length-padded k s =
    let missing : ℕ = k - length (take k s) in
    omega (arith, length-append (take k s) (replicate missing 0), length-take k s, length-replicate {A = ℕ} missing 0)

-- A string of k bytes needs no padding.
pub padded_all : (k : ℕ) (s : List ℕ) → length s ≡ k → padded k s ≡ s
padded_all k s e =
    let all : take k s ≡ s = take_all k s (omega arith) in
    let none : k - length s ≡ 0 = omega arith in
    rw (all, none, append-nil s) refl
