-- Lemmas for a loop that reads values up to an end.
use Rattle.std.proofs.Common.{◌≡◌, ℕ, zero, suc, ◌≤◌, Bool, true, false, cond, List, [], ◌∷◌, ◌++◌, length, Ok, Err, refl, sym, ap, ◌∙◌, arith}
use Rattle.std.proofs.lemmas.List.{append-nil, nil_from_length}
use Rattle.binlog_wire.specs.Reading.{Read, Refusal, ◌>>=◌}
use Rattle.binlog_wire.specs.Fields.{IsBytes}
use Rattle.binlog_wire.specs.Formats.{anywhere, Format}
use Rattle.binlog_variable_fields.specs.Within.{IsEnd, until_in, until_at}
use Rattle.binlog_variable_fields.specs.Laws.RepeatedLoops.{behind_values, one_more}

module _ {V : Type 0} (f : Format anywhere V) (End : List ℕ → Type 0) (test : List ℕ → Bool) (law : IsEnd f End test) where
  at_nil : (k : ℕ) (s : List ℕ) → length s ≤ 0 → until_in k test f.reads s ≡ Ok ([], [])
  at_nil zero s le = let e : s ≡ [] = nil_from_length s (omega arith) in rw (e, law.holds [] law.nothing) refl
  at_nil (suc k) s le = let e : s ≡ [] = nil_from_length s (omega arith) in rw (e, law.holds [] law.nothing) refl

  -- A value takes at least one byte.
  pub shorter : (s : List ℕ) (a : V × List ℕ) → IsBytes s → f.reads s ≡ Ok a → suc (length a.1) ≤ length s
  shorter s a fits e = let p = f.keeps.sound s a fits e in omega (arith, f.long s a.0 a.1 p.0, law.moves)

  -- The result of reading one value and then the remaining ones.
  abbrev pub turn : ℕ → V × List ℕ → Read (List V)
  turn k a = until_in k test f.reads a.1 >>= λ b. Ok (a.0 ∷ b.0, b.1)

  -- The results agree from what one value leaves.
  same_from : (s : List ℕ) → IsBytes s → (j k l : ℕ) → length s ≤ suc l
      → ((t : List ℕ) → IsBytes t → length t ≤ l → until_in j test f.reads t ≡ until_in k test f.reads t)
      → (x : Read V) → f.reads s ≡ x → (x >>= turn j) ≡ (x >>= turn k)
  same_from s fits j k l le ih (Ok a) e =
      let left : IsBytes a.1 = (f.keeps.sound s a fits e).1 in
      let same : until_in j test f.reads a.1 ≡ until_in k test f.reads a.1 = ih a.1 left (omega (arith, shorter s a fits e)) in
      rw same refl
  same_from s fits j k l le ih (Err d) e = refl

  -- The result doesn't depend on the bound on steps, where the bound is at least the number of bytes.
  enough_steps : (l j k : ℕ) (s : List ℕ) → IsBytes s → length s ≤ l → l ≤ j → l ≤ k → until_in j test f.reads s ≡ until_in k test f.reads s
  enough_steps zero j k s fits le lj lk = at_nil j s le ∙ sym (at_nil k s le)
  enough_steps (suc l) zero k s fits le lj lk = absurd (omega arith)
  enough_steps (suc l) (suc j) zero s fits le lj lk = absurd (omega arith)
  enough_steps (suc l) (suc j) (suc k) s fits le lj lk =
      ap (λ (x : Read (List V)). cond (test s) (Ok ([], [])) x)
      (same_from s fits j k l le (λ t bytes less. enough_steps l j k t bytes less (omega arith) (omega arith)) (f.reads s) refl)

  -- One turn of the loop: the value v, and then the remaining ones.
  until_turn : (s : List ℕ) → IsBytes s → (v : V) (m : List ℕ) → test s ≡ false → f.reads s ≡ Ok (v, m)
      → until_at test f.reads s ≡ turn (length m) (v, m)
  until_turn s fits v m goes e =
      let left : IsBytes m = (f.keeps.sound s (v, m) fits e).1 in
      let less : suc (length m) ≤ length s = shorter s (v, m) fits e in
      let steps : until_at test f.reads s ≡ until_in (suc (length s)) test f.reads s =
      enough_steps (length s) (length s) (suc (length s)) s fits (omega arith) (omega arith) (omega arith) in
      let inner : until_in (length s) test f.reads m ≡ until_at test f.reads m =
      enough_steps (length m) (length s) (length m) m left (omega arith) (omega arith) (omega arith) in
      steps ∙ rw (goes, e, inner) refl

  -- The values so far, followed by the remaining ones: one value more.
  pub until_more : (whole : Read (List V)) (vs : List V) (s : List ℕ) → IsBytes s → (v : V) (m : List ℕ) → test s ≡ false → f.reads s ≡ Ok (v, m)
      → whole ≡ behind_values vs (until_at test f.reads s) → whole ≡ behind_values (vs ++ v ∷ []) (until_at test f.reads m)
  until_more whole vs s fits v m goes e is =
      is ∙ ap (behind_values vs) (until_turn s fits v m goes e) ∙ one_more vs v (until_at test f.reads m)

  -- The last turn.
  until_ends : (k : ℕ) (s : List ℕ) → test s ≡ true → until_in k test f.reads s ≡ Ok ([], [])
  until_ends zero s h = rw h refl
  until_ends (suc k) s h = rw h refl

  pub until_stops : (whole : Read (List V)) (vs : List V) (s : List ℕ) → test s ≡ true
      → whole ≡ behind_values vs (until_at test f.reads s) → whole ≡ Ok (vs, [])
  until_stops whole vs s h is = is ∙ ap (behind_values vs) (until_ends (length s) s h) ∙ ap (λ (ws : List V). Ok (ws, [])) (append-nil vs)

  -- A value is refused.
  refused : (vs : List V) (s : List ℕ) (d : Refusal) → test s ≡ false → f.reads s ≡ Err d → behind_values vs (until_at test f.reads s) ≡ Err d
  refused vs [] d goes e = absurd (let no_end : true ≡ false = sym (law.holds [] law.nothing) ∙ goes in cc)
  refused vs (b ∷ s) d goes e = rw (goes, e) refl

  pub until_refused : (whole : Read (List V)) (vs : List V) (s : List ℕ) (d : Refusal) → test s ≡ false → f.reads s ≡ Err d
      → whole ≡ behind_values vs (until_at test f.reads s) → whole ≡ Err d
  until_refused whole vs s d goes e is = is ∙ refused vs s d goes e
