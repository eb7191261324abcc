-- Parts of a line that are written one after the other.
use Rattle.std.proofs.Common.{◌≡◌, ℕ, zero, suc, ◌+◌, ◌-◌, ◌<◌, ◌≤◌, Bool, false, cond, eqb, codes, decimal, List, [], ◌∷◌, ◌++◌, length, take, get_or, Option, Result, Ok, Err, refl, sym, ap, subst, ◌∙◌, arith, append_assoc, append-nil}
use Rattle.std.specs.Io.KnownBytes.{Appends}
use Rattle.std.proofs.KnownBytes.{Appends-trans}
use Rattle.binlog_wire.specs.declared.error.Error.{Error}
use Rattle.binlog_wire.specs.declared.error.Error.TheVariants.{Writer}
use Rattle.std.proofs.lemmas.List.{take_all}
use Rattle.std.proofs.lemmas.Bool.Decides.{nat_tests}
use Rattle.binlog_variable_fields.specs.declared.gno_interval.GnoInterval.{GnoInterval}
use Rattle.binlog_gtids.specs.GnoSets.{AreApart}
use Rattle.binlog_ends.specs.Counts.{AppendsFront}
use Rattle.binlog_gtid_listing.specs.GroupLines.{Writes, interval_text, further_text}

-- a front of the first part is one of the whole
pub front_first : (a b : List ℕ) (old new : Option (List ℕ)) → AppendsFront old new a → AppendsFront old new (a ++ b)
front_first a b old new wrote = record {
  front = wrote.front;
  cut = wrote.cut ++ b;
  whole = ap (λ (s : List ℕ). s ++ b) wrote.whole ∙ append_assoc wrote.front wrote.cut b;
  written = wrote.written;
}

-- a front of a later part, behind a part that is written
pub front_later : (a b : List ℕ) (old mid new : Option (List ℕ)) → Appends old mid a → AppendsFront mid new b → AppendsFront old new (a ++ b)
front_later a b old mid new first wrote = record {
  front = a ++ wrote.front;
  cut = wrote.cut;
  whole = ap (λ (s : List ℕ). a ++ s) wrote.whole ∙ sym (append_assoc a wrote.front wrote.cut);
  written = Appends-trans old mid new _ _ first wrote.written;
}

-- the writer failed in the first part
pub stop : (a b : List ℕ) (old new : Option (List ℕ)) (e : Error) → (e ≡ Writer) × AppendsFront old new a → (e ≡ Writer) × AppendsFront old new (a ++ b)
stop a b old new e wrote = (wrote.0, front_first a b old new wrote.1)

-- the first part is written, and the writer failed behind it
pub behind_stop : (a b : List ℕ) (old mid new : Option (List ℕ)) (e : Error) → Appends old mid a → (e ≡ Writer) × AppendsFront mid new b → (e ≡ Writer) × AppendsFront old new (a ++ b)
behind_stop a b old mid new e first wrote = (wrote.0, front_later a b old mid new first wrote.1)

-- the first part is written, and what comes behind it
pub behind : {T : Type 0} (a b : List ℕ) (old mid new : Option (List ℕ)) (answer : Result T Error) → Appends old mid a → Writes b mid answer new → Writes (a ++ b) old answer new
behind a b old mid new (Ok x) first wrote = Appends-trans old mid new a b first wrote
behind a b old mid new (Err e) first wrote = behind_stop a b old mid new e first wrote

-- ---- intervals

-- an interval of two numbers or more
pub two_numbers : (i : GnoInterval) → (i.start ≡ i.end - 1 → ⊥) → interval_text i ≡ decimal i.start ++ (codes "-" ++ decimal (i.end - 1))
two_numbers i differ =
    let no : eqb i.start (i.end - 1) ≡ false = grind (arith, nat_tests) in
    ap (λ (b : Bool). decimal i.start ++ cond b [] (codes "-" ++ decimal (i.end - 1))) no

-- each of the intervals has a number
pub has_number : (is : List GnoInterval) (low k : ℕ) (d : GnoInterval) → AreApart low is → k < length is → (get_or is k d).start < (get_or is k d).end
has_number [] low k d apart within = absurd (omega arith)
has_number (i ∷ is) low zero d apart within = apart.1
has_number (i ∷ is) low (suc k) d apart within = has_number is i.end k d apart.3 (omega arith)

-- one more of the further intervals
pub further_more : (is : List GnoInterval) (k : ℕ) (d : GnoInterval) → k < length is → further_text (take (suc k) is) ≡ further_text (take k is) ++ (codes "," ++ interval_text (get_or is k d))
further_more [] k d within = absurd (omega arith)
further_more (i ∷ is) zero d within = ap (λ (s : List ℕ). codes "," ++ s) (append-nil (interval_text i))
further_more (i ∷ is) (suc k) d within =
    ap (λ (s : List ℕ). codes "," ++ (interval_text i ++ s)) (further_more is k d (omega arith))
    ∙ ap (λ (s : List ℕ). codes "," ++ s) (sym (append_assoc (interval_text i) (further_text (take k is)) (codes "," ++ interval_text (get_or is k d))))

-- the text of all is that of the first ones, and more
pub further_front : (is : List GnoInterval) (k : ℕ) → (more : List ℕ) × (further_text is ≡ further_text (take k is) ++ more)
further_front is zero = (further_text is, refl)
further_front [] (suc k) = ([], refl)
further_front (i ∷ is) (suc k) =
    let rest = further_front is k in (
      rest.0,
      ap (λ (s : List ℕ). codes "," ++ (interval_text i ++ s)) rest.1
          ∙ ap (λ (s : List ℕ). codes "," ++ s) (sym (append_assoc (interval_text i) (further_text (take k is)) rest.0)),
    )

module _ (first : GnoInterval) (rest : List GnoInterval) (old mid new : Option (List ℕ)) where
  -- the first interval is written, and so many of the others
  abbrev pub AreWritten : ℕ → Option (List ℕ) → Type 0
  AreWritten k now = Appends old now (interval_text first ++ further_text (take k rest))

  pub first_written : Appends old mid (interval_text first) → AreWritten 0 mid
  first_written wrote = subst (Appends old mid) (sym (append-nil (interval_text first))) wrote

  -- a comma and the next one
  pub more_written : (k : ℕ) (d : GnoInterval) (between : Option (List ℕ)) → k < length rest → AreWritten k mid → Appends mid between (codes ",") → Appends between new (interval_text (get_or rest k d))
      → AreWritten (k + 1) new
  more_written k d between within so_far comma wrote =
      let next : suc k ≡ k + 1 = omega arith in
      subst (λ (n : ℕ). AreWritten n new) next
      (subst (Appends old new)
      (append_assoc (interval_text first) (further_text (take k rest)) (codes "," ++ interval_text (get_or rest k d)) ∙ ap (λ (s : List ℕ). interval_text first ++ s) (sym (further_more rest k d within)))
      (Appends-trans old mid new _ _ so_far (Appends-trans mid between new _ _ comma wrote)))

  -- the writer failed in a front of the comma and the next one
  pub more_stop : (k : ℕ) (d : GnoInterval) (e : Error) → k < length rest → AreWritten k mid → (e ≡ Writer) × AppendsFront mid new (codes "," ++ interval_text (get_or rest k d))
      → (e ≡ Writer) × AppendsFront old new (interval_text first ++ further_text rest)
  more_stop k d e within so_far wrote =
      let all = further_front rest (suc k) in
      let whole : (interval_text first ++ further_text (take k rest)) ++ ((codes "," ++ interval_text (get_or rest k d)) ++ all.0) ≡ interval_text first ++ further_text rest =
      append_assoc (interval_text first) (further_text (take k rest)) ((codes "," ++ interval_text (get_or rest k d)) ++ all.0)
      ∙ ap (λ (s : List ℕ). interval_text first ++ s)
      (sym (append_assoc (further_text (take k rest)) (codes "," ++ interval_text (get_or rest k d)) all.0)
      ∙ ap (λ (s : List ℕ). s ++ all.0) (sym (further_more rest k d within)) ∙ sym all.1) in
      subst (λ (s : List ℕ). (e ≡ Writer) × AppendsFront old new s) whole
      (behind_stop _ _ old mid new e so_far (stop (codes "," ++ interval_text (get_or rest k d)) all.0 mid new e wrote))

  pub all_written : (k : ℕ) → length rest ≤ k → AreWritten k new → Appends old new (interval_text first ++ further_text rest)
  all_written k all so_far = subst (λ (js : List GnoInterval). Appends old new (interval_text first ++ further_text js)) (take_all k rest all) so_far
