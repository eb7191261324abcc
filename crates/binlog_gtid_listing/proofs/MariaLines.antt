-- Lines of GTIDs that are written one after the other.
use Rattle.std.proofs.Common.{◌≡◌, ℕ, zero, suc, ◌+◌, ◌<◌, ◌≤◌, List, [], ◌∷◌, ◌++◌, length, take, get_or, Option, refl, sym, ap, subst, ◌∙◌, arith, append_assoc, append-nil}
use Rattle.std.specs.Io.KnownBytes.{Appends}
use Rattle.std.proofs.KnownBytes.{Appends-trans}
use Rattle.std.proofs.lemmas.List.{take_all}
use Rattle.binlog_wire.specs.declared.error.Error.{Error}
use Rattle.binlog_wire.specs.declared.error.Error.TheVariants.{Writer}
use Rattle.binlog_ends.specs.Counts.{AppendsFront}
use Rattle.binlog_mariadb.specs.declared.maria_gtid.MariaGtid.{MariaGtid}
use Rattle.binlog_gtid_listing.proofs.Writing.{stop, behind_stop}
use Rattle.binlog_gtid_listing.specs.MariaLines.{missing_line, maria_lines}

-- one more line
lines_more : (others gs : List MariaGtid) (k : ℕ) (d : MariaGtid) → k < length gs → maria_lines others (take (suc k) gs) ≡ maria_lines others (take k gs) ++ missing_line others (get_or gs k d)
lines_more others [] k d within = absurd (omega arith)
lines_more others (g ∷ gs) zero d within = append-nil (missing_line others g)
lines_more others (g ∷ gs) (suc k) d within =
    ap (λ (s : List ℕ). missing_line others g ++ s) (lines_more others gs k d (omega arith)) ∙ sym (append_assoc (missing_line others g) (maria_lines others (take k gs)) (missing_line others (get_or gs k d)))

-- all lines are those of the first GTIDs, and more
lines_front : (others gs : List MariaGtid) (k : ℕ) → (more : List ℕ) × (maria_lines others gs ≡ maria_lines others (take k gs) ++ more)
lines_front others gs zero = (maria_lines others gs, refl)
lines_front others [] (suc k) = ([], refl)
lines_front others (g ∷ gs) (suc k) =
    let rest = lines_front others gs k in
    (rest.0, ap (λ (s : List ℕ). missing_line others g ++ s) rest.1 ∙ sym (append_assoc (missing_line others g) (maria_lines others (take k gs)) rest.0))

module _ (others gs : List MariaGtid) (old mid new : Option (List ℕ)) where
  -- the lines of the first GTIDs are written
  abbrev pub AreWritten : ℕ → Option (List ℕ) → Type 0
  AreWritten k now = Appends old now (maria_lines others (take k gs))

  -- one more
  pub more_written : (k : ℕ) (d : MariaGtid) → k < length gs → AreWritten k mid → Appends mid new (missing_line others (get_or gs k d)) → AreWritten (k + 1) new
  more_written k d within so_far wrote =
      let next : suc k ≡ k + 1 = omega arith in
      subst (λ (n : ℕ). AreWritten n new) next (subst (Appends old new) (sym (lines_more others gs k d within)) (Appends-trans old mid new _ _ so_far wrote))

  -- the writer failed in a line
  pub more_stop : (k : ℕ) (d : MariaGtid) (e : Error) → k < length gs → AreWritten k mid → (e ≡ Writer) × AppendsFront mid new (missing_line others (get_or gs k d))
      → (e ≡ Writer) × AppendsFront old new (maria_lines others gs)
  more_stop k d e within so_far wrote =
      let all = lines_front others gs (suc k) in
      let whole : maria_lines others (take k gs) ++ (missing_line others (get_or gs k d) ++ all.0) ≡ maria_lines others gs =
      sym (append_assoc (maria_lines others (take k gs)) (missing_line others (get_or gs k d)) all.0) ∙ ap (λ (s : List ℕ). s ++ all.0) (sym (lines_more others gs k d within)) ∙ sym all.1 in
      subst (λ (s : List ℕ). (e ≡ Writer) × AppendsFront old new s) whole
      (behind_stop _ _ old mid new e so_far (stop (missing_line others (get_or gs k d)) all.0 mid new e wrote))

  pub all_written : (k : ℕ) → length gs ≤ k → AreWritten k new → Appends old new (maria_lines others gs)
  all_written k all so_far = subst (λ (hs : List MariaGtid). Appends old new (maria_lines others hs)) (take_all k gs all) so_far
