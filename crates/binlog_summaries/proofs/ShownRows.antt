-- The rows that are shown.
use Rattle.std.proofs.Common.{◌≡◌, ℕ, Bool, true, false, cond, ltb, List, length, take, Option, Some, None, refl, sym, ◌∙◌, arith}
use Rattle.std.proofs.lemmas.Bool.Decides.{nat_tests}
use Rattle.std.proofs.lemmas.List.{take_all}
use Rattle.binlog_summaries.specs.Shown.{shown, shown_count}

shown_by : {X : Type 0} (top : ℕ) (rows : List X) (b : Bool) → ltb top (length rows) ≡ b → take (cond b top (length rows)) rows ≡ take top rows
shown_by top rows true few = refl
shown_by top rows false all = take_all (length rows) rows (omega arith) ∙ sym (take_all top rows (grind (arith, nat_tests)))

pub shown_rows : {X : Type 0} (top : Option ℕ) (rows : List X) → take (shown_count (length rows) top) rows ≡ shown top rows
shown_rows None rows = take_all (length rows) rows (omega arith)
shown_rows (Some top) rows = shown_by top rows (ltb top (length rows)) refl
