-- The tables that are written while a log is followed.
use Rattle.std.proofs.Common.{◌≡◌, inl, inr, ℕ, List, [], ◌∷◌, Option, sym, ap, ◌∙◌, subst}
use Rattle.std.specs.Io.KnownBytes.{Keeps}
use Rattle.binlog_cli.specs.Outputs.{worse_outcome, written}
use Rattle.binlog_cli.specs.declared.exit_status.Outcome.{Outcome}
use Rattle.binlog_cli.specs.declared.exit_status.Status.TheVariants.{Fine}
use Rattle.binlog_summaries.specs.declared.options.StatsOptions.{StatsOptions}
use Rattle.binlog_statistics_command.specs.RepeatedStats.{IsTable, MayWrite, AreTables, WritesTables}
use Rattle.binlog_inputs.specs.Rests.{Rests, AreLinked, HasRested}

-- A follower with options, an outcome and an output writes at most a table of a visitor's counts each time. `rests` says what it does.
module _ {F T C : Type 0} (rests : F → T → F → T → Type 0) (counts_of : T → C) (options_of : F → StatsOptions) (outcome_of : F → Outcome) (bytes_of : F → Option (List ℕ))
    (writes : StatsOptions → C → Outcome → Option (List ℕ) → Option (List ℕ) → Type 0)
    (does : (old : F) (shown : T) (new : F) (after : T) → rests old shown new after
    → (options_of new ≡ options_of old) × MayWrite (writes (options_of old) (counts_of shown)) (outcome_of old) (bytes_of old) (outcome_of new) (bytes_of new)) where
  abbrev Are : (options : StatsOptions) (old new : F) → Type 0
  Are options old new = (tables : List C) × AreTables (writes options) tables (outcome_of old) (bytes_of old) (outcome_of new) (bytes_of new)

  one_more : (options : StatsOptions) (old mid new : F) (shown : T) → MayWrite (writes options (counts_of shown)) (outcome_of old) (bytes_of old) (outcome_of mid) (bytes_of mid)
      → Are options mid new → Are options old new
  one_more options old mid new shown (inl same) are = (
    are.0,
    subst (λ (o : Outcome). AreTables (writes options) are.0 o (bytes_of old) (outcome_of new) (bytes_of new)) same.0
        (subst (λ (b : Option (List ℕ)). AreTables (writes options) are.0 (outcome_of mid) b (outcome_of new) (bytes_of new)) same.1 are.1),
  )
  one_more options old mid new shown (inr table) are = (
    counts_of shown ∷ are.0,
    (
      table.0,
      table.1,
      bytes_of mid,
      table.2,
      table.3,
      subst (λ (o : Outcome). AreTables (writes options) are.0 o (bytes_of mid) (outcome_of new) (bytes_of new)) table.4 are.1,
    ),
  )

  tables_are : (options : StatsOptions) (old : F) (steps : List F) (new : F) → options_of old ≡ options → AreLinked (Rests rests) old steps new → Are options old new
  tables_are options old [] new same are = ([], (ap outcome_of are, ap bytes_of are))
  tables_are options old (next ∷ steps) new same are =
      let once = does old are.0.0 next are.0.1 are.0.2 in
      one_more options old next new are.0.0
      (subst (λ (o : StatsOptions). MayWrite (writes o (counts_of are.0.0)) (outcome_of old) (bytes_of old) (outcome_of next) (bytes_of next)) same once.1)
      (tables_are options next steps new (once.0 ∙ same) are.1)

  linked_options : (old : F) (steps : List F) (new : F) → AreLinked (Rests rests) old steps new → options_of new ≡ options_of old
  linked_options old [] new are = ap options_of are
  linked_options old (next ∷ steps) new are = linked_options next steps new are.1 ∙ (does old are.0.0 next are.0.1 are.0.2).0

  options_stay : (old new : F) → HasRested rests old new → options_of new ≡ options_of old
  options_stay old new rested = linked_options old rested.0 new rested.1

  -- All of what was written is tables.
  tables_were_written : (options : StatsOptions) (old new : F) → options_of old ≡ options → HasRested rests old new → Are options old new
  tables_were_written options old new same rested = tables_are options old rested.0 new same rested.1

  -- Behind these tables comes that of the last counts.
  pub all_tables : (options : StatsOptions) (old mid : F) (start : Option (List ℕ)) (counts : C) (outcome : Outcome) (new : Option (List ℕ)) → options_of old ≡ options → outcome_of old ≡ written Fine → bytes_of old ≡ start
      → HasRested rests old mid → (last : Outcome) × IsTable (writes (options_of mid) counts) last (bytes_of mid) new × (outcome ≡ worse_outcome (outcome_of mid) last)
      → WritesTables (writes options) counts outcome start new
  all_tables options old mid start counts outcome new same fine starts rested table =
      let are = tables_were_written options old mid same rested in
      record {
        tables = are.0;
        worst = outcome_of mid;
        middle = bytes_of mid;
        are = subst (λ (o : Outcome). AreTables (writes options) are.0 o start (outcome_of mid) (bytes_of mid)) fine
            (subst (λ (b : Option (List ℕ)). AreTables (writes options) are.0 (outcome_of old) b (outcome_of mid) (bytes_of mid)) starts are.1);
        last = table.0;
        ended = subst (λ (o : StatsOptions). IsTable (writes o counts) table.0 (bytes_of mid) new) (options_stay old mid rested ∙ same) table.1;
        worse = table.2;
      }
