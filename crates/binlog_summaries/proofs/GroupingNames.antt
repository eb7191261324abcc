-- The names of what is counted together.
use Rattle.std.proofs.Common.{◌≡◌, ℕ, Bool, true, false, List, codes, ap, ◌∙◌}
use Rattle.std.specs.Prelude.{bytes_eq}
use Rattle.binlog_summaries.specs.Intervals.{IsInterval}
use Rattle.binlog_summaries.specs.Options.{IsNameOf}
use Rattle.binlog_summaries.specs.declared.options.Grouping.{Grouping}
use Rattle.binlog_summaries.specs.declared.options.Grouping.TheVariants.{Types, Tables, Intervals, Transactions}

-- A name of nothing.
pub no_name : (name : List ℕ) → (name ≡ codes "type" → ⊥) → (name ≡ codes "table" → ⊥) → (name ≡ codes "transaction" → ⊥) → ((seconds : ℕ) → IsInterval name seconds → ⊥)
    → (grouping : Grouping) → IsNameOf grouping name → ⊥
no_name name no_types no_tables no_transactions no_intervals Types = no_types
no_name name no_types no_tables no_transactions no_intervals Tables = no_tables
no_name name no_types no_tables no_transactions no_intervals (Intervals seconds) = no_intervals seconds
no_name name no_types no_tables no_transactions no_intervals Transactions = no_transactions

-- A text that isn't equal to a word is another one.
pub differs : (name word : List ℕ) (result : Bool) → result ≡ bytes_eq name word → result ≡ false → bytes_eq word word ≡ true → name ≡ word → ⊥
differs name word result is isnt same equal =
    let e : bytes_eq name word ≡ true = ap (λ (n : List ℕ). bytes_eq n word) equal ∙ same in
    cc
