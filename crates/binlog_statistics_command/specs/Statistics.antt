-- What `binlog stats` makes of its output, by what is counted together.
use Rattle.std.specs.Prelude.{◌≡◌, ℕ, Bool, List, Option, unwrap_or}
use Rattle.binlog_commands.specs.Counting.{IsNever}
use Rattle.binlog_commands.specs.SplicedCounts.{CountsInside, CountsOutside, nothing_counted}
use Rattle.change_statistics.specs.Facts.{Fact}
use Rattle.change_statistics.specs.Intervals.{seconds_of, CountsNoInterval, AddsByTime, AreSameIntervals}
use Rattle.change_statistics.specs.Tables.{AreEmpty, Adds, AreSame}
use Rattle.change_statistics.specs.Transactions.{seen_by, none_seen}
use Rattle.change_statistics.specs.declared.intervals.IntervalStats.{IntervalStats}
use Rattle.change_statistics.specs.declared.tables.TableStats.{TableStats}
use Rattle.binlog_statistics.specs.Counting.{CountsItem, CountsPart, RefusesItem, end_behind}
use Rattle.binlog_statistics.specs.declared.counter.Counter.{Counter}
use Rattle.clap.specs.declared.parser.matches.Found.{Found}
use Rattle.binlog_cli.specs.declared.exit_status.Outcome.{Outcome}
use Rattle.binlog_cli.specs.declared.exit_status.Status.{Status}
use Rattle.binlog_summaries.specs.declared.options.Grouping.{Grouping}
use Rattle.binlog_summaries.specs.declared.options.Grouping.TheVariants.{Types, Tables, Intervals, Transactions}
use Rattle.binlog_summaries.specs.declared.options.StatsOptions.{StatsOptions}
use Rattle.binlog_statistics_command.specs.CountedFiles.{WritesCounts}
use Rattle.binlog_statistics_command.specs.IntervalStatistics.{WritesIntervals}
use Rattle.binlog_statistics_command.specs.TableStatistics.{WritesTables}
use Rattle.binlog_statistics_command.specs.TransactionStatistics.{CountsPartOf, CountsTransactions, KeepsSeen, WritesTransactions}
use Rattle.binlog_statistics_command.specs.TypeStatistics.{WritesTypes}
use Rattle.binlog_statistics_command.specs.declared.transaction_counter.TransactionCounter.{TransactionCounter}

-- How many transactions are kept if no number is asked for.
abbrev pub default_top : ℕ
default_top = 20

module _ {B N : Type 0} (contents : B → Option (List ℕ)) (found : Found) (is_verified is_followed : Bool) (bytes : N → Option (List ℕ)) (names : List N) (period : Option ℕ) (options : StatsOptions) where
  -- A counter counts what the filter takes of the files, and inside compressed transactions, from `start` on: `adds` says what an event makes
  -- of the counts, and `keeps` that they are the same. `writes` says what is written of them.
  abbrev pub WritesCounted : {C : Type 0} → (adds : C → Fact → C → Type 0) → (keeps : C → C → Type 0) → (writes : C → Outcome → Option (List ℕ) → Option (List ℕ) → Type 0) → (start : C)
      → (old : Option (List ℕ)) (status : Status) (new : Option (List ℕ)) → Type 0
  WritesCounted {C} adds keeps writes start old status new =
      (counter : Counter C) × (counter.stats ≡ start) × WritesCounts contents found is_verified is_followed bytes names period
      (λ (before : Counter C) maps index item (after : Counter C). CountsItem adds before.stats maps item after.stats × (after.end_position ≡ end_behind before.end_position item))
      (λ (before : Counter C) maps index number part (after : Counter C). CountsPart adds before.end_position before.stats maps part after.stats × (after.end_position ≡ before.end_position))
      (λ (before : Counter C) maps index item error (after : Counter C). RefusesItem keeps before.stats error after.stats)
      (λ (before : Counter C) maps index number part error (after : Counter C). RefusesItem keeps before.stats error after.stats)
      (λ (counter : Counter C) outcome before after. writes counter.stats outcome before after) counter old status new

  -- What is counted together is what the options ask for. It is counted from nothing.
  abbrev pub WritesBy : Grouping → (old : Option (List ℕ)) (status : Status) (new : Option (List ℕ)) → Type 0
  WritesBy Types old status new =
      WritesCounts contents found is_verified is_followed bytes names period (λ before maps index item after. CountsOutside before index item after)
      (λ before maps index number part after. CountsInside before part after) (λ before maps index item error after. IsNever) (λ before maps index number part error after. IsNever)
      (λ stats outcome before after. WritesTypes options.is_json stats outcome before after) nothing_counted old status new
  WritesBy Tables old status new =
      (start : TableStats) × AreEmpty start × WritesCounted Adds AreSame (λ stats outcome before after. WritesTables options stats outcome before after) start old status new
  WritesBy (Intervals seconds) old status new =
      (start : IntervalStats) × CountsNoInterval start × (seconds_of start ≡ seconds)
      × WritesCounted AddsByTime AreSameIntervals (λ stats outcome before after. WritesIntervals options.is_json stats outcome before after) start old status new
  WritesBy Transactions old status new =
      (start : TransactionCounter) × (seen_by start.counter.stats ≡ none_seen (unwrap_or options.top default_top))
      × WritesCounts contents found is_verified is_followed bytes names period
      (λ (before : TransactionCounter) maps index item (after : TransactionCounter). CountsTransactions before.counter maps item after.counter)
      (λ (before : TransactionCounter) maps index number part (after : TransactionCounter). CountsPartOf before.counter maps part after.counter)
      (λ (before : TransactionCounter) maps index item error (after : TransactionCounter). RefusesItem KeepsSeen before.counter.stats error after.counter.stats)
      (λ (before : TransactionCounter) maps index number part error (after : TransactionCounter). RefusesItem KeepsSeen before.counter.stats error after.counter.stats)
      (λ (counter : TransactionCounter) outcome before after. WritesTransactions options.is_json (seen_by counter.counter.stats) outcome before after) start old status new

  abbrev pub WritesStats : (old : Option (List ℕ)) (status : Status) (new : Option (List ℕ)) → Type 0
  WritesStats old status new = WritesBy options.grouping old status new
