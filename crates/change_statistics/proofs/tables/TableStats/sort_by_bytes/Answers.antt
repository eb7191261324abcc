use Rattle.std.proofs.Common.{ltb, rules}
use Rattle.std.proofs.lemmas.List.MinMax.{IsStrictWeakOrder-by_number, IsStrictWeakOrder-flip}
use Rattle.std.proofs.lemmas.List.Sorted.{answers_always}
use Rattle.std.specs.Cmp.{IsStrictWeakOrder}
use Rattle.change_statistics.specs.SortedTables.{has_more_bytes}
use Rattle.change_statistics.specs.declared.table_counts.TableCounts.{TableCounts}
use Rattle.change_statistics.specs.declared.table_name.TableName.{TableName}
use Rattle.change_statistics.proofs.tables.TableStats.sort_by_bytes.Goals as goal

abbrev Entry : Type 0
Entry = TableName × TableCounts

order : IsStrictWeakOrder has_more_bytes
order = IsStrictWeakOrder-flip (λ (x y : Entry). ltb x.1.bytes y.1.bytes) (IsStrictWeakOrder-by_number (λ (x : Entry). x.1.bytes))

pub returns-clause-sorted : goal.returns-clause-sorted
returns-clause-sorted c = c.in_ok-sort_by.ensures.sorted has_more_bytes order (answers_always _ _ _ (λ f a r g k. search rules))

pub returns-clause-stable : goal.returns-clause-stable
returns-clause-stable c = c.sort_by.ensures.stable has_more_bytes order (answers_always _ _ _ (λ f a r g k. search rules))
