use Rattle.std.proofs.Common.{◌∙◌, ap}
use Rattle.std.specs.Map.{lookup}
use Rattle.change_statistics.specs.Names.{name_of, name_eq}
use Rattle.change_statistics.specs.SeenTables.{SeenTables}
use Rattle.change_statistics.proofs.CountedTables.{lookup_named}
use Rattle.change_statistics.proofs.transaction_tables.TransactionTables.counts_of.Goals as goal

pub returns : goal.returns
returns c =
    c.copied.ensures ∙ c.get.ensures.value ∙ lookup_named (name_of c.args.name.now) c.self.inside.counts.entries
    ∙ ap (λ (seen : SeenTables). lookup (name_eq (name_of c.args.name.now)) seen.entries) c.self.view_is
