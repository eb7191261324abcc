use Rattle.std.proofs.Common.{◌≡◌, ◌++◌, ◌∷◌, [], List, map, ap, ◌∙◌}
use Rattle.std.proofs.lemmas.List.{map-append}
use Rattle.change_statistics.specs.Facts.{Name}
use Rattle.binlog_later_changes.specs.Later.{table}
use Rattle.binlog_later_changes.specs.Tables.{change_of}
use Rattle.binlog_later_changes.specs.declared.later_change.LaterChange.{LaterChange}
use Rattle.binlog_later_changes.specs.declared.later_change.LaterReason.TheVariants.{Table}
use Rattle.binlog_later_changes.proofs.later_tables.LaterTables.find.Goals as goal

pub returns : goal.returns
returns c =
    let puts = c.in_ok-put.ensures in
    let pushed : LaterChange = record { event = c.args.event; reason = Table c.in_ok-copy_of.field-0 } in
    record {
      names = puts.names;
      undone = puts.undone;
      any = puts.any;
      found = ap (map change_of) (c.in_ok-push.ensures.items ∙ ap (λ (l : List LaterChange). l ++ pushed ∷ []) puts.found)
          ∙ map-append change_of c.args.self.now.found.items (pushed ∷ [])
          ∙ ap (λ (n : Name). map change_of c.args.self.now.found.items ++ record { event = c.args.event; cause = table n } ∷ []) c.in_ok-copy_of.ensures;
    }
