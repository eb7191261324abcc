use Rattle.std.proofs.Common.{◌≡◌, List, map, ap, refl, ◌∙◌}
use Rattle.binlog_columns.specs.TableColumns.{columns_of}
use Rattle.binlog_optional_metadata.specs.Facts.{facts_of}
use Rattle.binlog_optional_metadata.specs.declared.column_facts.ColumnFacts.{ColumnFacts}
use Rattle.binlog_json_values.specs.KeptColumns.{kept_facts}
use Rattle.binlog_json_lines.proofs.KeptTables.{kept_states}
use Rattle.binlog_json_lines.proofs.kept_tables.known_columns.Goals as goal

pub returns : goal.returns
returns c =
    let stated = c.in_ok-stated.stated in
    let kept : kept_facts c.in_ok-known.known ≡ map facts_of stated.columns.items =
    c.in_ok-known.ensures ∙ ap (λ (l : List ColumnFacts). map facts_of l) c.deref.ensures.value in
    kept_states c.args.is_maria_log (columns_of c.args.columns) (columns_of c.args.columns) c.args.optional_metadata.now c.args.optional_metadata.now stated.columns.items
    (kept_facts c.in_ok-known.known) stated.refusal refl refl kept c.in_ok-stated.ensures
