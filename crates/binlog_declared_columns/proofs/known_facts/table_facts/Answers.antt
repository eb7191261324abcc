use Rattle.std.proofs.Common.{List, map, sym, ap, ◌∙◌}
use Rattle.binlog_columns.specs.Columns.{typed_of}
use Rattle.binlog_columns.specs.TableColumns.{columns_of}
use Rattle.binlog_columns.specs.declared.column.Column.{Column}
use Rattle.column_files.specs.Tables.{described}
use Rattle.binlog_declared_columns.proofs.KnownFacts.{some_columns, both_known}
use Rattle.binlog_declared_columns.proofs.known_facts.table_facts.Goals as goal

pub returns : goal.returns
returns c =
    let stated = c.in_ok-stated.ensures in
    let signs = rw (c.new-2.ensures.counts, c.new-2.ensures.bytes) at c.states_signs-states_signs.ensures in
    let are_kept = ap (λ (cs : List Column). map typed_of cs) c.deref.ensures.value ∙ c.in_ok-columns.ensures in
    record {
      stated = c.in_ok-stated.stated.columns.items;
      are_stated = stated;
      known = both_known c.args.is_maria_log (columns_of c.args.columns) (map typed_of c.deref.result.now) c.args.optional_metadata.now (map described c.in_ok-declared.declared.now) _
          c.in_ok-stated.stated.columns.items c.in_ok-columns-2.columns.items c.in_ok-columns-2.contradiction c.states_signs-states_signs.result stated.fields are_kept c.in_ok-declared.ensures
          (some_columns c.in_ok-declared.declared.now (sym c.is_empty.ensures ∙ c.if-is_empty.false)) stated.are (signs stated.fields stated.are) c.in_ok-columns-2.ensures;
    }
