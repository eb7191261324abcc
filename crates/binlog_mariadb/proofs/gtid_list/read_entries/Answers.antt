use Rattle.std.proofs.Common.{Bool, ℕ, subst, sym}
use Rattle.std.specs.Prelude.{⊤}
use Rattle.std.proofs.lemmas.Bool.{ne_eqb}
use Rattle.binlog_wire.specs.Reading.{Gives}
use Rattle.binlog_variable_fields.specs.Repeated.{times_at}
use Rattle.binlog_mariadb.specs.GtidLists.{entries_by, gtid_entry}
use Rattle.binlog_mariadb.proofs.gtid_list.read_entries.Goals as goal

pub returns : goal.returns
returns c =
    let entries : Gives ⊤ c.deserialize.new.buf c.deserialize.result (times_at c.args.count gtid_entry.reads c.args.buf.now) =
    subst (λ (n : ℕ). Gives ⊤ c.deserialize.new.buf c.deserialize.result (times_at n gtid_entry.reads c.args.buf.now)) c.from.ensures c.deserialize.ensures in
    subst (λ (b : Bool). Gives ⊤ c.deserialize.new.buf c.deserialize.result ((entries_by b c.args.count).reads c.args.buf.now))
    (sym (ne_eqb c.args.count 0 c.if-count-eq0.false)) entries
