use Rattle.std.proofs.Common.{◌∙◌, refl, sym}
use Rattle.binlog_file.specs.EventRefs.{view_of}
use Rattle.binlog_file.specs.State.{state_of}
use Rattle.binlog_filters.specs.Places.{start_of}
use Rattle.binlog_filters.proofs.Unconditional.{takes_each}
use Rattle.binlog_filters.proofs.filtered.Filtered.take.Goals as goal

pub returns-then-takes_each-clause-ok : goal.returns-then-takes_each-clause-ok
returns-then-takes_each-clause-ok g c =
    let old = c.args.self.now in
    let event = view_of c.args.event.now in
    record {
      takes = takes_each old.filter (state_of c.args.reader.now).table_maps (start_of old.place.position event) old.state event (sym c.takes_each.ensures ∙ c.if-takes_each.true);
      same = refl;
      visitor = refl;
      place = c.behind_event-self.ensures;
    }
