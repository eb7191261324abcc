use Rattle.std.proofs.Common.{refl, true, false}
use Rattle.binlog_events.specs.EventRefs.{view_of}
use Rattle.binlog_file.specs.State.{state_of}
use Rattle.binlog_payload_filters.proofs.Decided.{takes_payload}
use Rattle.binlog_payload_filters.proofs.ShownEvents.{shown_on, refused_on}
use Rattle.binlog_payload_filters.proofs.filtered.PayloadFiltered.visit_payload.Goals as goal

pub returns-clause-ok : goal.returns-clause-ok
returns-clause-ok g c =
    let old = c.args.self.now in
    let event = view_of c.args.event.now in
    let takes = rw (c.of_event-start.ensures, c.filter.ensures) at c.in_ok-state.ensures.ok in
    let inside = rw c.if-not-is_taken.false at c.in_ok-is_taken.ensures.ok in
    let payload = takes_payload old.filtered.filter c.args.tables.now old.limit (state_of c.args.reader.now).table_maps _ old.filtered.state event _ _ true c.requires.tables c.requires.payload takes inside in
    shown_on c.visit_event.result g.T.Visitor.visits c.args.tables.now old _ c.args.index event _ payload (record { same = refl; limit = refl; place = c.behind_event-self.ensures }) c.visit_event.ensures.ok

pub returns-clause-err : goal.returns-clause-err
returns-clause-err g c =
    let old = c.args.self.now in
    let event = view_of c.args.event.now in
    let takes = rw (c.of_event-start.ensures, c.filter.ensures) at c.in_ok-state.ensures.ok in
    let inside = rw c.if-not-is_taken.false at c.in_ok-is_taken.ensures.ok in
    let payload = takes_payload old.filtered.filter c.args.tables.now old.limit (state_of c.args.reader.now).table_maps _ old.filtered.state event _ _ true c.requires.tables c.requires.payload takes inside in
    refused_on c.visit_event.result g.T.Visitor.refuses c.args.tables.now old _ c.args.index event _ payload (record { same = refl; limit = refl; place = c.behind_event-self.ensures }) c.visit_event.ensures.err

pub returns-then-not-is_taken-clause-ok : goal.returns-then-not-is_taken-clause-ok
returns-then-not-is_taken-clause-ok g c =
    let old = c.args.self.now in
    let event = view_of c.args.event.now in
    let takes = rw (c.of_event-start.ensures, c.filter.ensures) at c.in_ok-state.ensures.ok in
    let inside = rw c.if-not-is_taken.true at c.in_ok-is_taken.ensures.ok in
    record {
      taken = false;
      takes = takes_payload old.filtered.filter c.args.tables.now old.limit (state_of c.args.reader.now).table_maps _ old.filtered.state event _ _ false c.requires.tables c.requires.payload takes inside;
      does = refl;
      goes = record { same = refl; limit = refl; place = c.behind_event-self.ensures };
    }
