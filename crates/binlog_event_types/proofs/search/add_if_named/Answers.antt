use Rattle.std.proofs.Common.{map, refl}
use Rattle.binlog_event_types.specs.TypeNames.{IsNamedBy}
use Rattle.binlog_event_types.proofs.Searched.{added}
use Rattle.binlog_event_types.proofs.search.add_if_named.Goals as goal

pub returns-in_ok-push : goal.returns-in_ok-push
returns-in_ok-push c =
    added c.args.numbers.now.items c.push.new.self.items c.args.number (IsNamedBy c.args.number (map (λ name. name.now) c.args.names.now)) c.in_ok-push.ensures.items (c.if-has_one_of.ensures.0 refl)
