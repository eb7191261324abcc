use Rattle.std.proofs.Common.{◌≡◌, ◌∷◌, ◌++◌, [], take, flat_map}
use Rattle.json.specs.Token.{begin_array}
use Rattle.binlog_json_bodies.specs.Gtids.{sid_object}
use Rattle.binlog_json_bodies.proofs.gtids.write_sids.Given as goal

abbrev pub invariant-sids : goal.invariant-sids
invariant-sids l = l.line ≡ l.fn.line ++ begin_array ∷ [] ++ flat_map sid_object (take l.sid-index l.fn.sids)
