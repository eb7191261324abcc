use Rattle.std.proofs.Common.{◌≡◌, ◌∷◌, ◌++◌, [], take, flat_map}
use Rattle.json.specs.Token.{begin_array}
use Rattle.binlog_json_bodies.specs.MariaGtids.{gtid_value}
use Rattle.binlog_json_bodies.proofs.maria_gtids.write_gtids.Given as goal

abbrev pub invariant-gtids : goal.invariant-gtids
invariant-gtids l = l.line ≡ l.fn.line ++ begin_array ∷ [] ++ flat_map gtid_value (take l.gtid-index l.fn.gtids)
