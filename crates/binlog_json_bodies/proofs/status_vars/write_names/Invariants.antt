use Rattle.std.proofs.Common.{◌≡◌, ◌∷◌, ◌++◌, [], codes, take, flat_map}
use Rattle.json.specs.Token.{begin_object, begin_array, key, string}
use Rattle.json_line.specs.Tokens.{text_value}
use Rattle.binlog_json_bodies.proofs.status_vars.write_names.Given as goal

abbrev pub invariant-names : goal.invariant-names
invariant-names l =
    l.line ≡ l.fn.line ++ begin_object ∷ key (codes "key") ∷ string (codes "UpdatedDbNames") ∷ key (codes "value") ∷ [] ++ begin_array ∷ [] ++ flat_map text_value (take l.name-index l.fn.names.items)
