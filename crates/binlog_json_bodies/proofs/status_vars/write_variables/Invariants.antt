use Rattle.std.proofs.Common.{◌≡◌, ◌+◌, ◌∷◌, ◌++◌, [], flat_map, length}
use Rattle.json.specs.Token.{begin_array}
use Rattle.binlog_file.specs.StatusVariables.{variable_bytes, variables}
use Rattle.std.specs.Option.{option_or}
use Rattle.binlog_json_bodies.specs.ClientSets.{last_collation}
use Rattle.binlog_json_bodies.specs.StatusVars.{variable_object}
use Rattle.binlog_json_bodies.proofs.status_vars.write_variables.Given as goal

-- The written variables and those that are left are all of them, and so are their bytes. The client's collation is the one so far if
-- none that is left states it.
abbrev pub invariant-variables : goal.invariant-variables
invariant-variables l =
    (l.line ++ flat_map variable_object (variables l.variable-iterator.unread.now)
    ≡ l.fn.line ++ begin_array ∷ [] ++ flat_map variable_object (variables l.text))
    × (l.len + length (flat_map variable_bytes (variables l.variable-iterator.unread.now))
    ≡ length (flat_map variable_bytes (variables l.text)))
    × (option_or (last_collation (variables l.variable-iterator.unread.now)) l.collation ≡ last_collation (variables l.text))
