use Rattle.std.proofs.Common.{subst}
use Rattle.binlog_file.specs.StatusVarValues.{Has}
use Rattle.binlog_json_bodies.proofs.StatusVars.{set_is, names_are}
use Rattle.binlog_json_bodies.proofs.status_vars.write_entry.Goals as goal

pub returns-in-ExplicitDefaultsForTimestamp : goal.returns-in-ExplicitDefaultsForTimestamp
returns-in-ExplicitDefaultsForTimestamp c = λ v has.
    let held = subst (Has v) c.in-ExplicitDefaultsForTimestamp.is has in
    let e = set_is _ v.value held.1 in
    rw (held.0, ← e) c.write_flag.ensures

pub returns-in-UpdatedDbNames : goal.returns-in-UpdatedDbNames
returns-in-UpdatedDbNames c = λ v has.
    let held = subst (Has v) c.in-UpdatedDbNames.is has in
    let e = names_are v.value _ held.1 in
    rw (held.0, ← e) c.write_names.ensures

pub returns-in-TableMapForUpdate : goal.returns-in-TableMapForUpdate
returns-in-TableMapForUpdate c = λ v has.
    let held = subst (Has v) c.in-TableMapForUpdate.is has in
    rw (held.0, ← held.1) c.write_number-in-TableMapForUpdate.ensures

pub returns-in-MasterDataWritten : goal.returns-in-MasterDataWritten
returns-in-MasterDataWritten c = λ v has.
    let held = subst (Has v) c.in-MasterDataWritten.is has in
    rw (held.0, ← held.1) c.write_bytes-in-MasterDataWritten.ensures

pub returns-in-Microseconds : goal.returns-in-Microseconds
returns-in-Microseconds c = λ v has.
    let held = subst (Has v) c.in-Microseconds.is has in
    rw (held.0, ← held.1, ← c.from-in-Microseconds.ensures) c.write_number-in-Microseconds.ensures

pub returns-in-DdlLoggedWithXid : goal.returns-in-DdlLoggedWithXid
returns-in-DdlLoggedWithXid c = λ v has.
    let held = subst (Has v) c.in-DdlLoggedWithXid.is has in
    rw (held.0, ← held.1) c.write_number-in-DdlLoggedWithXid.ensures

pub returns-in-SqlRequirePrimaryKey : goal.returns-in-SqlRequirePrimaryKey
returns-in-SqlRequirePrimaryKey c = λ v has.
    let held = subst (Has v) c.in-SqlRequirePrimaryKey.is has in
    rw (held.0, held.1, ← c.from-in-SqlRequirePrimaryKey.ensures) c.write_number-in-SqlRequirePrimaryKey.ensures
