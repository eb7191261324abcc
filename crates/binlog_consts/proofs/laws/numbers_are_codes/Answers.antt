use Rattle.binlog_consts.specs.Codes.{subtype_is_code, checksum_alg_is_code, incident_type_is_code}
use Rattle.binlog_consts.specs.EventTypeLaws.{event_type_is_code}
use Rattle.binlog_consts.specs.StatementCodes.{dup_handling_is_code, item_result_is_code}
use Rattle.binlog_consts.specs.StatusVarKeys.{status_var_key_is_code}
use Rattle.binlog_consts.specs.Versions.{version_is_code}
use Rattle.binlog_consts.proofs.laws.numbers_are_codes.Goals as goal

pub returns-clause-event_types : goal.returns-clause-event_types
returns-clause-event_types c = event_type_is_code

pub returns-clause-versions : goal.returns-clause-versions
returns-clause-versions c = version_is_code

pub returns-clause-subtypes : goal.returns-clause-subtypes
returns-clause-subtypes c = subtype_is_code

pub returns-clause-checksums : goal.returns-clause-checksums
returns-clause-checksums c = checksum_alg_is_code

pub returns-clause-incidents : goal.returns-clause-incidents
returns-clause-incidents c = incident_type_is_code

pub returns-clause-dup_handlings : goal.returns-clause-dup_handlings
returns-clause-dup_handlings c = dup_handling_is_code

pub returns-clause-status_vars : goal.returns-clause-status_vars
returns-clause-status_vars c = status_var_key_is_code

pub returns-clause-item_results : goal.returns-clause-item_results
returns-clause-item_results c = item_result_is_code
