use Rattle.std.proofs.Common.{refl}
use Rattle.binlog_transactions.specs.declared.refusal.Refusal.TheVariants as refusals
use Rattle.binlog_undo_index.specs.declared.reason.Reason.TheVariants as reasons
use Rattle.binlog_undo_command.proofs.reasons.is_skip_name.Goals as goal

pub returns-in-Unfinished-clause-known : goal.returns-in-Unfinished-clause-known
returns-in-Unfinished-clause-known c = λ same. (reasons.Transaction refusals.Unfinished, refl, c.in-Unfinished.is-Unfinished)

pub returns-in-Unfinished-2-clause-known : goal.returns-in-Unfinished-2-clause-known
returns-in-Unfinished-2-clause-known c = λ same. (reasons.Transaction refusals.Statement, refl, c.in-Unfinished.is-Statement)

pub returns-in-Unfinished-3-clause-known : goal.returns-in-Unfinished-3-clause-known
returns-in-Unfinished-3-clause-known c = λ same. (reasons.Transaction refusals.LoadData, refl, c.in-Unfinished.is-LoadData)

pub returns-in-Unfinished-4-clause-known : goal.returns-in-Unfinished-4-clause-known
returns-in-Unfinished-4-clause-known c = λ same. (reasons.Transaction refusals.Xa, refl, c.in-Unfinished.is-Xa)

pub returns-in-Unfinished-5-clause-known : goal.returns-in-Unfinished-5-clause-known
returns-in-Unfinished-5-clause-known c = λ same. (reasons.Transaction refusals.Rollback, refl, c.in-Unfinished.is-Rollback)

pub returns-in-Unfinished-6-clause-known : goal.returns-in-Unfinished-6-clause-known
returns-in-Unfinished-6-clause-known c = λ same. (reasons.Transaction refusals.Incident, refl, c.in-Unfinished.is-Incident)

pub returns-in-Unfinished-7-clause-known : goal.returns-in-Unfinished-7-clause-known
returns-in-Unfinished-7-clause-known c = λ same. (reasons.Transaction refusals.Payload, refl, c.in-Unfinished.is-Payload)

pub returns-in-Unfinished-8-clause-known : goal.returns-in-Unfinished-8-clause-known
returns-in-Unfinished-8-clause-known c = λ same. (reasons.Transaction refusals.OldRows, refl, c.in-Unfinished.is-OldRows)

pub returns-in-Unfinished-9-clause-known : goal.returns-in-Unfinished-9-clause-known
returns-in-Unfinished-9-clause-known c = λ same. (reasons.Transaction refusals.UnknownEvent, refl, c.in-Unfinished.is-UnknownEvent)

pub returns-in-Unfinished-10-clause-known : goal.returns-in-Unfinished-10-clause-known
returns-in-Unfinished-10-clause-known c = λ same. (reasons.NoTableMap, refl, c.in-Unfinished.is-NoTableMap)

pub returns-in-Unfinished-11-clause-known : goal.returns-in-Unfinished-11-clause-known
returns-in-Unfinished-11-clause-known c = λ same. (reasons.Rows, refl, c.in-Unfinished.is-Rows)

pub returns-in-Unfinished-12-clause-known : goal.returns-in-Unfinished-12-clause-known
returns-in-Unfinished-12-clause-known c = λ same. (reasons.OldTemporal, refl, c.in-Unfinished.is-OldTemporal)

pub returns-in-Unfinished-13-clause-known : goal.returns-in-Unfinished-13-clause-known
returns-in-Unfinished-13-clause-known c = λ same. (reasons.Image, refl, c.in-Unfinished.is-Image)

pub returns-in-Unfinished-14-clause-known : goal.returns-in-Unfinished-14-clause-known
returns-in-Unfinished-14-clause-known c = λ same. (reasons.PartialJson, refl, c.in-Unfinished.is-PartialJson)

pub returns-in-Unfinished-15-clause-known : goal.returns-in-Unfinished-15-clause-known
returns-in-Unfinished-15-clause-known c = λ same. (reasons.Compressed, refl, c.in-Unfinished.is-Compressed)
