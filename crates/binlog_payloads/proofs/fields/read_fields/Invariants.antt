use Rattle.std.proofs.Common.{◌≡◌, ◌-◌, length}
use Rattle.binlog_payloads.specs.Fields.{fields, nothing}
use Rattle.binlog_payloads.proofs.fields.read_fields.Given as goal

abbrev pub invariant-fields : goal.invariant-fields
invariant-fields l = fields (length l.fn.buf - l.counter) l.stated l.buf ≡ fields (length l.fn.buf) nothing l.fn.buf
