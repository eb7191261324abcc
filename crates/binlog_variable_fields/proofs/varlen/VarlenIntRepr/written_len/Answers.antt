use Rattle.std.proofs.Common.{arith, inl, inr, refl}
use Rattle.binlog_variable_fields.specs.Laws.VarlenWriting.{varlen_size, varlen_size_nine}
use Rattle.binlog_variable_fields.proofs.varlen.VarlenIntRepr.written_len.Goals as goal

pub returns-then-number-clause-count : goal.returns-then-number-clause-count
returns-then-number-clause-count c = varlen_size 1 c.args.number (omega arith) (omega arith) (inl refl) c.if-number.true

pub returns-then-number-2-clause-count : goal.returns-then-number-2-clause-count
returns-then-number-2-clause-count c = varlen_size 2 c.args.number (omega arith) (omega arith) (inr c.if-number.false) c.if-number-2.true

pub returns-then-number-3-clause-count : goal.returns-then-number-3-clause-count
returns-then-number-3-clause-count c = varlen_size 3 c.args.number (omega arith) (omega arith) (inr c.if-number-2.false) c.if-number-3.true

pub returns-then-number-4-clause-count : goal.returns-then-number-4-clause-count
returns-then-number-4-clause-count c = varlen_size 4 c.args.number (omega arith) (omega arith) (inr c.if-number-3.false) c.if-number-4.true

pub returns-then-number-5-clause-count : goal.returns-then-number-5-clause-count
returns-then-number-5-clause-count c = varlen_size 5 c.args.number (omega arith) (omega arith) (inr c.if-number-4.false) c.if-number-5.true

pub returns-then-number-6-clause-count : goal.returns-then-number-6-clause-count
returns-then-number-6-clause-count c = varlen_size 6 c.args.number (omega arith) (omega arith) (inr c.if-number-5.false) c.if-number-6.true

pub returns-then-number-7-clause-count : goal.returns-then-number-7-clause-count
returns-then-number-7-clause-count c = varlen_size 7 c.args.number (omega arith) (omega arith) (inr c.if-number-6.false) c.if-number-7.true

pub returns-then-number-8-clause-count : goal.returns-then-number-8-clause-count
returns-then-number-8-clause-count c = varlen_size 8 c.args.number (omega arith) (omega arith) (inr c.if-number-7.false) c.if-number-8.true

pub returns-else-number-8-clause-count : goal.returns-else-number-8-clause-count
returns-else-number-8-clause-count c = varlen_size_nine c.args.number c.if-number-8.false
