use Rattle.std.proofs.Common.{sym, ◌∙◌, arith}
use Rattle.binlog_statements.proofs.LayoutLaws.{refused_counts, read_counts}
use Rattle.binlog_statements.proofs.layout.names_len.Goals as goal

pub returns-in_err-ok-clause-count : goal.returns-in_err-ok-clause-count
returns-in_err-ok-clause-count c =
    let none = refused_counts c.args.count c.loop-left.left c.args.bytes.now c.loop-left.unread _ c.read.result c.read.ensures (sym c.ok.ensures.value ∙ c.in_err-ok.was) c.loop-left.invariant.same (omega arith) in
    cc

pub loop-left-preserved : goal.loop-left-preserved
loop-left-preserved c =
    let next = read_counts _ _ _ _ _ c.read.result _ c.read.ensures (sym c.ok.ensures.value ∙ c.in_ok-ok.was) c.loop-left.invariant.left c.loop-left.invariant.same (omega arith) in
    record { left = next.0; same = next.1 }
