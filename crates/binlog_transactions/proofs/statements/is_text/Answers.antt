use Rattle.std.proofs.Common.{◌≡◌, length, rules}
use Rattle.binlog_transactions.specs.Statements.{is_text}
use Rattle.binlog_transactions.proofs.Texts.{all_bytes}
use Rattle.binlog_transactions.proofs.statements.is_text.Goals as goal

pub returns : goal.returns
returns c =
    let none : length c.bytes.wanted.now ≡ 0 = search rules in
    all_bytes c.bytes.left.now c.bytes.wanted.now c.is_empty.result (is_text c.args.text.now c.args.whole.now) c.is_empty.ensures none c.bytes.invariant
