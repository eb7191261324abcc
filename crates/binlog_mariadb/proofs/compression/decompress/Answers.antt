use Rattle.std.proofs.Common.{rules}
use Rattle.binlog_mariadb.proofs.CompressedTexts.{other_length, only_text, refused}
use Rattle.binlog_mariadb.proofs.compression.decompress.Goals as goal

pub returns-then-len-size-clause-refused : goal.returns-then-len-size-clause-refused
returns-then-len-size-clause-refused c = other_length c.args.stream.now c.args.size c.in-Ok.text.items c.in-Ok.ensures.only (search rules)

pub returns-else-len-size-clause-only : goal.returns-else-len-size-clause-only
returns-else-len-size-clause-only c = only_text c.args.stream.now c.args.size c.in-Ok.text.items c.in-Ok.ensures.only

pub returns-in-Err : goal.returns-in-Err
returns-in-Err c = rw c.refusal.ensures (record { found = tt; only = tt; refused = refused c.args.size c.in-Err.error c.args.stream.now c.in-Err.ensures.refused })
