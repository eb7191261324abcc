use Rattle.std.proofs.lemmas.Result.{err_from_is_err_and}
use Rattle.binlog_mariadb.proofs.CompressedTexts.{no_head}
use Rattle.binlog_mariadb.proofs.compression.uncompress.Goals as goal

pub returns-in_err-size-clause-refused : goal.returns-in_err-size-clause-refused
returns-in_err-size-clause-refused c =
    let p = err_from_is_err_and c.from_residual.result c.from_residual.ensures.1 in
    rw (p.1, p.2) (no_head c.args.limit c.in_err-size.field-0.0 c.args.stored.now c.in_err-size.ensures.refused)
