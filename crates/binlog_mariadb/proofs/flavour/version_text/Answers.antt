use Rattle.std.proofs.Common.{arith}
use Rattle.std.proofs.lemmas.List.Sums.{prefix_len-le-length}
use Rattle.binlog_mariadb.specs.Flavour.{is_text_byte}
use Rattle.binlog_mariadb.proofs.flavour.version_text.Goals as goal

pub split_at-requires : goal.split_at-requires
split_at-requires c = omega (arith, prefix_len-le-length is_text_byte c.args.version.now)
