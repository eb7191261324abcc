use Rattle.std.proofs.Common.{inr, refl}
use Rattle.binlog_json_bodies.specs.Data.{error_object}
use Rattle.binlog_json_bodies.proofs.MariaValues.{shows_exactly}
use Rattle.binlog_json_bodies.proofs.compressed.write_compressed_query.Goals as goal

pub returns-in-None : goal.returns-in-None
returns-in-None c =
    let none = rw (c.in-None.is, c.query_raw.ensures) at c.in_ok-text.ensures in
    shows_exactly _ _ _ _ (error_object 6) (inr (none, refl)) c.write_invalid.ensures
