use Rattle.binlog_mariadb.specs.AnnotateRows.{annotate_rows}
use Rattle.binlog_mariadb.specs.BinlogCheckpoint.{binlog_checkpoint}
use Rattle.binlog_mariadb.specs.StartEncryption.{start_encryption}
use Rattle.binlog_mariadb.specs.Gtids.{maria_gtid}
use Rattle.binlog_mariadb.specs.GtidLists.{gtid_list}
use Rattle.binlog_mariadb.proofs.laws.read_events_are_normal.Goals as goal

pub returns-clause-annotate_rows : goal.returns-clause-annotate_rows
returns-clause-annotate_rows c = λ ctx version s event r bytes read. annotate_rows.settled s event r (annotate_rows.keeps.sound s (event, r) bytes read).0

pub returns-clause-binlog_checkpoint : goal.returns-clause-binlog_checkpoint
returns-clause-binlog_checkpoint c = λ ctx version s event r bytes read. binlog_checkpoint.settled s event r (binlog_checkpoint.keeps.sound s (event, r) bytes read).0

pub returns-clause-gtid : goal.returns-clause-gtid
returns-clause-gtid c = λ ctx version s event r bytes read. maria_gtid.settled s event r (maria_gtid.keeps.sound s (event, r) bytes read).0

pub returns-clause-gtid_list : goal.returns-clause-gtid_list
returns-clause-gtid_list c = λ ctx version s event r bytes read. gtid_list.settled s event r (gtid_list.keeps.sound s (event, r) bytes read).0

pub returns-clause-start_encryption : goal.returns-clause-start_encryption
returns-clause-start_encryption c = λ ctx version s event r bytes read. start_encryption.settled s event r (start_encryption.keeps.sound s (event, r) bytes read).0
