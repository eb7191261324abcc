use Rattle.binlog_json_bodies.proofs.maria_data.write_object.Goals as goal

pub returns-in-QueryCompressedEvent : goal.returns-in-QueryCompressedEvent
returns-in-QueryCompressedEvent c = rw c.in-QueryCompressedEvent.is c.write_compressed_query.ensures

pub returns-in-RowsCompressedEvent : goal.returns-in-RowsCompressedEvent
returns-in-RowsCompressedEvent c = rw c.in-RowsCompressedEvent.is c.write_compressed_rows.ensures
