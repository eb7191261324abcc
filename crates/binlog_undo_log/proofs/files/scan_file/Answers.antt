use Rattle.binlog_undo_log.proofs.Looked.{file_if}
use Rattle.binlog_undo_log.proofs.files.scan_file.Goals as goal

pub returns : goal.returns
returns g c =
    file_if (g.R.ReadCounted.remaining c.args.input.now) c.end.result c.in_ok-tail_len.tail_len c.args.scan.now c.scan_items.new.scan c.end.new.self c.in_ok-tail_len.ensures
    c.end.ensures.ok c.end.ensures.memory
