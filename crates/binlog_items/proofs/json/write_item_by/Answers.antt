use Rattle.binlog_items.proofs.json.write_item_by.Goals as goal

pub returns-in-Err-clause-refused : goal.returns-in-Err-clause-refused
returns-in-Err-clause-refused c = rw c.new-finder.ensures at c.in-Err.ensures.refused
