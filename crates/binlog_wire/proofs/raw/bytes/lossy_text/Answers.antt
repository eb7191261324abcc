use Rattle.bstr.proofs.lemmas.LossyLemmas.{lossy_chars-utf8_lossy}
use Rattle.binlog_wire.proofs.raw.bytes.lossy_text.Goals as goal

pub returns : goal.returns
returns c = rw (← lossy_chars-utf8_lossy c.args.bytes.now) c.to_str_lossy.ensures.text
