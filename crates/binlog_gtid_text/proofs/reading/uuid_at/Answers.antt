use Rattle.std.proofs.Common.{◌≡◌, ◌-◌, List, ℕ, length, take, drop, Err, Ok, sym, ap, ◌∙◌, arith}
use Rattle.std.proofs.lemmas.Grind.{common_steps}
use Rattle.binlog_gtid_text.specs.declared.error.Fault.{Fault}
use Rattle.binlog_gtid_text.specs.Reading.{skip}
use Rattle.binlog_gtid_text.proofs.Read.{uuid_short, uuid_read, uuid_refused}
use Rattle.binlog_gtid_text.proofs.reading.uuid_at.Goals as goal

pub returns-then-text-lt-UUID_LEN-clause-value : goal.returns-then-text-lt-UUID_LEN-clause-value
returns-then-text-lt-UUID_LEN-clause-value c = uuid_short c.args.text.now (omega arith) ∙ ap (λ (f : Fault). Err f) (sym c.new.ensures)

rest_of : (n : ℕ) (s : List ℕ) → take (length s - n) (drop n s) ≡ drop n s
rest_of n s = grind (arith, common_steps)

pub returns-in-Ok-clause-value : goal.returns-in-Ok-clause-value
returns-in-Ok-clause-value c =
    uuid_read c.args.text.now (omega arith) c.in-Ok.uuid c.in-Ok.ensures.bytes
    ∙ ap (λ (t : List ℕ). Ok (c.in-Ok.uuid, t)) (ap skip (sym (rest_of 36 c.args.text.now)) ∙ sym c.skip_spaces.ensures.value)
    ∙ ap (λ (sid : List ℕ). Ok (sid, c.skip_spaces.result.now)) (sym c.into_bytes.ensures)

pub returns-in-Err-clause-value : goal.returns-in-Err-clause-value
returns-in-Err-clause-value c =
    uuid_refused c.args.text.now (omega arith) c.try_parse_ascii.result _ c.in-Err.is c.try_parse_ascii.ensures.ok
    ∙ ap (λ (f : Fault). Err f) (sym c.new-in-Err.ensures)
