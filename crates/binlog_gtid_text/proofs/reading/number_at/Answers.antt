use Rattle.std.proofs.Common.{◌≡◌, ℕ, true, sym, subst, take}
use Rattle.std.specs.Str.{all_ascii_digits}
use Rattle.binlog_gtid_text.proofs.Read.{digits_front}
use Rattle.binlog_gtid_text.proofs.reading.number_at.Goals as goal

pub value_of-requires-clause-digits : goal.value_of-requires-clause-digits
value_of-requires-clause-digits c =
    let s = c.args.text.now in
    subst (λ (k : ℕ). all_ascii_digits (take k s) ≡ true) (sym c.digits_len-count.ensures.count) (digits_front s)
