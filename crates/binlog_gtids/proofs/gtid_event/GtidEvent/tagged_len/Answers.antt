use Rattle.std.proofs.Common.{◌≡◌, ◌+◌, ◌<◌, ℕ, length, sym, ap, ◌∙◌, arith}
use Rattle.binlog_variable_fields.specs.Sized.{least_size}
use Rattle.binlog_gtids.specs.Tagged.{entries_written, written_size}
use Rattle.binlog_gtids.specs.Laws.TaggedWriting.{fields_length, tagged_length}
use Rattle.binlog_gtids.proofs.gtid_event.GtidEvent.tagged_len.Goals as goal

pub returns-clause-count : goal.returns-clause-count
returns-clause-count c =
    let g = c.args.self.now in
    let whole = fields_length g c.args.tag.now c.requires in
    let fields : c.first_len.result + c.last_len.result ≡ length (entries_written g) = omega (arith, whole, c.first_len.ensures.count, c.last_len.ensures.count) in
    let few : length (entries_written g) + 4 < 16384 = omega (arith, c.first_len.ensures.small, c.last_len.ensures.small) in
    let is : c.payload_size.result ≡ written_size g = c.payload_size.ensures.size ∙ ap (λ (n : ℕ). least_size (2 + n)) fields in
    is ∙ sym (tagged_length g few)
