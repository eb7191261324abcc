use Rattle.std.proofs.Common.{◌≡◌, ◌∙◌, string_bytes, length, IsCharBoundary}
use Rattle.std.proofs.lemmas.Str.{IsUtf8-string_bytes}
use Rattle.binlog_values.proofs.TextFronts.{cut_behind}
use Rattle.binlog_values.proofs.decimal.Decimal.push_to.Goals as goal

pub truncate-requires : goal.truncate-requires
truncate-requires c _ =
    let is : c.len-len.result ≡ length (string_bytes c.args.text.now) = c.len-len.ensures ∙ c.args.text.now.bytes.ok.0 in
    let place : IsCharBoundary (string_bytes c.push_parts.new.text) c.len-len.result =
    rw is (cut_behind _ _ (IsUtf8-string_bytes c.args.text.now) (IsUtf8-string_bytes c.push_parts.new.text) c.in-Err.ensures.err) in
    (place.0, λ _ below. place.1 below)
