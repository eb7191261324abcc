use Rattle.std.proofs.Common.{◌≡◌, ◌+◌, ◌<◌, ◌∷◌, decimal, length, ap, ◌∙◌, rules, string_bytes}
use Rattle.binlog_json_values.proofs.PlainTexts.{plain_name}
use Rattle.binlog_json_values.proofs.names.NumberedNames.name.Goals as goal

pub returns : goal.returns
returns c =
    let below : c.args.index < length c.if-len-index.self.names.items = search rules in
    let named : c.as_str.result.now ≡ 64 ∷ decimal (c.args.index + 1) =
    c.as_str.ensures.value ∙ ap string_bytes c.index.ensures ∙ c.if-len-index.self.numbered c.args.index c.index.result.now below in
    record { name = named; plain = rw named (plain_name (c.args.index + 1) c.requires) }
