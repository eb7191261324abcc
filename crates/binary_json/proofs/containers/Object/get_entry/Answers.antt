use Rattle.std.proofs.Common.{◌<◌, sym, arith}
use Rattle.binary_json.specs.Layout.{entry_count}
use Rattle.binary_json.specs.Views.{json}
use Rattle.binary_json.proofs.Reading.{at_member}
use Rattle.binary_json.proofs.containers.Object.get_entry.Goals as goal

pub returns : goal.returns
returns c =
    let self = c.args.self.now in
    let k = self.container in
    let less : c.args.index < entry_count k.kind k.bytes.now = omega (arith, c.if-index-self.false, k.count_is) in
    let is = at_member k.kind k.bytes.now c.args.index self.checked self.is_object less in
    rw c.key.ensures (sym (is.1 (json c.value.result) c.value.ensures))
