use Rattle.std.proofs.Common.{◌≡◌, ◌<◌, true, arith}
use Rattle.binary_json.specs.Layout.{entry_count, is_inlined, value_type}
use Rattle.binary_json.proofs.Reading.{at_inlined}
use Rattle.binary_json.proofs.container.Container.value.Goals as goal

pub returns-then-is_inlined : goal.returns-then-is_inlined
returns-then-is_inlined c =
    let self = c.args.self.now in
    let less : c.args.index < entry_count self.kind self.bytes.now = omega (arith, c.requires.known, self.count_is) in
    let kind : is_inlined self.kind (value_type self.kind self.bytes.now c.args.index) ≡ true = cc (c.is_inlined.ensures, c.if-is_inlined.true, c.value_type-kind.ensures) in
    let is = at_inlined self.kind self.bytes.now c.args.index c.requires.checked self.known less kind in
    cc (is.value, c.fixed.ensures, c.inlined_bytes.ensures.is, c.value_type-kind.ensures)
