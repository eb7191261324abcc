use Rattle.std.proofs.Common.{◌≡◌, ◌<◌, ◌∙◌, List, ℕ, Some, ap, sym, arith}
use Rattle.binary_json.specs.Layout.{entry_count}
use Rattle.binary_json.proofs.Reading.{key_in, members_count}
use Rattle.binary_json.proofs.containers.Object.key.Goals as goal

pub returns : goal.returns
returns c =
    let self = c.args.self.now in
    let k = self.container in
    let less : c.args.index < entry_count k.kind k.bytes.now = omega (arith, c.requires, members_count k.kind k.bytes.now self.checked self.is_object) in
    key_in k.kind k.bytes.now c.args.index self.checked self.is_object less ∙ ap (λ (b : List ℕ). Some b) (sym c.key.ensures)
