use Rattle.std.proofs.Common.{◌≡◌, Bool, false, subst}
use Rattle.std.specs.Prelude.{IfOk, IfErr}
use Rattle.binary_json.specs.Values.{Json, Entries}
use Rattle.binary_json_writing.specs.Owned.{owned_value}
use Rattle.binary_json_writing.specs.Stored.{stored, IsRefusedEnd}
use Rattle.binary_json_writing.proofs.Built.{array_made, stored_elements}
use Rattle.binary_json_writing.proofs.builders.ArrayBuilder.finish.Goals as goal

pub returns-clause-made : goal.returns-clause-made
returns-clause-made c =
    let list = c.args.self.list in
    subst (λ (v : Json). IfOk c.finish.result (λ d. owned_value d ≡ v)) (array_made list.keyed list.entries.items c.args.self.array) c.finish.ensures.made

pub returns-clause-refused : goal.returns-clause-refused
returns-clause-refused c =
    let list = c.args.self.list in
    let first = subst (λ (b : Bool). IfErr c.finish.result (IsRefusedEnd b (stored b list.entries.items))) c.args.self.array c.finish.ensures.refused in
    subst (λ (es : Entries). IfErr c.finish.result (IsRefusedEnd false es)) (stored_elements list.entries.items) first
