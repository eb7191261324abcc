use Rattle.std.proofs.Common.{◌≡◌, Bool, true, ap, subst, ◌∙◌}
use Rattle.std.specs.Prelude.{IfOk, IfErr}
use Rattle.binary_json.specs.Values.{Json, Entries}
use Rattle.binary_json_writing.specs.Keys.{rises}
use Rattle.binary_json_writing.specs.Owned.{owned_value}
use Rattle.binary_json_writing.specs.Stored.{stored, IsRefusedEnd}
use Rattle.binary_json_writing.proofs.Built.{object_made, stored_members, member_keys, on_any}
use Rattle.binary_json_writing.proofs.builders.ObjectBuilder.finish.Goals as goal

pub returns-clause-made : goal.returns-clause-made
returns-clause-made c =
    let list = c.args.self.list in
    subst (λ (v : Json). IfOk c.finish.result (λ d. owned_value d ≡ v)) (object_made list.keyed list.entries.items c.args.self.object) c.finish.ensures.made

pub returns-clause-refused : goal.returns-clause-refused
returns-clause-refused c =
    let list = c.args.self.list in
    let first = subst (λ (b : Bool). IfErr c.finish.result (IsRefusedEnd b (stored b list.entries.items))) c.args.self.object c.finish.ensures.refused in
    subst (λ (es : Entries). IfErr c.finish.result (IsRefusedEnd true es)) (stored_members list.entries.items) first

pub returns-clause-ordered : goal.returns-clause-ordered
returns-clause-ordered c = on_any c.finish.result _ (ap rises (member_keys c.args.self.list.entries.items) ∙ c.args.self.ordered)
