use Rattle.std.proofs.Common.{◌≡◌, ◌<◌, ◌≤◌, ◌+◌, ℕ, suc, subst, sym, ◌∙◌, length, arith}
use Rattle.std.specs.Prelude.{◌≢◌}
use Rattle.binary_json.specs.Layout.{entry_count, key_bytes}
use Rattle.binary_json.specs.Views.{members, json}
use Rattle.binary_json.proofs.Keys.{Passed, passed_more, found_by, none_found}
use Rattle.binary_json.proofs.Reading.{at_member, members_count}
use Rattle.binary_json.proofs.containers.Object.get.Goals as goal

pub members-preserved : goal.members-preserved
members-preserved c =
    let ms = members c.args.self.now in
    let other : c.key.result.now ≢ c.as_bytes.result.now = rw c.if-are_same.false at c.are_same.ensures.other in
    let differs : c.key.result.now ≢ c.args.key.now = rw c.as_bytes.ensures.value at other in
    let next : suc c.members.index ≡ c.members.index + 1 = omega arith in
    subst (λ (i : ℕ). Passed c.args.key.now i ms) next (passed_more c.args.key.now ms c.members.index c.key.result.now c.members.invariant c.key.ensures differs)

pub returns-then-are_same : goal.returns-then-are_same
returns-then-are_same c =
    let self = c.args.self.now in
    let k = self.container in
    let i = c.members.index in
    let less : i < entry_count k.kind k.bytes.now = omega (arith, c.members-test.true, k.count_is) in
    let same : c.key.result.now ≡ c.as_bytes.result.now = rw c.if-are_same.true at c.are_same.ensures.same in
    let is = (at_member k.kind k.bytes.now i self.checked self.is_object less).1 (json c.value.result) c.value.ensures in
    found_by c.args.key.now (members self) i (key_bytes k.kind k.bytes.now i, json c.value.result) c.key.result.now c.members.invariant is c.key.ensures (same ∙ c.as_bytes.ensures.value)

pub returns : goal.returns
returns c =
    let self = c.args.self.now in
    let k = self.container in
    let past : length (members self) ≤ c.members.index = omega (arith, c.members-test.false, k.count_is, members_count k.kind k.bytes.now self.checked self.is_object) in
    none_found c.args.key.now (members self) c.members.index c.members.invariant past
