-- What iterators have left.
use Rattle.std.specs.Prelude.{ℕ, List, drop}
use Rattle.std.specs.Borrow.{Bor}
use Rattle.binary_json.specs.Values.{Json}
use Rattle.binary_json.specs.Views.{elements, members, json}
use Rattle.binary_json.specs.declared.value.Value.{Value}
use Rattle.binary_json.specs.declared.iterators.Elements.{Elements}
use Rattle.binary_json.specs.declared.iterators.Members.{Members}

-- The values of an array that are left.
abbrev pub elements_left : Elements → List Json
elements_left e = drop e.index (elements e.array)

-- The members of an object that are left.
abbrev pub members_left : Members → List (List ℕ × Json)
members_left m = drop m.index (members m.object)

-- A key and a value.
abbrev pub member_of : Bor (List ℕ) × Value → List ℕ × Json
member_of p = (p.0.now, json p.1)
