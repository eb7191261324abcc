use Rattle.std.proofs.Common.{◌≡◌, ℕ, List, None, Ok, sym, subst, inr, arith}
use Rattle.binary_json_writing.specs.Paths.{behind, unit_in, Spells}
use Rattle.binary_json_writing.proofs.PathLegs.{spells_more, is_over, unended}
use Rattle.binary_json_writing.proofs.paths.quoted.Goals as goal

pub bytes-preserved : goal.bytes-preserved
bytes-preserved c =
    let bytes = c.args.bytes.now in
    let rest = c.bytes.rest.now in
    let none : behind 34 rest ≡ None = sym c.in_default.ensures.is in
    let one : unit_in rest ≡ Ok (c.in_ok-byte.byte, c.in_ok-byte.others.now) = sym c.in_ok-byte.ensures.is in
    let more = spells_more c.bytes.name.items bytes rest c.in_ok-byte.others.now c.in_ok-byte.byte c.bytes.invariant.spelled none one in
    record {
      spelled = subst (λ (name : List ℕ). Spells name bytes c.in_ok-byte.others.now) (sym c.in_ok-extend_from_slice.ensures.items) more;
      short = omega (arith, c.in_ok-byte.ensures.less, c.bytes.invariant.short);
    }

pub returns-clause-refused : goal.returns-clause-refused
returns-clause-refused c =
    inr (unended c.bytes.name.items c.args.bytes.now c.bytes.rest.now c.bytes.invariant.spelled (is_over c.bytes.rest.now c.is_empty.result c.is_empty.ensures c.bytes-test.false))
