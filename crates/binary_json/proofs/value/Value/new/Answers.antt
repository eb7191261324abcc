use Rattle.std.proofs.Common.{◌≡◌, ℕ, true, drop, sym, ap, subst, ◌∙◌, arith}
use Rattle.std.proofs.lemmas.List.{take_rest}
use Rattle.binary_json.specs.Layout.{text}
use Rattle.binary_json.specs.Decoding.{is_readable}
use Rattle.binary_json.proofs.Reading.{at_opaque, at_fixed}
use Rattle.binary_json.proofs.value.Value.new.Goals as goal

pub invariant_of-result : goal.invariant_of-result
invariant_of-result c =
    let s = c.args.bytes.now in
    let read = at_opaque s (subst (λ (k : ℕ). is_readable k s ≡ true) c.in-15.is c.requires) in
    let is : c.text-in-15.result.now ≡ text (drop 1 s) = c.text-in-15.ensures ∙ ap text (take_rest s 1) in
    record { fits = rw is read.1 }

pub fixed-requires-clause-known : goal.fixed-requires-clause-known
fixed-requires-clause-known c = (at_fixed c.args.kind c.args.bytes.now c.requires (omega arith) (λ h. omega (arith, h)) (λ h. omega (arith, h))).0

pub fixed-requires-clause-enough : goal.fixed-requires-clause-enough
fixed-requires-clause-enough c = (at_fixed c.args.kind c.args.bytes.now c.requires (omega arith) (λ h. omega (arith, h)) (λ h. omega (arith, h))).1

pub returns-in-15 : goal.returns-in-15
returns-in-15 c =
    let s = c.args.bytes.now in
    let read = at_opaque s (subst (λ (k : ℕ). is_readable k s ≡ true) c.in-15.is c.requires) in
    let is : c.text-in-15.result.now ≡ text (drop 1 s) = c.text-in-15.ensures ∙ ap text (take_rest s 1) in
    rw (is, c.in-15.is) (sym read.2)
