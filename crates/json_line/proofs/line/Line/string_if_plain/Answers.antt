use Rattle.std.proofs.Common.{◌≡◌, ◌++◌, ◌∷◌, [], true, false, List, ap, ◌∙◌, arith}
use Rattle.json.specs.Token.{Token, string}
use Rattle.json.specs.Lex.{tokens}
use Rattle.json_line.proofs.PlacedPlain.{plain_pushed, plain_tokens}
use Rattle.json_line.proofs.line.Line.string_if_plain.Goals as goal

pub returns-then-not-branch-clause-added : goal.returns-then-not-branch-clause-added
returns-then-not-branch-clause-added c =
    let hasnt : c.in_ok-add_plain.field-0 ≡ false = grind (arith, c.if-not-branch.true) in
    let same = rw hasnt at c.in_ok-add_plain.ensures.put in
    ap tokens same ∙ c.self.view_is

pub invariant_of-self-2 : goal.invariant_of-self-2
invariant_of-self-2 c =
    let has : c.in_ok-add_plain.field-0 ≡ true = grind (arith, c.if-not-branch.false) in
    let put = rw has at c.in_ok-add_plain.ensures.put in
    let plain = rw has at c.in_ok-add_plain.ensures.as_it_is in
    let ascii = rw has at c.in_ok-add_plain.ensures.ascii in
    plain_pushed c.self.inside.text.text c.self.inside.after_value c.self.invariant c.args.text.now _ plain ascii put

pub returns-clause-added : goal.returns-clause-added
returns-clause-added c =
    let has : c.in_ok-add_plain.field-0 ≡ true = grind (arith, c.if-not-branch.false) in
    let put = rw has at c.in_ok-add_plain.ensures.put in
    let plain = rw has at c.in_ok-add_plain.ensures.as_it_is in
    let ascii = rw has at c.in_ok-add_plain.ensures.ascii in
    (ascii, plain_tokens c.self.inside.text.text c.self.inside.after_value c.self.invariant c.args.text.now _ plain ascii put ∙ ap (λ (l : List Token). l ++ string c.args.text.now ∷ []) c.self.view_is)
