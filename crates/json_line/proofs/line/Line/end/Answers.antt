use Rattle.std.proofs.Common.{◌≡◌, ℕ, Bool, List, ◌++◌, IsUtf8, subst, sym, ap, ◌∙◌}
use Rattle.std.proofs.lemmas.Result.{IfOk-from_err}
use Rattle.json.specs.Lex.{tokens}
use Rattle.json.specs.Print.{print}
use Rattle.json.specs.Token.{Token}
use Rattle.json_line.specs.Lines.{IsLine}
use Rattle.json_line.proofs.OneMore.{print_shown}
use Rattle.json_line.proofs.line.Line.end.Goals as goal

text_is : (text : List ℕ) (after_value : Bool) (line : IsLine text after_value) (shown : List Token) → tokens text ≡ shown → text ≡ print shown
text_is text after_value line shown is = print_shown text after_value line ∙ ap print is

pub returns-in_err-put_behind : goal.returns-in_err-put_behind
returns-in_err-put_behind c =
    let is = text_is c.self.inside.text.text c.self.inside.after_value c.self.invariant c.args.self.now c.self.view_is in
    record {
      ok = IfOk-from_err c.from_residual.result _ c.from_residual.ensures.0;
      reads_back = ap tokens (sym is) ∙ c.self.view_is;
      utf8 = subst IsUtf8 is c.self.invariant.utf8;
    }

pub returns : goal.returns
returns c =
    let is = text_is c.self.inside.text.text c.self.inside.after_value c.self.invariant c.args.self.now c.self.view_is in
    record {
      ok = c.with_next.ensures ∙ ap (λ text. text ++ c.put_behind.new.self.next) (c.in_ok-put_behind.ensures.text ∙ is)
          ∙ ap (λ next. print c.args.self.now ++ next) c.in_ok-put_behind.ensures.next;
      reads_back = ap tokens (sym is) ∙ c.self.view_is;
      utf8 = subst IsUtf8 is c.self.invariant.utf8;
    }
