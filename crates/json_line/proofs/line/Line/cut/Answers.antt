use Rattle.std.proofs.Common.{◌∙◌}
use Rattle.json_line.proofs.Marks.{cut_from, in_line, kept, cut_line, cut_tokens}
use Rattle.json_line.proofs.line.Line.cut.Goals as goal

pub cut-requires : goal.cut-requires
cut-requires c = in_line c.self.inside.text.text c.self.inside.after_value c.args.mark c.self.invariant (cut_from c.args.mark c.self.view_is c.requires)

pub invariant_of-self : goal.invariant_of-self
invariant_of-self c =
    let cut = c.cut.ensures ∙ kept c.self.inside.text.text c.self.inside.after_value c.args.mark c.requires.before c.requires.after c.self.invariant c.requires.stands (c.self.view_is ∙ c.requires.is) in
    cut_line c.cut.new.self.text c.args.mark c.requires.before c.requires.stands cut

pub returns : goal.returns
returns c = λ before after stands is.
    let cut = c.cut.ensures ∙ kept c.self.inside.text.text c.self.inside.after_value c.args.mark before after c.self.invariant stands (c.self.view_is ∙ is) in
    cut_tokens c.cut.new.self.text c.args.mark before stands cut
