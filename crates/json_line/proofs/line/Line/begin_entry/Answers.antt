use Rattle.std.proofs.Common.{◌∷◌, ◌++◌, [], codes, ap, ◌∙◌}
use Rattle.json.specs.Token.{begin_object, key, string}
use Rattle.json_line.specs.Buffers.{comma}
use Rattle.json_line.proofs.Members.{entry_begun, entry_tokens}
use Rattle.json_line.proofs.line.Line.begin_entry.Goals as goal

pub invariant_of-self-2 : goal.invariant_of-self-2
invariant_of-self-2 c =
    entry_begun _ _ c.self.invariant c.args.key.now c.requires c.utf8.key _
    (c.in_ok-add_between.ensures ∙ ap (λ text. c.self.inside.text.text ++ (comma c.self.inside.after_value ++ (codes "{\"key\":\"" ++ (text ++ codes "\",\"value\":")))) c.as_bytes.ensures.value)

pub returns-clause-added : goal.returns-clause-added
returns-clause-added c =
    entry_tokens _ _ c.self.invariant c.args.key.now c.requires c.utf8.key _
    (c.in_ok-add_between.ensures ∙ ap (λ text. c.self.inside.text.text ++ (comma c.self.inside.after_value ++ (codes "{\"key\":\"" ++ (text ++ codes "\",\"value\":")))) c.as_bytes.ensures.value)
    ∙ ap (λ l. l ++ begin_object ∷ key (codes "key") ∷ string c.args.key.now ∷ key (codes "value") ∷ []) c.self.view_is
