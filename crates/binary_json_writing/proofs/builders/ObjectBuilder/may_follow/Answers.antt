use Rattle.std.proofs.Common.{◌≡◌, ◌<◌, ◌-◌, ℕ, List, length, get_or, sym, subst, ap, ◌∙◌}
use Rattle.binary_json_writing.specs.Keys.{is_before}
use Rattle.binary_json_writing.specs.declared.entry.Entry.{Entry}
use Rattle.binary_json_writing.proofs.Built.{follows_last}
use Rattle.binary_json_writing.proofs.builders.ObjectBuilder.may_follow.Goals as goal

pub returns-in-Some : goal.returns-in-Some
returns-in-Some c =
    let es = c.args.self.now.list.entries.items in
    let last = c.in-Some.last.now in
    let it = c.in-Some.ensures.item in
    let is : last ≡ get_or es (length es - 1) last = subst (λ (l : List Entry). last ≡ get_or l (length l - 1) last) c.deref.ensures.value it.1 in
    let some : 0 < length es = subst (λ (l : List Entry). 0 < length l) c.deref.ensures.value it.3.0 in
    c.is_before.ensures ∙ ap (λ (k : List ℕ). is_before k c.args.key.now) c.deref-in-Some.ensures.value ∙ sym (follows_last es last c.args.key.now some is)
