use Rattle.std.proofs.Common.{◌≤◌, List, max, sym, subst, ◌∙◌, arith}
use Rattle.binary_json_writing.specs.declared.entry.Entry.{Entry}
use Rattle.binary_json_writing.proofs.Stored.{IsList, one, one_more}
use Rattle.binary_json_writing.proofs.list.EntryList.push.Goals as goal

pub invariant_of-self-2 : goal.invariant_of-self-2
invariant_of-self-2 c =
    let self = c.args.self.now in
    let e : Entry = record { key = c.args.key; value = c.args.value.bytes } in
    let are : IsList self.keyed self.entries.items self.depth = record { exact = self.exact; possible = self.possible; deep = self.deep } in
    let is = one self.keyed e c.args.value.depth c.args.value.exact c.args.value.possible c.args.value.deep c.requires.key c.requires.held in
    let more = one_more self.keyed self.entries.items e self.depth c.args.value.depth are is in
    let full = subst (λ (l : List Entry). IsList self.keyed l (max self.depth c.args.value.depth)) (sym c.in_ok-push.ensures.items) more in
    let low : c.deeper-self.result ≤ 100 = omega (arith, c.deeper-self.ensures, self.shallow, c.args.value.shallow) in
    record { exact = full.exact; possible = full.possible; deep = c.deeper-self.ensures ∙ full.deep; shallow = low }
