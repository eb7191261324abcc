use Rattle.std.proofs.Common.{◌≡◌, List, ℕ, length, take, drop, take_at, ap, sym, ◌∙◌, rules}
use Rattle.json.proofs.Printed.Places.{Placed-then}
use Rattle.json_line.proofs.PlacedPlain.{refused_kept}
use Rattle.json_line.proofs.buffer.Buffer.put_plain.Goals as goal

pub returns-then-not-place_plain-clause-put : goal.returns-then-not-place_plain-clause-put
returns-then-not-place_plain-clause-put c =
    let old : c.args.self.now.text ≡ take c.self.inside.len c.self.inside.bytes.items = search rules in
    let items : c.as_mut_slice-memory.result.now ≡ c.self.inside.bytes.items = search rules in
    let begun = Placed-then c.place_comma-start.ensures c.place_byte-start.ensures in
    let whole : length c.place_plain.new.memory ≡ c.self.inside.bytes.len = c.place_plain.ensures.len ∙ begun.len ∙ c.as_mut_slice-memory.ensures.len in
    let written = take_at c.place_plain.new.memory (drop (length c.place_plain.new.memory) c.self.inside.bytes.items) c.self.inside.bytes.len whole in
    ap (λ (l : List ℕ). take c.self.inside.len l) written ∙ refused_kept c.place_plain.new.memory (search rules) begun c.place_plain.ensures.kept
    ∙ ap (λ (l : List ℕ). take c.self.inside.len l) items ∙ sym old
