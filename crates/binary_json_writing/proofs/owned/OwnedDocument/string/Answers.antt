use Rattle.std.proofs.Common.{◌^◌, ℕ, List, ◌++◌, length, ap, ◌∙◌, arith}
use Rattle.std.proofs.lemmas.Bool.{lt-ltb}
use Rattle.binary_json.specs.Values.{string}
use Rattle.binary_json_writing.specs.Written.{counted_bytes}
use Rattle.binary_json_writing.proofs.owned.OwnedDocument.string.Goals as goal

pub of_scalar-requires : goal.of_scalar-requires
of_scalar-requires c =
    let is = c.in_ok-push_counted.ensures ∙ ap (λ (s : List ℕ). s ++ counted_bytes c.args.text.now) c.in_ok-bytes.ensures in
    (string c.args.text.now, is, lt-ltb (length c.args.text.now) (2 ^ 32) (omega arith))

pub returns-clause-made : goal.returns-clause-made
returns-clause-made c =
    let is = c.in_ok-push_counted.ensures ∙ ap (λ (s : List ℕ). s ++ counted_bytes c.args.text.now) c.in_ok-bytes.ensures in
    c.of_scalar.ensures (string c.args.text.now) is (lt-ltb (length c.args.text.now) (2 ^ 32) (omega arith))
