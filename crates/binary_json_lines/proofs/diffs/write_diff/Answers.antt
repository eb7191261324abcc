use Rattle.std.proofs.Common.{ℕ, List, subst, sym, ap}
use Rattle.std.specs.Prelude.{IsUtf8, Option, option_map}
use Rattle.binary_json.specs.Views.{document_json}
use Rattle.binary_json.specs.Diffs.{diff_of}
use Rattle.binary_json.specs.declared.document.Document.{Document}
use Rattle.binary_json_lines.proofs.DiffLemmas.{path_is_text, diff_written}
use Rattle.binary_json_lines.proofs.diffs.write_diff.Goals as goal

pub write_head-requires : goal.write_head-requires
write_head-requires c = subst (λ (path : List ℕ). IsUtf8 path) (sym c.path.ensures) (path_is_text (diff_of c.args.diff.now) c.requires)

pub returns : goal.returns
returns c = diff_written c.end_object.result c.args.line.now c.write_head.new.line c.write_value_member.new.line c.end_object.new.self (diff_of c.args.diff.now) c.operation.result c.path.result.now c.document.result c.operation.ensures c.path.ensures (ap (λ (x : Option Document). option_map document_json x) c.document.ensures) c.in_ok-write_head.ensures c.in_ok-write_value_member.ensures c.end_object.ensures.added
