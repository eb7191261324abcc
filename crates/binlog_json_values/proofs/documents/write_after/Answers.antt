use Rattle.std.proofs.Common.{◌∷◌, []}
use Rattle.std.specs.Prelude.{codes, map}
use Rattle.json.specs.Token.{key}
use Rattle.binary_json.specs.Views.{document_json}
use Rattle.binary_json_lines.specs.Documents.{value_parts}
use Rattle.binlog_json_values.specs.Parts.{exactly, in_document}
use Rattle.binlog_json_values.proofs.Parts.{shows_exact, then_written, written_document}
use Rattle.binlog_json_values.proofs.documents.write_after.Goals as goal

pub returns-in_ok-key-in-Some : goal.returns-in_ok-key-in-Some
returns-in_ok-key-in-Some c =
    let named = shows_exact _ _ (key (codes "json") ∷ []) c.in_ok-key-in-Some.ensures.added in
    let value = written_document c.write_document.result c.key.new.self c.write_document.new.line (value_parts (document_json c.document.result)) c.write_document.ensures in
    let both = then_written c.write_document.result c.args.line.now c.key.new.self c.write_document.new.line (exactly (key (codes "json")) ∷ []) (map in_document (value_parts (document_json c.document.result))) named value in
    rw (c.in-Some.is, ← c.document.ensures) both
