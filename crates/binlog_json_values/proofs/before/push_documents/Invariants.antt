use Rattle.std.proofs.Common.{◌≡◌, ◌++◌, map}
use Rattle.std.specs.Prelude.{option_copied}
use Rattle.binlog_images.specs.ImageCells.{cells_of}
use Rattle.binlog_json_values.specs.Rows.{document_in}
use Rattle.binlog_json_values.proofs.before.push_documents.Given as goal

-- The documents so far, with those of the columns that are left, are all of them.
abbrev pub invariant-columns : goal.invariant-columns
invariant-columns l = map option_copied l.documents.items ++ map document_in (cells_of l.value-iterator) ≡ map document_in (cells_of l.image)
