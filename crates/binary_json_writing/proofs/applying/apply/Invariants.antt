use Rattle.binary_json.specs.Values.{Json}
use Rattle.binary_json.specs.Views.{document_json}
use Rattle.binary_json.specs.Diffs.{diffs_left}
use Rattle.binary_json_writing.specs.Owned.{owned_value}
use Rattle.binary_json_writing.specs.Applied.{AllWrite, AreRefused}
use Rattle.binary_json_writing.specs.declared.applying.JsonApplyError.{JsonApplyError}
use Rattle.binary_json_writing.proofs.applying.apply.Given as goal

-- What the diffs that are left do with the document so far, all of them do with the first one.
abbrev pub invariant-diffs : goal.invariant-diffs
invariant-diffs l = record {
  made : (w : Json) → AllWrite (diffs_left l.item-iterator) (owned_value l.current) w → AllWrite (diffs_left l.fn.diffs) (document_json l.fn.document) w;
  refused : (e : JsonApplyError) → AreRefused (diffs_left l.item-iterator) (owned_value l.current) e → AreRefused (diffs_left l.fn.diffs) (document_json l.fn.document) e;
}
