use Rattle.std.proofs.Common.{◌∷◌, [], ◌++◌, sym, ◌∙◌}
use Rattle.std.specs.Prelude.{codes, option_copied}
use Rattle.json.specs.Token.{begin_object, end_object, key}
use Rattle.binlog_json_values.specs.Parts.{exactly, exact, Shows}
use Rattle.binlog_json_values.specs.Documents.{diffs_value, document_after, after_member, diff_list_parts}
use Rattle.binlog_json_values.proofs.DiffLists.{after_has_text}
use Rattle.binlog_json_values.proofs.Parts.{shows_exact, shows_both, then_written, then_exactly}
use Rattle.binlog_json_values.proofs.documents.write_diff_list.Goals as goal

pub write_after-requires : goal.write_after-requires
write_after-requires c = λ w is. after_has_text (option_copied c.args.before) c.args.bytes.now w (sym c.in_ok-after.ensures ∙ is)

pub returns : goal.returns
unfolding diff_list_parts
returns c =
    let after = document_after (option_copied c.args.before) c.args.bytes.now in
    let begun = shows_exact _ _ (begin_object ∷ []) c.in_ok-begin_object.ensures.added in
    let named = shows_exact _ _ (key (codes "diffs") ∷ []) c.in_ok-key.ensures.added in
    let member : Shows c.write_diffs_value.new.line c.write_after.new.line (after_member after) = rw (← c.in_ok-after.ensures) c.in_ok-write_after.ensures in
    let ended = then_exactly c.end_object.result c.write_diffs_value.new.line c.write_after.new.line c.end_object.new.self (after_member after) (end_object ∷ []) member c.end_object.ensures.added in
    let behind = then_written c.end_object.result c.key.new.self c.write_diffs_value.new.line c.end_object.new.self (diffs_value c.args.bytes.now) (after_member after ++ exact (end_object ∷ [])) c.in_ok-write_diffs_value.ensures ended in
    then_written c.end_object.result c.args.line.now c.key.new.self c.end_object.new.self (exactly begin_object ∷ exactly (key (codes "diffs")) ∷ []) (diffs_value c.args.bytes.now ++ (after_member after ++ exact (end_object ∷ []))) (shows_both begun named) behind
