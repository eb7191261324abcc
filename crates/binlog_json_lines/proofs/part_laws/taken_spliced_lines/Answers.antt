use Rattle.std.proofs.Common.{ℕ, refl, subst}
use Rattle.binlog_filters.proofs.TakenLines.{taken_lines}
use Rattle.binlog_payload_visits.specs.declared.spliced.Spliced.{Spliced}
use Rattle.binlog_json_lines.specs.Options.{RowOptions, options_of}
use Rattle.binlog_json_lines.specs.PartOutput.{IsTextIn}
use Rattle.binlog_json_lines.specs.declared.writer.JsonWriter.{JsonWriter}
use Rattle.binlog_json_lines.proofs.Kept.{filters_set}
use Rattle.binlog_json_lines.proofs.Output.{VisitsLines, of_options}
use Rattle.binlog_json_lines.proofs.PartOutput.{VisitsPartLines, of_part_options, SplicesEach, item_of, settings, same_settings}
use Rattle.binlog_json_lines.proofs.part_laws.taken_spliced_lines.Goals as goal

pub returns : goal.returns
returns g c maps index items old new visited =
    let contents = λ (writer : JsonWriter g.row.W.Denot). g.W.Write.contents writer.output in
    let own = λ (writer : JsonWriter g.row.W.Denot). writer.options in
    let options = λ (writer : JsonWriter g.row.W.Denot). options_of writer.options in
    let errors = λ (writer : JsonWriter g.row.W.Denot). writer.has_errors in
    let noted = λ (writer : JsonWriter g.row.W.Denot). writer.contradictions in
    let visits = VisitsLines contents own options_of errors noted in
    let parts = VisitsPartLines contents own options_of errors noted in
    let one = item_of contents options errors noted visits parts (of_options contents own options_of errors noted) (of_part_options contents own options_of errors noted) in
    let is = settings options old.visitor in
    taken_lines (λ (spliced : Spliced (JsonWriter g.row.W.Denot)). contents spliced.visitor) (IsTextIn old.visitor.limit (options old.visitor.visitor)) _
    (λ before maps at item after wrote.
    let text = one before.limit maps at item before.visitor after.visitor wrote.0.0 in
    record { line = text.text; is = subst (λ (s : ℕ × RowOptions). IsTextIn s.0 s.1 maps at item text.text) wrote.1 text.is; written = text.written })
    maps index items old new
    (filters_set (settings options) (SplicesEach contents options errors noted visits parts (of_options contents own options_of errors noted) (of_part_options contents own options_of errors noted))
    (λ before maps at item after wrote. same_settings options before after wrote.1 (one before.limit maps at item before.visitor after.visitor wrote.0).kept) is maps index items old new refl visited)
