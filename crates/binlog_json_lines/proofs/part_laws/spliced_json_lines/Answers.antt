use Rattle.binlog_json_lines.specs.Options.{options_of}
use Rattle.binlog_json_lines.specs.declared.writer.JsonWriter.{JsonWriter}
use Rattle.binlog_json_lines.proofs.Output.{VisitsLines, of_options}
use Rattle.binlog_json_lines.proofs.PartOutput.{VisitsPartLines, of_part_options, texts_of, all_errors_of, all_first_of}
use Rattle.binlog_json_lines.proofs.part_laws.spliced_json_lines.Goals as goal

pub returns : goal.returns
returns g c =
    let contents = λ (writer : JsonWriter g.row.W.Denot). g.W.Write.contents writer.output in
    let own = λ (writer : JsonWriter g.row.W.Denot). writer.options in
    let options = λ (writer : JsonWriter g.row.W.Denot). options_of writer.options in
    let errors = λ (writer : JsonWriter g.row.W.Denot). writer.has_errors in
    let noted = λ (writer : JsonWriter g.row.W.Denot). writer.contradictions in
    let visits = VisitsLines contents own options_of errors noted in
    let parts = VisitsPartLines contents own options_of errors noted in
    let writes = of_options contents own options_of errors noted in
    let writes_part = of_part_options contents own options_of errors noted in
    record {
      lines = texts_of contents options errors noted visits parts writes writes_part;
      errors = λ maps index items old new visited.
          let all = all_errors_of contents options errors noted visits parts writes writes_part maps index items old new visited in (all.found, all.have, all.noted);
      contradictions = λ maps index items old new schema table visited.
          let first = all_first_of contents options errors noted visits parts writes writes_part maps index items old new schema table visited in (first.found, first.first, first.noted);
    }
