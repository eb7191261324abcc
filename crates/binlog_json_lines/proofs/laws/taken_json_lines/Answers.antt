use Rattle.std.proofs.Common.{ap, refl, subst}
use Rattle.binlog_filters.proofs.TakenLines.{taken_lines}
use Rattle.binlog_json_lines.specs.Lines.{IsLineIn}
use Rattle.binlog_json_lines.specs.Options.{RowOptions, options_of}
use Rattle.binlog_json_lines.specs.declared.options.LineOptions.{LineOptions}
use Rattle.binlog_json_lines.proofs.Kept.{filters_set}
use Rattle.binlog_json_lines.proofs.laws.taken_json_lines.Goals as goal

pub returns : goal.returns
returns g c maps index items old new visited =
    taken_lines (λ writer. g.W.Write.contents writer.output) (IsLineIn (options_of old.visitor.options)) _
    (λ before maps at item after wrote. record {
      line = wrote.0.1.text;
      is = subst (λ (kept : RowOptions). IsLineIn kept maps at item wrote.0.1.text) wrote.1 (wrote.0.0, wrote.0.1.line);
      written = wrote.0.1.written;
    }) maps index items old new
    (filters_set (λ writer. options_of writer.options) _ (λ before maps at item after wrote. ap (λ (options : LineOptions). options_of options) wrote.4)
    (options_of old.visitor.options) maps index items old new refl visited)
