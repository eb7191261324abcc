use Rattle.std.proofs.Common.{◌≡◌, refl}
use Rattle.binlog_filters.proofs.TakenLines.{taken_lines}
use Rattle.binlog_filters.proofs.laws.taken_lines.Goals as goal

pub returns : goal.returns
returns g c maps index items old new visited =
    let line = g.L.ItemLines.line in
    taken_lines (λ writer. g.W.WriteCounted.contents writer.output) (λ maps index item text. text ≡ line index item) _
    (λ before maps at item after wrote. record { line = line at item; is = refl; written = wrote.0 }) maps index items old new visited
