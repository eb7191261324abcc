use Rattle.std.proofs.Common.{ℕ, List, length, ap, subst, ◌∙◌}
use Rattle.byteorder.specs.Endian.{little_number}
use Rattle.binlog_wire.specs.Fields.{IsBytes}
use Rattle.binlog_rows.specs.Images.{bitmap_of}
use Rattle.binlog_undo.proofs.NullWords.{word_holds}
use Rattle.binlog_undo.proofs.null_word.null_word.Goals as goal

pub returns : goal.returns
returns c =
    let same = c.as_bytes-bytes.ensures in
    word_holds (bitmap_of c.args.nulls) c.number_of.result (subst IsBytes same c.are_bytes.ensures) (c.number_of.ensures ∙ ap (λ (s : List ℕ). little_number (length s) s) same)
