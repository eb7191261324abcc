-- Lists of texts.
-- Source: MySQL's documentation of its source code, `mysql::binlog::event::Table_map_event::Optional_metadata_fields`.
use Rattle.std.proofs.Common.{ℕ, List, length, ap}
use Rattle.binlog_wire.specs.Formats.{Format, anywhere, then, made, unit}
use Rattle.binlog_variable_fields.specs.Formats.{lenenc, times}
use Rattle.binlog_variable_fields.specs.LenEncTexts.{lenenc_text}
use Rattle.binlog_variable_fields.specs.Laws.Repeated.{length-each_normal}
use Rattle.binlog_variable_fields.specs.Repeated.{each_normal}

-- This many texts. There have to be as many bytes, before the first is looked at.
abbrev pub texts : ℕ → Format anywhere (List (List ℕ))
texts count = unit (times count lenenc_text)

-- A count, and then as many texts.
abbrev pub text_list : Format anywhere (List (List ℕ))
text_list = made {A = ℕ × List (List ℕ)} (λ x. x.1) (λ ts. (length ts, ts)) (then lenenc texts)
    (λ s x r h. ap (λ (n : ℕ). (n, x.1)) h.2.0)
    (λ ts. ap (λ (n : ℕ). (n, each_normal lenenc_text.normal ts)) (length-each_normal lenenc_text.normal ts))
