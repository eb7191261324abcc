-- Strings after a length-encoded length.
-- Source: MySQL's documentation, "Protocol::LengthEncodedString".
use Rattle.std.proofs.Common.{ℕ, List, length, refl, ap}
use Rattle.binlog_wire.specs.Formats.{Format, anywhere, block, then, made}
use Rattle.binlog_variable_fields.specs.Formats.{lenenc}

-- A length and then as many bytes.
abbrev pub lenenc_text : Format anywhere (List ℕ)
lenenc_text = made {A = ℕ × List ℕ} (λ x. x.1) (λ t. (length t, t)) (then lenenc (λ n. block n)) (λ s x r h. ap (λ (n : ℕ). (n, x.1)) h.2.0) (λ t. refl)
