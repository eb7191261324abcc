-- Strings after a variable-length length.
-- Source: MySQL's documentation of its serialization library, "String encoding".
use Rattle.std.proofs.Common.{ℕ, List, length, refl, ap}
use Rattle.binlog_wire.specs.Formats.{Format, anywhere, block, then, made}
use Rattle.binlog_variable_fields.specs.Formats.{varlen}

-- A length and then as many bytes.
abbrev pub varlen_text : Format anywhere (List ℕ)
varlen_text = made {A = ℕ × List ℕ} (λ x. x.1) (λ t. (length t, t)) (then varlen (λ n. block n)) (λ s x r h. ap (λ (n : ℕ). (n, x.1)) h.2.0) (λ t. refl)
