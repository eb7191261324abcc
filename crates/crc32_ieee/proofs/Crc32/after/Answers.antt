use Rattle.std.proofs.Common.{ℕ, ap, sym, ◌∙◌, arith}
use Rattle.std.specs.Int.RustNames.{bit_xor}
use Rattle.crc32_ieee.specs.Crc32.{after_bits}
use Rattle.crc32_ieee.proofs.Linear.{word_taken, half_taken, byte_taken, behind_bytes, none_left}
use Rattle.crc32_ieee.proofs.Crc32.after.Goals as goal
use Rattle.crc32_ieee.proofs.Crc32.after.Goals.{in-Some-split_first_chunk, in_default-split_first_chunk}

pub words-preserved : goal.words-preserved
words-preserved c =
    let parts = c.in-Some.ensures.cases in
    let looked = c.after_word-crc.ensures ∙ (λ i. after_bits 64 (bit_xor (c.from_le_bytes.ensures i) (c.from.ensures i))) in (
      word_taken c.words.crc _ c.words.rest.now c.in-Some.word.now c.in-Some.behind.now c.words.invariant.1 (omega (arith, parts.2)) parts.0 parts.1 looked ∙ c.words.invariant.0,
      behind_bytes c.words.rest.now c.in-Some.behind.now c.words.invariant.1 parts.1,
    )

pub bytes-init : goal.bytes-init
bytes-init c =
    elim c.match-split_first_chunk-2.branch [
      | in-Some-split_first_chunk w ↦
          let parts = w.in-Some-split_first_chunk.ensures.cases in
          let looked = w.after_half-crc.ensures ∙ ap (λ (x : ℕ). after_bits 32 (bit_xor x c.words.crc)) w.from_le_bytes-in-Some-split_first_chunk.ensures in
          rw (w.crc-is, w.rest-is)
          (half_taken c.words.crc _ c.words.rest.now w.in-Some-split_first_chunk.half.now w.in-Some-split_first_chunk.behind.now c.words.invariant.1 (omega (arith, parts.2)) parts.0 parts.1 looked
          ∙ c.words.invariant.0)
      | in_default-split_first_chunk w ↦ rw (w.crc-is, w.rest-is) c.words.invariant.0
    ]

pub bytes-preserved : goal.bytes-preserved
bytes-preserved c =
    byte_taken c.bytes.crc _ c.in-Some-split_first.byte.now c.bytes.rest.now c.in-Some-split_first.behind.now c.in-Some-split_first.ensures.cases.0 c.after_byte-crc.ensures
    ∙ c.bytes.invariant

pub returns : goal.returns
returns c = sym (none_left c.bytes.crc c.bytes.rest.now c.in_default-split_first.ensures.cases) ∙ c.bytes.invariant
