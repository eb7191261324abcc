-- The encodings of non-negative signed numbers and of field ids decode to them.
use Rattle.std.proofs.Common.{◌≡◌, ℕ, ◌*◌, ◌/◌, ◌%◌, ◌^◌, ◌<◌, refl, arith, suc}
use Rattle.std.proofs.lemmas.Bool.{lt-ltb}
use Rattle.binlog_wire.specs.Formats.{anywhere}
use Rattle.binlog_variable_fields.specs.Formats.{varlen}
use Rattle.binlog_variable_fields.specs.Chosen.{IsChoice}
use Rattle.binlog_gtids.specs.FieldIds.{last_known_id}
use Rattle.binlog_gtids.specs.TaggedValues.{halved, known}

-- ---- values

pub halved_choice : (id : ℕ) → IsChoice {place = anywhere} varlen (halved id) (λ y. 2 * y) (λ y. y) (λ y. y < 2 ^ 63)
halved_choice id = record {
  fits = λ y fits. omega arith;
  shows = λ y fits.
      let even : 2 * y % 2 ≡ 0 = omega arith in
      let half : 2 * y / 2 ≡ y = omega arith in
      rw (even, half) refl;
  settled = λ s a r b h d. refl;
  twice = λ b. refl;
  again = λ y fits. refl;
}

-- ---- fields

pub known_choice : IsChoice {place = anywhere} varlen known (λ id. id) (λ id. id) (λ id. id < suc last_known_id)
known_choice = record {
  fits = λ id fits. omega arith;
  shows = λ id fits. rw (lt-ltb id (suc last_known_id) fits) refl;
  settled = λ s a r b h d. refl;
  twice = λ b. refl;
  again = λ id fits. refl;
}
