-- The extra bytes that are written encode what is kept of them; so does a value that isn't kept.
use Rattle.std.specs.Prelude.{◌≡◌, ℕ, ◌+◌, ◌-◌, List, ◌++◌, length, Ok, refl}
use Rattle.std.proofs.Common.{ap, arith}
use Rattle.std.proofs.lemmas.List.{length-take, take_all}
use Rattle.binlog_wire.specs.Fields.{little_bytes}
use Rattle.binlog_wire.specs.Formats.{Place, Format}
use Rattle.binlog_variable_fields.specs.Chosen.{IsChoice}
use Rattle.binlog_rows.specs.ExtraBytes.{kept_extra, counted}

-- ---- extra bytes

pub extra_choice : {place : Place} → IsChoice (counted {place = place}) (λ x. Ok x.1) (λ s. (2 + length (kept_extra s), kept_extra s)) kept_extra (λ s. Unit {0})
extra_choice = record {
  fits = λ s fits. (omega (arith, length-take 65533 s), omega (arith, length-take 65533 s));
  shows = λ s fits. refl;
  settled = λ s a r b h d.
      let same : a.1 ≡ b = cc in
      take_all 65533 b (rw (← same) (omega (arith, h.1.0, h.2.0)));
  twice = λ s. take_all 65533 (kept_extra s) (omega (arith, length-take 65533 s));
  again = λ s fits. ap (λ (t : List ℕ). little_bytes 2 (2 + length t) ++ t) (take_all 65533 (kept_extra s) (omega (arith, length-take 65533 s)));
}

pub forgotten_choice : {place : Place} {V W : Type 0} (x : W) (v : V) (f : Format place V) → IsChoice f (λ u. Ok x) (λ w. v) (λ w. x) (λ w. f.Fits v)
forgotten_choice {V = V} {W = W} x v f = record {
  fits = λ w fits. fits;
  shows = λ w fits. refl;
  settled = λ s a r b h d. let same : x ≡ b = cc in same;
  twice = λ w. refl;
  again = λ w fits. refl;
}
