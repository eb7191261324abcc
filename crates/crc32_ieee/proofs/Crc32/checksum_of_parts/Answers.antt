use Rattle.std.proofs.Common.{◌≡◌, ℕ, ◌+◌, ◌-◌, ◌<◌, List, [], length, get_or, take, flat_map, refl, sym, ap, ◌∙◌, arith}
use Rattle.std.specs.Borrow.{Bor}
use Rattle.std.proofs.lemmas.List.{take_more, take_all, flat_map_more}
use Rattle.crc32_ieee.specs.Crc32.{register, crc32}
use Rattle.crc32_ieee.proofs.Linear.{register-append}
use Rattle.crc32_ieee.proofs.Crc32.checksum_of_parts.Goals as goal

abbrev bytes_of : List (Bor (List ℕ)) → List ℕ
bytes_of parts = flat_map (λ part. part.now) parts

-- The register after one more part.
one_more : (parts : List (Bor (List ℕ))) (index start crc : ℕ) (none : Bor (List ℕ)) → index < length parts → crc ≡ register start (bytes_of (take index parts))
    → register crc (get_or parts index none).now ≡ register start (bytes_of (take (index + 1) parts))
one_more parts index start crc none inside so_far =
    let part = get_or parts index none in
    ap (λ (r : ℕ). register r part.now) so_far ∙ sym (register-append start (bytes_of (take index parts)) part.now)
    ∙ ap (register start) (flat_map_more (λ (p : Bor (List ℕ)). p.now) [] (take index parts) part ∙ ap bytes_of (sym (take_more parts index none inside)))

pub loop-part-init : goal.loop-part-init
unfolding register
loop-part-init c = refl

pub loop-part-preserved : goal.loop-part-preserved
loop-part-preserved c = c.after-crc.ensures ∙ one_more c.args.parts.now c.loop-part.part-index 4294967295 c.loop-part.crc _ (omega (arith, c.loop-part-test.true)) c.loop-part.invariant

pub returns : goal.returns
unfolding crc32
returns c =
    let all : take c.loop-part.part-index c.args.parts.now ≡ c.args.parts.now = take_all c.loop-part.part-index c.args.parts.now (omega (arith, c.loop-part-test.false)) in
    ap (λ (x : ℕ). 4294967295 - x) (c.loop-part.invariant ∙ ap (λ (l : List (Bor (List ℕ))). register 4294967295 (bytes_of l)) all)
