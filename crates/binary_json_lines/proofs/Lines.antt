-- Lines of base64 that are written one after the other.
use Rattle.std.proofs.Common.{◌≡◌, ℕ, suc, ◌+◌, ◌-◌, ◌*◌, ◌<◌, List, [], ◌∷◌, ◌++◌, take, drop, ap, ◌∙◌, append_assoc, arith}
use Rattle.std.proofs.lemmas.List.{drop-drop}
use Rattle.base64.specs.Engines.{standard}
use Rattle.base64.specs.GeneralPurpose.{encode_of}
use Rattle.binary_json_lines.specs.Opaques.{base64_lines}

-- One more line.
pub line_step : (text all s : List ℕ) (count index : ℕ) → index < count → text ++ base64_lines (count - index) (drop (index * 57) s) ≡ all
    → ((text ++ encode_of standard (take 57 (drop (index * 57) s))) ++ 10 ∷ []) ++ base64_lines (count - (index + 1)) (drop ((index + 1) * 57) s) ≡ all
line_step text all s count index less is =
    let left : count - index ≡ suc (count - (index + 1)) = omega arith in
    let place : index * 57 + 57 ≡ (index + 1) * 57 = omega arith in
    let line = encode_of standard (take 57 (drop (index * 57) s)) in
    let rest = base64_lines (count - (index + 1)) (drop ((index + 1) * 57) s) in
    let there : drop 57 (drop (index * 57) s) ≡ drop ((index + 1) * 57) s = drop-drop 57 (index * 57) s ∙ ap (λ (k : ℕ). drop k s) place in
    let same : text ++ (line ++ 10 ∷ [] ++ rest) ≡ all = rw there at (rw left at is) in
    rw (append_assoc (text ++ line) (10 ∷ []) rest, append_assoc text line (10 ∷ [] ++ rest)) (rw append_assoc at same)

pub line_written : (text mid new all s line : List ℕ) (count index : ℕ) → index < count → text ++ base64_lines (count - index) (drop (index * 57) s) ≡ all → line ≡ take 57 (drop (index * 57) s)
    → mid ≡ text ++ encode_of standard line → new ≡ mid ++ 10 ∷ [] → new ++ base64_lines (count - (index + 1)) (drop ((index + 1) * 57) s) ≡ all
line_written text mid new all s line count index less is part encoded pushed = rw (pushed, encoded, part) (line_step text all s count index less is)
