-- Diffs that are applied one after the other.
use Rattle.std.proofs.Common.{◌≡◌, true, List, ◌∷◌, Ok, sym, subst, inl, inr}
use Rattle.binary_json.specs.Values.{Json}
use Rattle.binary_json.specs.Diffs.{Diff, Read}
use Rattle.binary_json_writing.specs.Applied.{Makes, IsRefused, AreRefused, can_be_written, AllWrite}
use Rattle.binary_json_writing.specs.declared.applying.JsonApplyError.{JsonApplyError}

abbrev pub ok : Diff → Read Diff
ok d = Ok d

pub made_more : (left rest : List (Read Diff)) (d : Diff) (v u w : Json) → left ≡ ok d ∷ rest → can_be_written v ≡ true → Makes d v u → AllWrite rest u w → AllWrite left v w
made_more left rest d v u w is can one others = subst (λ (l : List (Read Diff)). AllWrite l v w) (sym is) (can, (u, one, others))

pub refused_more : (left rest : List (Read Diff)) (d : Diff) (v u : Json) (e : JsonApplyError) → left ≡ ok d ∷ rest → Makes d v u → AreRefused rest u e → AreRefused left v e
refused_more left rest d v u e is one others = subst (λ (l : List (Read Diff)). AreRefused l v e) (sym is) (inr (u, one, others))

pub refused_here : (left rest : List (Read Diff)) (d : Diff) (v : Json) (e : JsonApplyError) → left ≡ ok d ∷ rest → IsRefused d v e → AreRefused left v e
refused_here left rest d v e is why = subst (λ (l : List (Read Diff)). AreRefused l v e) (sym is) (inl why)
