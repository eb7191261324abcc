-- Lists of diffs that are read one after the other.
use Rattle.std.proofs.Common.{◌≡◌, ℕ, zero, suc, ◌<◌, ◌≤◌, Bool, true, false, cond, List, [], ◌∷◌, length, take, drop, Option, Some, None, Ok, Err, refl, sym, ap, ◌∙◌, length-drop, arith}
use Rattle.std.specs.Prelude.{nat_lt, is_none}
use Rattle.binary_json.specs.Values.{Json}
use Rattle.binary_json.specs.Grammar.{IsDocument}
use Rattle.binary_json.specs.Refusals.{document_refusal}
use Rattle.binary_json.specs.Decoding.{document_value}
use Rattle.binary_json.specs.declared.error.JsonError.{JsonError}
use Rattle.binary_json.specs.declared.diffs.JsonDiffError.{JsonDiffError}
use Rattle.binary_json.specs.declared.diffs.JsonDiffOperation.{JsonDiffOperation}
use Rattle.binary_json.specs.declared.diffs.JsonDiffOperation.TheVariants as operations
use Rattle.binary_json.specs.Diffs.{Diff, Read, length_bytes, length_of, and_then, counted_by, counted_in, operation_of, with_document, behind_path, behind_operation, diff_in, items_by, items_from, diff_items}
use Rattle.binary_json.proofs.Documents.{accepted}

-- ---- steps that succeed

abbrev pub ok : {A : Type 0} → A → Read A
ok x = Ok x

abbrev pub err : {A : Type 0} → JsonDiffError → Read A
err e = Err e

pub ok_is : {A : Type 0} (x y : A) → ok x ≡ ok y → x ≡ y
ok_is x y e = cc

pub err_ok : {A : Type 0} (d : JsonDiffError) (y : A) → err {A = A} d ≡ ok y → ⊥
err_ok d y e = cc

-- A test that would refuse fails.
pub goes_on : {A : Type 0} (b : Bool) (d : JsonDiffError) (r : Read A) (y : A) → cond b (err d) r ≡ ok y → (b ≡ false) × (r ≡ ok y)
goes_on true d r y e = absurd (err_ok d y e)
goes_on false d r y e = (refl, e)

pub then_ok : {A B : Type 0} (r : Read A) (f : A → Read B) (y : B) → and_then r f ≡ ok y → (x : A) × (r ≡ ok x) × (f x ≡ ok y)
then_ok (Ok x) f y e = (x, refl, e)
then_ok (Err d) f y e = absurd (err_ok d y e)

-- ---- bytes that are used up

counted_less : (o : Option ℕ) (b : ℕ) (s : List ℕ) (p : List ℕ × List ℕ) → counted_by o b s ≡ ok p → length p.1 ≤ length s
counted_less None b s p e = absurd (err_ok _ p e)
counted_less (Some w) b s p e =
    let n : ℕ = length_of b w s in
    let first = goes_on (nat_lt (length s) w) _ _ p e in
    let second = goes_on (nat_lt (length (drop w s)) n) _ _ p first.1 in
    let same : drop n (drop w s) ≡ p.1 = ap (λ (q : List ℕ × List ℕ). q.1) (ok_is (take n (drop w s), drop n (drop w s)) p second.1) in
    omega (arith, ap length same, length-drop n (drop w s), length-drop w s)

pub counted_shorter : (s : List ℕ) (p : List ℕ × List ℕ) → counted_in s ≡ ok p → length p.1 < length s
unfolding counted_in
counted_shorter [] p e = absurd (err_ok _ p e)
counted_shorter (b ∷ s) p e = omega (arith, counted_less (length_bytes b) b s p e)

with_shorter : (o : JsonDiffOperation) (path : List ℕ) (q : List ℕ × List ℕ) (r : Option JsonError) (p : Diff × List ℕ) → with_document o path q r ≡ ok p → q.1 ≡ p.1
with_shorter o path q None p e = ap (λ (x : Diff × List ℕ). x.1) (ok_is _ p e)
with_shorter o path q (Some d) p e = absurd (err_ok _ p e)

document_shorter : (o : JsonDiffOperation) (path : List ℕ × List ℕ) (p : Diff × List ℕ) → and_then (counted_in path.1) (λ q. with_document o path.0 q (document_refusal q.0)) ≡ ok p → length p.1 ≤ length path.1
document_shorter o path p e =
    let read = then_ok (counted_in path.1) (λ q. with_document o path.0 q (document_refusal q.0)) p e in
    omega (arith, counted_shorter path.1 read.0 read.1, ap length (with_shorter o path.0 read.0 (document_refusal read.0.0) p read.2))

path_shorter : (o : JsonDiffOperation) (path : List ℕ × List ℕ) (p : Diff × List ℕ) → behind_path o path ≡ ok p → length p.1 ≤ length path.1
path_shorter operations.Remove path p e = omega (arith, ap (λ (x : Diff × List ℕ). length x.1) (ok_is _ p e))
path_shorter operations.Replace path p e = document_shorter operations.Replace path p e
path_shorter operations.Insert path p e = document_shorter operations.Insert path p e

operation_shorter : (o : Option JsonDiffOperation) (s : List ℕ) (p : Diff × List ℕ) → behind_operation o s ≡ ok p → length p.1 ≤ length s
operation_shorter None s p e = absurd (err_ok _ p e)
operation_shorter (Some o) s p e =
    let read = then_ok (counted_in s) (λ path. behind_path o path) p e in
    omega (arith, counted_shorter s read.0 read.1, path_shorter o read.0 p read.2)

pub diff_shorter : (s : List ℕ) (p : Diff × List ℕ) → diff_in s ≡ ok p → length p.1 < length s
unfolding diff_in
diff_shorter [] p e = absurd (err_ok _ p e)
diff_shorter (n ∷ s) p e = omega (arith, operation_shorter (operation_of n) s p e)

-- ---- lists

-- The items behind the first diff, of which the bytes are fewer, are all that counts.
same_items : (n : ℕ) (s : List ℕ) (f g : List ℕ → List (Read Diff)) (r : Read (Diff × List ℕ)) → diff_in (n ∷ s) ≡ r → ((t : List ℕ) → length t ≤ length s → f t ≡ g t) → items_by f r ≡ items_by g r
same_items n s f g (Err e) is same = refl
same_items n s f g (Ok p) is same = ap (λ (l : List (Read Diff)). ok p.0 ∷ l) (same p.1 (omega (arith, diff_shorter (n ∷ s) p is)))

-- As many diffs as there are bytes are enough.
enough : (most more : ℕ) (s : List ℕ) → length s ≤ most → length s ≤ more → items_from most s ≡ items_from more s
unfolding items_from
enough zero zero s a b = refl
enough zero (suc more) [] a b = refl
enough zero (suc more) (n ∷ s) a b = absurd (omega arith)
enough (suc most) zero [] a b = refl
enough (suc most) zero (n ∷ s) a b = absurd (omega arith)
enough (suc most) (suc more) [] a b = refl
enough (suc most) (suc more) (n ∷ s) a b = same_items n s (items_from most) (items_from more) (diff_in (n ∷ s)) refl (λ t less. enough most more t (omega (arith, less, a)) (omega (arith, less, b)))

pub no_diffs : (s : List ℕ) → length s ≡ 0 → diff_items s ≡ []
unfolding diff_items items_from
no_diffs [] none = refl
no_diffs (n ∷ s) none = absurd (omega arith)

pub first_diff : (s : List ℕ) (d : Diff) (rest : List ℕ) → ok (d, rest) ≡ diff_in s → diff_items s ≡ ok d ∷ diff_items rest
unfolding diff_items items_from
first_diff [] d rest is = absurd (omega (arith, diff_shorter [] (d, rest) (sym is)))
first_diff (n ∷ s) d rest is =
    let less = diff_shorter (n ∷ s) (d, rest) (sym is) in
    ap (λ (r : Read (Diff × List ℕ)). items_by (items_from (length s)) r) (sym is)
    ∙ ap (λ (l : List (Read Diff)). ok d ∷ l) (enough (length s) (length rest) rest (omega (arith, less)) (omega arith))

pub first_refusal : (s : List ℕ) (e : JsonDiffError) → 0 < length s → err {A = Diff × List ℕ} e ≡ diff_in s → diff_items s ≡ err e ∷ []
unfolding diff_items items_from
first_refusal [] e some is = absurd (omega arith)
first_refusal (n ∷ s) e some is = ap (λ (r : Read (Diff × List ℕ)). items_by (items_from (length s)) r) (sym is)

-- ---- documents

none_refused : (o : Option JsonError) → is_none o ≡ true → o ≡ None
none_refused None e = refl
none_refused (Some x) e = absurd cc

pub value_of_found : (s : List ℕ) (v : Json) → IsDocument s v → (document_refusal s ≡ None) × (document_value s ≡ v)
value_of_found s v is = let both = accepted s v is in (none_refused (document_refusal s) both.0, both.1)
