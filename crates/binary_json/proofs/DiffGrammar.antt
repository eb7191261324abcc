-- Diffs: what is read is in the grammar, and what is in the grammar is read.
use Rattle.std.proofs.Common.{◌≡◌, ℕ, ◌<◌, ◌≤◌, Bool, true, false, cond, ◌==◌, List, [], ◌∷◌, ◌++◌, length, take, drop, map, Option, Some, None, Ok, Err, refl, sym, ap, subst, ◌∙◌, append_assoc, arith}
use Rattle.std.specs.Prelude.{nat_lt, nat_eq, is_none}
use Rattle.std.proofs.lemmas.Bool.{ltb-false, le-ltb, eqb-true}
use Rattle.std.proofs.lemmas.List.{take-append-drop, length-append, length-take-le}
use Rattle.std.proofs.Math.Seq.{take-append_seam, drop-append_seam}
use Rattle.byteorder.specs.Numbers.{little_from-append}
use Rattle.binary_json.specs.Values.{Json}
use Rattle.binary_json.specs.Grammar.{IsDocument}
use Rattle.binary_json.specs.Refusals.{document_refusal}
use Rattle.binary_json.specs.Decoding.{document_value}
use Rattle.binary_json.specs.declared.error.JsonError.{JsonError}
use Rattle.binary_json.specs.declared.diffs.JsonDiffOperation.{JsonDiffOperation}
use Rattle.binary_json.specs.declared.diffs.JsonDiffOperation.TheVariants as operations
use Rattle.binary_json.specs.Diffs.{Diff, Read, length_bytes, length_of, IsCounted, number_of, HasValue, IsDiff, AreDiffs, and_then, counted_by, counted_in, operation_of, with_document, behind_path, behind_operation, diff_in, diff_items}
use Rattle.binary_json.proofs.Documents.{found}
use Rattle.binary_json.proofs.DiffLists.{ok, err, ok_is, err_ok, goes_on, then_ok, value_of_found, no_diffs, first_diff, first_refusal}

-- ---- bytes behind their length

-- A length is that of its own bytes.
own_length : (b : ℕ) (others more : List ℕ) → length_of b (length others) (others ++ more) ≡ length_of b (length others) others
own_length b others more = ap (λ (n : ℕ). cond (nat_eq (length others) 0) b n) (little_from-append (length others) others more (omega arith))

counted_as : (b w : ℕ) (s content rest : List ℕ) → w ≤ length s → drop w s ≡ content ++ rest → length_of b w s ≡ length content → counted_by (Some w) b s ≡ ok (content, rest)
counted_as b w s content rest room behind count =
    let enough : nat_lt (length s) w ≡ false = le-ltb (length s) w room in
    let whole : nat_lt (length (drop w s)) (length_of b w s) ≡ false = le-ltb _ _ (omega (arith, count, ap length behind, length-append content rest)) in
    let front : take (length_of b w s) (drop w s) ≡ content = ap (λ (n : ℕ). take n (drop w s)) count ∙ ap (λ (t : List ℕ). take (length content) t) behind ∙ take-append_seam content rest in
    let back : drop (length_of b w s) (drop w s) ≡ rest = ap (λ (n : ℕ). drop n (drop w s)) count ∙ ap (λ (t : List ℕ). drop (length content) t) behind ∙ drop-append_seam content rest in
    rw (enough, whole) (ap (λ (t : List ℕ). ok (t, drop (length_of b w s) (drop w s))) front ∙ ap (λ (t : List ℕ). ok (content, t)) back)

pub counted_complete : (content front rest : List ℕ) → IsCounted content front → counted_in (front ++ rest) ≡ ok (content, rest)
unfolding counted_in
counted_complete content front rest is =
    let w : ℕ = length is.others in
    let s : List ℕ = (is.others ++ content) ++ rest in
    let apart : s ≡ is.others ++ (content ++ rest) = append_assoc is.others content rest in
    let room : w ≤ length s = omega (arith, ap length apart, length-append is.others (content ++ rest)) in
    let behind : drop w s ≡ content ++ rest = ap (λ (t : List ℕ). drop w t) apart ∙ drop-append_seam is.others (content ++ rest) in
    let count : length_of is.first w s ≡ length content = ap (λ (t : List ℕ). length_of is.first w t) apart ∙ own_length is.first is.others (content ++ rest) ∙ sym is.counts in
    ap (λ (t : List ℕ). counted_in (t ++ rest)) is.parts ∙ ap (λ (o : Option ℕ). counted_by o is.first s) is.width ∙ counted_as is.first w s content rest room behind count

pub record Front (content rest s : List ℕ) : Type 0 where
  pub front : List ℕ
  pub parts : s ≡ front ++ rest
  pub counted : IsCounted content front

counted_front : (o : Option ℕ) (b : ℕ) (s : List ℕ) (p : List ℕ × List ℕ) → length_bytes b ≡ o → counted_by o b s ≡ ok p → Front p.0 p.1 (b ∷ s)
counted_front None b s p is e = absurd (err_ok _ p e)
counted_front (Some w) b s p is e =
    let n : ℕ = length_of b w s in
    let behind : List ℕ = drop w s in
    let first = goes_on (nat_lt (length s) w) _ _ p e in
    let second = goes_on (nat_lt (length behind) n) _ _ p first.1 in
    let same : (take n behind, drop n behind) ≡ p = ok_is (take n behind, drop n behind) p second.1 in
    let w_is : length (take w s) ≡ w = length-take-le w s (ltb-false (length s) w first.0) in
    let n_is : length (take n behind) ≡ n = length-take-le n behind (ltb-false (length behind) n second.0) in
    let own : length_of b (length (take w s)) (take w s) ≡ n =
    sym (own_length b (take w s) behind) ∙ ap (λ (t : List ℕ). length_of b (length (take w s)) t) (take-append-drop w s) ∙ ap (λ (k : ℕ). length_of b k s) w_is in
    let whole : s ≡ (take w s ++ take n behind) ++ drop n behind =
    sym (take-append-drop w s) ∙ ap (λ (t : List ℕ). take w s ++ t) (sym (take-append-drop n behind)) ∙ sym (append_assoc (take w s) (take n behind) (drop n behind)) in
    let is_front : Front (take n behind) (drop n behind) (b ∷ s) = record {
      front = b ∷ (take w s ++ take n behind);
      parts = ap (λ (t : List ℕ). b ∷ t) whole;
      counted = record { first = b; others = take w s; parts = refl; width = is ∙ ap (λ (k : ℕ). Some k) (sym w_is); counts = n_is ∙ sym own };
    } in
    subst (λ (q : List ℕ × List ℕ). Front q.0 q.1 (b ∷ s)) same is_front

pub counted_sound : (s : List ℕ) (p : List ℕ × List ℕ) → counted_in s ≡ ok p → Front p.0 p.1 s
unfolding counted_in
counted_sound [] p e = absurd (err_ok _ p e)
counted_sound (b ∷ s) p e = counted_front (length_bytes b) b s p refl e

-- ---- what is in the grammar is read

document_complete : (o : JsonDiffOperation) (v : Json) (path bytes rest document : List ℕ) → IsCounted document bytes → IsDocument document v
    → and_then (counted_in (bytes ++ rest)) (λ q. with_document o path q (document_refusal q.0)) ≡ ok (record { operation = o; path = path; value = Some v }, rest)
document_complete o v path bytes rest document counted is =
    let value = value_of_found document v is in
    ap (λ (r : Read (List ℕ × List ℕ)). and_then r (λ q. with_document o path q (document_refusal q.0))) (counted_complete document bytes rest counted)
    ∙ ap (λ (r : Option JsonError). with_document o path (document, rest) r) value.0
    ∙ ap (λ (w : Json). ok {A = Diff × List ℕ} (record { operation = o; path = path; value = Some w }, rest)) value.1

path_complete : (o : JsonDiffOperation) (value : Option Json) (path bytes rest : List ℕ) → HasValue o value bytes → behind_path o (path, bytes ++ rest) ≡ ok (record { operation = o; path = path; value = value }, rest)
path_complete operations.Remove None path bytes rest is = ap (λ (t : List ℕ). ok {A = Diff × List ℕ} (record { operation = operations.Remove; path = path; value = None }, t ++ rest)) is
path_complete operations.Remove (Some v) path bytes rest is = absurd is
path_complete operations.Replace None path bytes rest is = absurd is
path_complete operations.Replace (Some v) path bytes rest is = document_complete operations.Replace v path bytes rest is.0 is.1 is.2
path_complete operations.Insert None path bytes rest is = absurd is
path_complete operations.Insert (Some v) path bytes rest is = document_complete operations.Insert v path bytes rest is.0 is.1 is.2

operation_is : (o : JsonDiffOperation) → operation_of (number_of o) ≡ Some o
operation_is operations.Replace = refl
operation_is operations.Insert = refl
operation_is operations.Remove = refl

pub diff_complete : (d : Diff) (front rest : List ℕ) → IsDiff d front → diff_in (front ++ rest) ≡ ok (d, rest)
unfolding diff_in
diff_complete d front rest is =
    let s : List ℕ = (is.path_bytes ++ is.value_bytes) ++ rest in
    let apart : s ≡ is.path_bytes ++ (is.value_bytes ++ rest) = append_assoc is.path_bytes is.value_bytes rest in
    let path : counted_in s ≡ ok (d.path, is.value_bytes ++ rest) = ap counted_in apart ∙ counted_complete d.path is.path_bytes (is.value_bytes ++ rest) is.path in
    ap (λ (t : List ℕ). diff_in (t ++ rest)) is.parts
    ∙ ap (λ (o : Option JsonDiffOperation). behind_operation o s) (operation_is d.operation)
    ∙ ap (λ (r : Read (List ℕ × List ℕ)). and_then r (λ p. behind_path d.operation p)) path
    ∙ path_complete d.operation d.value d.path is.value_bytes rest is.value

-- ---- what is read is in the grammar

pub record Value (o : JsonDiffOperation) (path s : List ℕ) (p : Diff × List ℕ) : Type 0 where
  pub bytes : List ℕ
  pub parts : s ≡ bytes ++ p.1
  pub operation : p.0.operation ≡ o
  pub path_is : p.0.path ≡ path
  pub value : HasValue o p.0.value bytes

document_found : (o : JsonDiffOperation) (path : List ℕ) (q : List ℕ × List ℕ) (r : Option JsonError) (p : Diff × List ℕ) → document_refusal q.0 ≡ r → with_document o path q r ≡ ok p
    → IsDocument q.0 (document_value q.0) × ((record { operation = o; path = path; value = Some (document_value q.0) }, q.1) ≡ p)
document_found o path q None p is e = (found q.0 (ap (λ (r : Option JsonError). is_none r) is), ok_is _ p e)
document_found o path q (Some d) p is e = absurd (err_ok _ p e)

document_sound : (o : JsonDiffOperation) (path : List ℕ × List ℕ) (p : Diff × List ℕ) → ((v : Json) (bytes document : List ℕ) → IsCounted document bytes → IsDocument document v → HasValue o (Some v) bytes)
    → and_then (counted_in path.1) (λ q. with_document o path.0 q (document_refusal q.0)) ≡ ok p → Value o path.0 path.1 p
document_sound o path p has e =
    let read = then_ok (counted_in path.1) (λ q. with_document o path.0 q (document_refusal q.0)) p e in
    let q : List ℕ × List ℕ = read.0 in
    let front = counted_sound path.1 q read.1 in
    let document = document_found o path.0 q (document_refusal q.0) p refl read.2 in
    let is : Value o path.0 path.1 (record { operation = o; path = path.0; value = Some (document_value q.0) }, q.1) = record {
      bytes = front.front;
      parts = front.parts;
      operation = refl;
      path_is = refl;
      value = has (document_value q.0) front.front q.0 front.counted document.0;
    } in
    subst (λ (x : Diff × List ℕ). Value o path.0 path.1 x) document.1 is

path_sound : (o : JsonDiffOperation) (path : List ℕ × List ℕ) (p : Diff × List ℕ) → behind_path o path ≡ ok p → Value o path.0 path.1 p
path_sound operations.Remove path p e =
    let is : Value operations.Remove path.0 path.1 (record { operation = operations.Remove; path = path.0; value = None }, path.1) =
    record { bytes = []; parts = refl; operation = refl; path_is = refl; value = refl } in
    subst (λ (x : Diff × List ℕ). Value operations.Remove path.0 path.1 x) (ok_is _ p e) is
path_sound operations.Replace path p e = document_sound operations.Replace path p (λ v bytes document counted is. (document, counted, is)) e
path_sound operations.Insert path p e = document_sound operations.Insert path p (λ v bytes document counted is. (document, counted, is)) e

number_by : (a b c : Bool) (n : ℕ) (o : JsonDiffOperation) → (n == 0) ≡ a → (n == 1) ≡ b → (n == 2) ≡ c → cond a (Some operations.Replace) (cond b (Some operations.Insert) (cond c (Some operations.Remove) None)) ≡ Some o → n ≡ number_of o
number_by true b c n operations.Replace x y z e = eqb-true n 0 x
number_by true b c n operations.Insert x y z e = absurd cc
number_by true b c n operations.Remove x y z e = absurd cc
number_by false true c n operations.Insert x y z e = eqb-true n 1 y
number_by false true c n operations.Replace x y z e = absurd cc
number_by false true c n operations.Remove x y z e = absurd cc
number_by false false true n operations.Remove x y z e = eqb-true n 2 z
number_by false false true n operations.Replace x y z e = absurd cc
number_by false false true n operations.Insert x y z e = absurd cc
number_by false false false n o x y z e = absurd cc

operation_sound : (o : Option JsonDiffOperation) (n : ℕ) (s : List ℕ) (p : Diff × List ℕ) → operation_of n ≡ o → behind_operation o s ≡ ok p → (front : List ℕ) × (n ∷ s ≡ front ++ p.1) × IsDiff p.0 front
operation_sound None n s p is e = absurd (err_ok _ p e)
operation_sound (Some o) n s p is e =
    let read = then_ok (counted_in s) (λ path. behind_path o path) p e in
    let path = counted_sound s read.0 read.1 in
    let value = path_sound o read.0 p read.2 in
    let number : n ≡ number_of p.0.operation = number_by (n == 0) (n == 1) (n == 2) n o refl refl refl is ∙ ap number_of (sym value.operation) in
    let whole : s ≡ (path.front ++ value.bytes) ++ p.1 = path.parts ∙ ap (λ (t : List ℕ). path.front ++ t) value.parts ∙ sym (append_assoc path.front value.bytes p.1) in
    let is_diff : IsDiff p.0 (n ∷ (path.front ++ value.bytes)) = record {
      path_bytes = path.front;
      value_bytes = value.bytes;
      parts = ap (λ (k : ℕ). k ∷ (path.front ++ value.bytes)) number;
      path = subst (λ (t : List ℕ). IsCounted t path.front) (sym value.path_is) path.counted;
      value = subst (λ (x : JsonDiffOperation). HasValue x p.0.value value.bytes) (sym value.operation) value.value;
    } in
    (n ∷ (path.front ++ value.bytes), ap (λ (t : List ℕ). n ∷ t) whole, is_diff)

pub diff_sound : (s : List ℕ) (p : Diff × List ℕ) → diff_in s ≡ ok p → (front : List ℕ) × (s ≡ front ++ p.1) × IsDiff p.0 front
unfolding diff_in
diff_sound [] p e = absurd (err_ok _ p e)
diff_sound (n ∷ s) p e = operation_sound (operation_of n) n s p refl e

-- ---- lists

abbrev pub all_ok : List Diff → List (Read Diff)
all_ok ds = map (λ d. ok d) ds

pub diffs_complete : (ds : List Diff) (s : List ℕ) → AreDiffs ds s → diff_items s ≡ all_ok ds
diffs_complete [] s are = no_diffs s (ap length are)
diffs_complete (d ∷ ds) s are =
    let read : diff_in s ≡ ok (d, are.1) = ap diff_in are.2 ∙ diff_complete d are.0 are.1 are.3 in
    first_diff s d are.1 (sym read) ∙ ap (λ (l : List (Read Diff)). ok d ∷ l) (diffs_complete ds are.1 are.4)

first_is : (x y : Read Diff) (xs ys : List (Read Diff)) → x ∷ xs ≡ y ∷ ys → (x ≡ y) × (xs ≡ ys)
first_is x y xs ys e = (cc, cc)

none_is : (x : Read Diff) (xs : List (Read Diff)) → x ∷ xs ≡ [] → ⊥
none_is x xs e = cc

diffs_from : (ds : List Diff) (s : List ℕ) (r : Read (Diff × List ℕ)) → ((t : List ℕ) → diff_items t ≡ all_ok ds → AreDiffs ds t) → (d : Diff) → 0 < length s → diff_in s ≡ r → diff_items s ≡ ok d ∷ all_ok ds → AreDiffs (d ∷ ds) s
diffs_from ds s (Err f) others d some is e =
    let both = first_is (err f) (ok d) [] (all_ok ds) (sym (first_refusal s f some (sym is)) ∙ e) in
    absurd (err_ok f d both.0)
diffs_from ds s (Ok p) others d some is e =
    let both = first_is (ok p.0) (ok d) (diff_items p.1) (all_ok ds) (sym (first_diff s p.0 p.1 (sym is)) ∙ e) in
    let one = diff_sound s p is in
    (one.0, p.1, one.1, subst (λ (x : Diff). IsDiff x one.0) (ok_is p.0 d both.0) one.2, others p.1 both.1)

some_items : (n : ℕ) (s : List ℕ) (r : Read (Diff × List ℕ)) → diff_in (n ∷ s) ≡ r → diff_items (n ∷ s) ≡ [] → ⊥
some_items n s (Err f) is e = none_is (err f) [] (sym (first_refusal (n ∷ s) f (omega arith) (sym is)) ∙ e)
some_items n s (Ok p) is e = none_is (ok p.0) (diff_items p.1) (sym (first_diff (n ∷ s) p.0 p.1 (sym is)) ∙ e)

pub diffs_sound : (ds : List Diff) (s : List ℕ) → diff_items s ≡ all_ok ds → AreDiffs ds s
diffs_sound [] [] e = refl
diffs_sound [] (n ∷ s) e = absurd (some_items n s (diff_in (n ∷ s)) refl e)
diffs_sound (d ∷ ds) [] e = absurd (none_is (ok d) (all_ok ds) (sym e ∙ no_diffs [] refl))
diffs_sound (d ∷ ds) (n ∷ s) e = diffs_from ds (n ∷ s) (diff_in (n ∷ s)) (λ t. diffs_sound ds t) d (omega arith) refl e

-- ---- one list

all_same : (ds es : List Diff) → all_ok ds ≡ all_ok es → ds ≡ es
all_same [] [] e = refl
all_same [] (x ∷ es) e = absurd (none_is (ok x) (all_ok es) (sym e))
all_same (d ∷ ds) [] e = absurd (none_is (ok d) (all_ok ds) e)
all_same (d ∷ ds) (x ∷ es) e =
    let both = first_is (ok d) (ok x) (all_ok ds) (all_ok es) e in
    ap (λ (y : Diff). y ∷ ds) (ok_is d x both.0) ∙ ap (λ (l : List Diff). x ∷ l) (all_same ds es both.1)

pub one_list : (s : List ℕ) (ds es : List Diff) → AreDiffs ds s → AreDiffs es s → ds ≡ es
one_list s ds es is too = all_same ds es (sym (diffs_complete ds s is) ∙ diffs_complete es s too)
