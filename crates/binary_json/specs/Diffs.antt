-- Lists of diffs: how a document was changed. Source: MySQL's documentation of its source code, `json_diff.h`.
use Rattle.std.specs.Prelude.{◌≡◌, ℕ, zero, suc, ◌==◌, List, [], ◌∷◌, ◌++◌, length, take, drop, nat_lt, if◌then◌else◌, Option, Some, None, option_map, Result, Ok, Err}
use Rattle.std.specs.Result.{result_map_both}
use Rattle.byteorder.specs.Endian.{little_number}
use Rattle.binary_json.specs.Values.{Json}
use Rattle.binary_json.specs.Grammar.{IsDocument}
use Rattle.binary_json.specs.Refusals.{document_refusal}
use Rattle.binary_json.specs.Decoding.{document_value}
use Rattle.binary_json.specs.Views.{document_json}
use Rattle.binary_json.specs.declared.error.JsonError.{JsonError}
use Rattle.binary_json.specs.declared.diffs.JsonDiffOperation.{JsonDiffOperation}
use Rattle.binary_json.specs.declared.diffs.JsonDiffOperation.TheVariants as operations
use Rattle.binary_json.specs.declared.diffs.JsonDiffError.{JsonDiffError}
use Rattle.binary_json.specs.declared.diffs.JsonDiffError.TheVariants as faults
use Rattle.binary_json.specs.declared.diffs.JsonDiff.{JsonDiff}
use Rattle.binary_json.specs.declared.diffs.JsonDiffs.{JsonDiffs}

-- What is done, at which path, and the value there; None where a value is removed.
pub record Diff : Type 0 where
  pub operation : JsonDiffOperation
  pub path : List ℕ
  pub value : Option Json

-- ---- the grammar

-- How many bytes behind its first one a length has; None where no length begins with this byte.
abbrev pub length_bytes : ℕ → Option ℕ
length_bytes b = if nat_lt b 251 then Some 0 else if b == 252 then Some 2 else if b == 253 then Some 3 else if b == 254 then Some 8 else None

-- The length with this first byte and so many bytes behind it.
abbrev pub length_of : ℕ → ℕ → List ℕ → ℕ
length_of b width s = if width == 0 then b else little_number width s

-- Bytes behind their length.
pub record IsCounted (content s : List ℕ) : Type 0 where
  pub first : ℕ
  pub others : List ℕ
  pub parts : s ≡ first ∷ (others ++ content)
  pub width : length_bytes first ≡ Some (length others)
  pub counts : length content ≡ length_of first (length others) others

-- The numbers of the operations.
abbrev pub number_of : JsonDiffOperation → ℕ
number_of operations.Replace = 0
number_of operations.Insert = 1
number_of operations.Remove = 2

-- A removal has no value, and the other operations have a document.
abbrev pub HasValue : JsonDiffOperation → Option Json → List ℕ → Type 0
HasValue operations.Remove None s = s ≡ []
HasValue operations.Remove (Some v) s = ⊥
HasValue _ None s = ⊥
HasValue _ (Some v) s = (document : List ℕ) × IsCounted document s × IsDocument document v

-- The operation, the path behind its length, and the document behind its length.
pub record IsDiff (d : Diff) (s : List ℕ) : Type 0 where
  pub path_bytes : List ℕ
  pub value_bytes : List ℕ
  pub parts : s ≡ number_of d.operation ∷ (path_bytes ++ value_bytes)
  pub path : IsCounted d.path path_bytes
  pub value : HasValue d.operation d.value value_bytes

-- One diff after the other, up to the last byte.
abbrev pub AreDiffs : List Diff → List ℕ → Type 0
AreDiffs [] s = s ≡ []
AreDiffs (d ∷ ds) s = (front : List ℕ) × (rest : List ℕ) × (s ≡ front ++ rest) × IsDiff d front × AreDiffs ds rest

-- ---- which refusal comes first

abbrev pub Read : Type 0 → Type 0
Read A = Result A JsonDiffError

abbrev pub and_then : {A B : Type 0} → Read A → (A → Read B) → Read B
and_then (Ok x) f = f x
and_then (Err e) f = Err e

-- The bytes behind their length, and what is behind them.
abbrev pub counted_by : Option ℕ → ℕ → List ℕ → Read (List ℕ × List ℕ)
counted_by None b s = Err faults.Length
counted_by (Some width) b s =
    if nat_lt (length s) width then Err faults.Truncated
    else if nat_lt (length (drop width s)) (length_of b width s) then Err faults.Truncated
    else Ok (take (length_of b width s) (drop width s), drop (length_of b width s) (drop width s))

unfoldable pub counted_in : List ℕ → Read (List ℕ × List ℕ)
counted_in [] = Err faults.Truncated
counted_in (b ∷ s) = counted_by (length_bytes b) b s

abbrev pub operation_of : ℕ → Option JsonDiffOperation
operation_of n = if n == 0 then Some operations.Replace else if n == 1 then Some operations.Insert else if n == 2 then Some operations.Remove else None

-- A diff with this document, and what is behind it; or the refusal of the document.
abbrev pub with_document : JsonDiffOperation → List ℕ → List ℕ × List ℕ → Option JsonError → Read (Diff × List ℕ)
with_document o path q None = Ok (record { operation = o; path = path; value = Some (document_value q.0) }, q.1)
with_document o path q (Some e) = Err (faults.Document e)

abbrev pub behind_path : JsonDiffOperation → List ℕ × List ℕ → Read (Diff × List ℕ)
behind_path operations.Remove p = Ok (record { operation = operations.Remove; path = p.0; value = None }, p.1)
behind_path o p = and_then (counted_in p.1) (λ q. with_document o p.0 q (document_refusal q.0))

abbrev pub behind_operation : Option JsonDiffOperation → List ℕ → Read (Diff × List ℕ)
behind_operation None s = Err faults.Operation
behind_operation (Some o) s = and_then (counted_in s) (λ p. behind_path o p)

-- The first diff, and what is behind it.
unfoldable pub diff_in : List ℕ → Read (Diff × List ℕ)
diff_in [] = Err faults.Truncated
diff_in (n ∷ s) = behind_operation (operation_of n) s

-- ---- lists

-- The first diff, or the first refusal, behind which nothing is read.
abbrev pub items_by : (List ℕ → List (Read Diff)) → Read (Diff × List ℕ) → List (Read Diff)
items_by others (Ok p) = Ok p.0 ∷ others p.1
items_by others (Err e) = Err e ∷ []

-- At most so many diffs.
unfoldable pub items_from : ℕ → List ℕ → List (Read Diff)
items_from zero s = []
items_from (suc most) [] = []
items_from (suc most) (n ∷ s) = items_by (items_from most) (diff_in (n ∷ s))

-- All diffs, of which each has a byte at least.
unfoldable pub diff_items : List ℕ → List (Read Diff)
diff_items s = items_from (length s) s

-- ---- views

abbrev pub diff_of : JsonDiff → Diff
diff_of d = record { operation = d.operation; path = d.path.now; value = option_map document_json d.document }

abbrev pub item_of : Result JsonDiff JsonDiffError → Read Diff
item_of r = result_map_both diff_of (λ e. e) r

-- The diffs that are left.
abbrev pub diffs_left : JsonDiffs → List (Read Diff)
diffs_left d = diff_items d.rest.now
