-- The first column that contradicts its file.
use Rattle.std.proofs.Common.{◌≡◌, ℕ, ◌+◌, ◌<◌, ◌≤◌, Bool, true, List, length, refl, subst, ⊎_elim, arith}
use Rattle.std.proofs.lemmas.Bool.{cases_lt}
use Rattle.std.proofs.lemmas.Option.{slice_get_past}
use Rattle.binlog_columns.specs.Metadata.{Typed}
use Rattle.binlog_optional_metadata.specs.Facts.{Facts}
use Rattle.column_files.specs.Tables.{Described}
use Rattle.binlog_declared_columns.specs.Facts.{fits_at}

-- What holds below a number and at it holds below the next one.
pub one_more : (P : ℕ → Type 0) (n : ℕ) → ((i : ℕ) → i < n → P i) → P n → (i : ℕ) → i < n + 1 → P i
one_more P n before here i below =
    ⊎_elim (λ less. before i less) (λ past. let same : n ≡ i = omega (arith, below, past) in subst P same here) (cases_lt i n)

past_all : (is_maria_log signs : Bool) (columns : List Typed) (facts : List Facts) (declared : List Described) (index : ℕ) → length columns ≤ index → length declared ≤ index → fits_at is_maria_log signs columns facts declared index ≡ true
past_all is_maria_log signs columns facts declared index cs ds = rw (slice_get_past columns index cs, slice_get_past declared index ds) refl

-- No column contradicts the file behind the last one.
pub all_fit : (is_maria_log signs : Bool) (columns : List Typed) (facts : List Facts) (declared : List Described) (count : ℕ) → ((i : ℕ) → i < count → fits_at is_maria_log signs columns facts declared i ≡ true) → length columns ≤ count
    → length declared ≤ count → (index : ℕ) → fits_at is_maria_log signs columns facts declared index ≡ true
all_fit is_maria_log signs columns facts declared count before cs ds index =
    ⊎_elim (λ less. before index less) (λ past. past_all is_maria_log signs columns facts declared index (omega (arith, cs, past)) (omega (arith, ds, past))) (cases_lt index count)
