-- Which columns are in the images of a row event.
use Rattle.std.specs.Prelude.{ℕ, zero, suc, ◌+◌, Bool, true, false, not, ◌&&◌, ◌||◌, List, [], ◌∷◌, nat_lt, length, Option, None, Some}
use Rattle.binlog_rows.specs.Columns.{Bitmap}
use Rattle.binlog_images.specs.Bits.{is_set}

-- The test holds at so many indexes, from this one on.
abbrev pub all_from : ℕ → ℕ → (ℕ → Bool) → Bool
all_from zero index test = true
all_from (suc count) index test = test index && all_from count (index + 1) test

-- Each column of the table is in the image.
abbrev pub has_all : Bitmap → Bool
has_all bits = all_from bits.0 0 (is_set bits)

-- Each column that is in the image after is in the one before.
abbrev pub is_covered : Bitmap → Bitmap → ℕ → Bool
is_covered before after index = not (is_set after index) || is_set before index

abbrev pub covers : Bitmap → Bitmap → Bool
covers before after = all_from after.0 0 (is_covered before after)

abbrev pub all_set : Bitmap → List ℕ → Bool
all_set bits [] = true
all_set bits (index ∷ others) = is_set bits index && all_set bits others

-- The primary key is known, and its columns are in the image.
abbrev pub has_key : Bitmap → List ℕ → Bool
has_key bits key = nat_lt 0 (length key) && all_set bits key

-- The images have what is needed to undo a row event of a table with this primary key; none is known if the list is empty.
abbrev pub can_undo : List ℕ → Option Bitmap → Option Bitmap → Bool
can_undo key None None = true
can_undo key None (Some after) = has_all after || has_key after key
can_undo key (Some before) None = has_all before
can_undo key (Some before) (Some after) = covers before after && (has_all before || has_key before key)

-- The image after lacks columns of the one before, so that it is completed.
abbrev pub completes : Option Bitmap → Option Bitmap → Bool
completes (Some before) (Some after) = not (covers after before)
completes before after = false
