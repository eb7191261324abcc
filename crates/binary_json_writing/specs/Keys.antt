-- The order of keys.
use Rattle.std.specs.Prelude.{ℕ, ◌==◌, ◌&&◌, Bool, true, false, List, [], ◌∷◌, length, nat_lt, if◌then◌else◌}

-- Of two that are as long: the first byte in which they differ decides.
abbrev pub bytes_before : List ℕ → List ℕ → Bool
bytes_before [] ys = false
bytes_before (x ∷ xs) [] = false
bytes_before (x ∷ xs) (y ∷ ys) = if x == y then bytes_before xs ys else nat_lt x y

-- A shorter key comes first, and of two that are as long that with the smaller bytes.
unfoldable pub is_before : List ℕ → List ℕ → Bool
is_before a b = if length a == length b then bytes_before a b else nat_lt (length a) (length b)

abbrev pub is_before_first : List ℕ → List (List ℕ) → Bool
is_before_first key [] = true
is_before_first key (k ∷ ks) = is_before key k

-- Each key comes before the next one.
abbrev pub rises : List (List ℕ) → Bool
rises [] = true
rises (k ∷ ks) = is_before_first k ks && rises ks

-- The last key, if there is one, comes before this one.
abbrev pub may_follow : List (List ℕ) → List ℕ → Bool
may_follow [] key = true
may_follow (k ∷ []) key = is_before k key
may_follow (k ∷ l ∷ ks) key = may_follow (l ∷ ks) key
