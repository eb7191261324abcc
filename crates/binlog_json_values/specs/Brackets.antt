-- The tokens round the members of a row's images.
use Rattle.std.specs.Prelude.{ℕ, ◌==◌, Bool, true, false, not, ◌&&◌, ◌||◌, List, [], ◌∷◌, ◌++◌, codes}
use Rattle.json.specs.Token.{Token, begin_object, end_object, key}
use Rattle.binlog_images.specs.declared.rows_error.ImageKind.{ImageKind}
use Rattle.binlog_images.specs.declared.rows_error.ImageKind.TheVariants.{Before, After}

-- The end of an object, if wanted.
abbrev pub closing : Bool → List Token
closing true = end_object ∷ []
closing false = []

-- What is in front of the first member of a row, which has an image before or not.
abbrev pub row_begins : Bool → List Token
row_begins true = begin_object ∷ key (codes "before") ∷ begin_object ∷ []
row_begins false = begin_object ∷ []

-- What is in front of the first member of the image after, behind the image before if there is one.
abbrev pub after_begins : Bool → List Token
after_begins has_before = closing has_before ++ key (codes "after") ∷ begin_object ∷ []

-- The same, if wanted.
abbrev pub after_if : Bool → Bool → List Token
after_if true has_before = after_begins has_before
after_if false has_before = []

-- What is behind the last member of a row, whose image after, if there is one, is begun or not.
abbrev pub row_ends : Bool → Bool → Bool → List Token
row_ends has_before has_after after_begun = after_if (has_after && not after_begun) has_before ++ closing (has_before || has_after) ++ end_object ∷ []

-- The column is the first of the image after.
abbrev pub begins_after : ImageKind → ℕ → Bool
begins_after Before index = false
begins_after After index = index == 0
