-- The text of a field.
use Rattle.std.specs.Prelude.{ℕ, ◌==◌, ◌||◌, Bool, true, false, not, List, [], ◌∷◌, ◌++◌, option_map, Option, Some, None, if◌then◌else◌}
use Rattle.column_files.specs.declared.field.Step.{Step}
use Rattle.column_files.specs.declared.field.Step.TheVariants.{Byte, Begun, Refused}

-- ---- how a text is spelled

-- A byte that stands for itself: none of NUL, tab, line feed, backslash.
abbrev pub is_plain : ℕ → Bool
is_plain b = not ((((b == 0) || (b == 9)) || (b == 10)) || (b == 92))

-- How a byte of a text is spelled.
abbrev pub spelled : ℕ → List ℕ
spelled b = if b == 9 then 92 ∷ 116 ∷ [] else if b == 10 then 92 ∷ 110 ∷ [] else if b == 0 then 92 ∷ 48 ∷ [] else if b == 92 then 92 ∷ 92 ∷ [] else b ∷ []

-- How a text is spelled: byte by byte.
abbrev pub spelling : List ℕ → List ℕ
spelling [] = []
spelling (b ∷ s) = spelled b ++ spelling s

-- ---- how a field is read

-- The byte for which a letter behind a backslash stands: `t`, `n`, `0`, `\`.
abbrev pub escaped : ℕ → Step
escaped b = if b == 116 then Byte 9 else if b == 110 then Byte 10 else if b == 48 then Byte 0 else if b == 92 then Byte 92 else Refused

-- What a byte does, behind a backslash that begins a byte of the text or not.
abbrev pub step_of : (is_begun : Bool) → ℕ → Step
step_of true b = escaped b
step_of false b = if b == 92 then Begun else if is_plain b then Byte b else Refused

-- The text behind a byte that does this, by those of the bytes behind it.
abbrev pub after_step : Step → (begun plain : Option (List ℕ)) → Option (List ℕ)
after_step (Byte b) begun plain = option_map (λ s. b ∷ s) plain
after_step Begun begun plain = begun
after_step Refused begun plain = None

-- The text of the bytes that are left of a field, behind a backslash that begins a byte or not.
abbrev pub text_from : (is_begun : Bool) → List ℕ → Option (List ℕ)
text_from is_begun [] = if is_begun then None else Some []
text_from is_begun (b ∷ s) = after_step (step_of is_begun b) (text_from true s) (text_from false s)

-- The text of a field; None if the bytes are those of none.
abbrev pub field_text : List ℕ → Option (List ℕ)
field_text raw = text_from false raw
