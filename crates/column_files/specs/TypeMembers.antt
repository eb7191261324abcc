-- The members of an ENUM or a SET.
use Rattle.std.specs.Prelude.{ℕ, ◌==◌, ◌||◌, Bool, not, List, [], ◌∷◌, ◌++◌, map, Option, Some, None, option_map, if◌then◌else◌}
use Rattle.std.specs.Global.{Vec}
use Rattle.column_files.specs.declared.type_members.Phase.{Phase}
use Rattle.column_files.specs.declared.type_members.Phase.TheVariants.{Next, Inside, Quoted, Escaped, Closed}
use Rattle.column_files.specs.declared.type_members.MemberStep.{MemberStep}
use Rattle.column_files.specs.declared.type_members.MemberStep.TheVariants.{Goes, Byte, Ends, Refused}
use Rattle.column_files.specs.declared.type_members.Reading.{Reading}

-- ---- how members are spelled

-- A byte that stands for itself: none of NUL, line feed, carriage return, quote, backslash.
abbrev pub is_plain : ℕ → Bool
is_plain b = not (((((b == 0) || (b == 10)) || (b == 13)) || (b == 39)) || (b == 92))

-- How a byte of a member is spelled.
abbrev pub spelled : ℕ → List ℕ
spelled b = if b == 39 then 39 ∷ 39 ∷ [] else if b == 92 then 92 ∷ 92 ∷ [] else if b == 0 then 92 ∷ 48 ∷ [] else if b == 10 then 92 ∷ 110 ∷ [] else if b == 13 then 92 ∷ 114 ∷ [] else b ∷ []

-- How a member is spelled before this: byte by byte.
abbrev pub spelling : List ℕ → List ℕ → List ℕ
spelling [] rest = rest
spelling (b ∷ m) rest = spelled b ++ spelling m rest

-- What follows the bytes of a member, which these follow: a quote and the closing parenthesis, or a quote, a comma and a quote.
abbrev pub closing : List (List ℕ) → List ℕ
closing [] = 39 ∷ 41 ∷ []
closing (m ∷ ms) = 39 ∷ 44 ∷ 39 ∷ spelling m (closing ms)

-- How a list of members is spelled, behind the opening parenthesis: each in quotes, with commas between, and the closing one.
abbrev pub members_spelling : List ℕ → List (List ℕ) → List ℕ
members_spelling m ms = 39 ∷ spelling m (closing ms)

-- ---- how they are read

-- What a letter behind a backslash does.
abbrev pub letter_of : ℕ → MemberStep
letter_of b = if b == 48 then Byte 0 else if b == 110 then Byte 10 else if b == 114 then Byte 13 else if b == 92 then Byte 92 else Refused

-- What a byte in a member does.
abbrev pub inner_step : ℕ → MemberStep
inner_step b = if b == 39 then Goes Quoted else if b == 92 then Goes Escaped else if is_plain b then Byte b else Refused

-- What a byte behind a quote does.
abbrev pub quoted_step : ℕ → MemberStep
quoted_step b = if b == 39 then Byte 39 else if b == 44 then Ends else if b == 41 then Goes Closed else Refused

-- What a byte does, by where it stands.
abbrev pub step_of : Phase → ℕ → MemberStep
step_of Next b = if b == 39 then Goes Inside else Refused
step_of Inside b = inner_step b
step_of Quoted b = quoted_step b
step_of Escaped b = letter_of b
step_of Closed b = Refused

-- The bytes that are left of the current member, and the members behind it.
abbrev pub Left : Type 0
Left = List ℕ × List (List ℕ)

abbrev pub with_byte : ℕ → Left → Left
with_byte b left = (b ∷ left.0, left.1)

abbrev pub with_member : Left → Left
with_member left = ([], left.0 ∷ left.1)

-- What is left where a byte does this, by what is left behind the byte from each phase.
abbrev pub after_step : MemberStep → (Phase → Option Left) → Option Left
after_step (Goes phase) behind = behind phase
after_step (Byte b) behind = option_map (with_byte b) (behind Inside)
after_step Ends behind = option_map with_member (behind Next)
after_step Refused behind = None

abbrev pub at_end : Phase → Option Left
at_end Closed = Some ([], [])
at_end phase = None

-- What is left of the members, by the bytes that are left.
abbrev pub members_from : Phase → List ℕ → Option Left
members_from phase [] = at_end phase
members_from phase (b ∷ s) = after_step (step_of phase b) (λ next. members_from next s)

-- The members whose list this is, behind the opening parenthesis; None if it isn't one.
abbrev pub members_in : List ℕ → Option (List (List ℕ))
members_in s = option_map (λ left. left.0 ∷ left.1) (members_from Next s)

-- ---- as contracts see it

-- The texts of members.
abbrev pub texts_of : List (Vec ℕ) → List (List ℕ)
texts_of members = map (λ text. text.items) members

abbrev pub joined_left : List (List ℕ) → List ℕ → Left → List (List ℕ)
joined_left members current left = members ++ ((current ++ left.0) ∷ left.1)

-- The members that are read, and the bytes of the current one, with those of the bytes that are left.
abbrev pub joined_from : List (List ℕ) → List ℕ → Phase → List ℕ → Option (List (List ℕ))
joined_from members current phase s = option_map (joined_left members current) (members_from phase s)

abbrev pub joined : Reading → List ℕ → Option (List (List ℕ))
joined reading s = joined_from (texts_of reading.members.items) reading.current.items reading.phase s
