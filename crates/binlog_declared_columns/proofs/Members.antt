-- The members of an ENUM or a SET.
use Rattle.std.proofs.Common.{◌≡◌, ℕ, ◌||◌, Bool, true, false, not, List, [], ◌∷◌, length, sym, ap, ◌∙◌}
use Rattle.std.proofs.lemmas.List.{length-map}
use Rattle.std.specs.Global.{Vec}
use Rattle.std.specs.List.{list_any}
use Rattle.column_files.specs.TypeMembers.{texts_of}
use Rattle.binlog_declared_columns.specs.Facts.{has_question_mark}

-- There are as many texts of members as members.
pub are_as_many : (members : List (Vec ℕ)) → length (texts_of members) ≡ length members
are_as_many members = length-map members (λ (text : Vec ℕ). text.items)

-- The first member that is left has no question mark.
pub known_next : (left next : List (Vec ℕ)) (member : Vec ℕ) (all : Bool) → left ≡ member ∷ next → has_question_mark member.items ≡ false
    → list_any has_question_mark (texts_of left) ≡ all → list_any has_question_mark (texts_of next) ≡ all
known_next left next member all split none same =
    ap (λ (b : Bool). b || list_any has_question_mark (texts_of next)) (sym none) ∙ ap (λ (l : List (Vec ℕ)). list_any has_question_mark (texts_of l)) (sym split) ∙ same

-- It has one.
pub unknown_here : (left next : List (Vec ℕ)) (member : Vec ℕ) (all : Bool) → left ≡ member ∷ next → has_question_mark member.items ≡ true
    → list_any has_question_mark (texts_of left) ≡ all → false ≡ not all
unknown_here left next member all split some same =
    ap not (ap (λ (b : Bool). b || list_any has_question_mark (texts_of next)) (sym some) ∙ ap (λ (l : List (Vec ℕ)). list_any has_question_mark (texts_of l)) (sym split) ∙ same)

-- No member is left.
pub known_all : (left : List (Vec ℕ)) (all : Bool) → left ≡ [] → list_any has_question_mark (texts_of left) ≡ all → true ≡ not all
known_all left all none same = ap not (ap (λ (l : List (Vec ℕ)). list_any has_question_mark (texts_of l)) (sym none) ∙ same)
