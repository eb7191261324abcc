-- The members of a list, byte by byte.
use Rattle.std.proofs.Common.{◌≡◌, ℕ, List, [], ◌∷◌, ◌++◌, Option, None, Some, refl, sym, ap, ◌∙◌, append_assoc, append-nil}
use Rattle.std.specs.Prelude.{option_map}
use Rattle.column_files.specs.declared.type_members.Phase.{Phase}
use Rattle.column_files.specs.declared.type_members.Phase.TheVariants.{Next, Inside}
use Rattle.column_files.specs.declared.type_members.MemberStep.{MemberStep}
use Rattle.column_files.specs.declared.type_members.MemberStep.TheVariants.{Goes, Byte, Ends, Refused}
use Rattle.column_files.specs.TypeMembers.{step_of, Left, with_byte, with_member, after_step, members_from, joined_left, joined_from}

-- What is left, by what the byte does.
here : (p : Phase) (b : ℕ) (s : List ℕ) (step : MemberStep) → step ≡ step_of p b → members_from p (b ∷ s) ≡ after_step step (λ next. members_from next s)
here p b s step is = ap (λ (x : MemberStep). after_step x (λ next. members_from next s)) (sym is)

does : (p : Phase) (b : ℕ) (s : List ℕ) (step other : MemberStep) → step ≡ step_of p b → step ≡ other → members_from p (b ∷ s) ≡ after_step other (λ next. members_from next s)
does p b s step other is is_other = here p b s step is ∙ ap (λ (x : MemberStep). after_step x (λ next. members_from next s)) is_other

-- The byte leads to another phase.
pub phase_led : (ms : List (List ℕ)) (m : List ℕ) (p q : Phase) (b : ℕ) (s : List ℕ) (step : MemberStep) → step ≡ step_of p b → step ≡ Goes q → joined_from ms m p (b ∷ s) ≡ joined_from ms m q s
phase_led ms m p q b s step is goes = ap (option_map (joined_left ms m)) (does p b s step (Goes q) is goes)

-- The byte can't stand there.
pub byte_refused : (ms : List (List ℕ)) (m : List ℕ) (p : Phase) (b : ℕ) (s : List ℕ) (step : MemberStep) → step ≡ step_of p b → step ≡ Refused → joined_from ms m p (b ∷ s) ≡ None
byte_refused ms m p b s step is refused = ap (option_map (joined_left ms m)) (does p b s step Refused is refused)

one_byte : (ms : List (List ℕ)) (m : List ℕ) (c : ℕ) (o : Option Left) → option_map (joined_left ms m) (option_map (with_byte c) o) ≡ option_map (joined_left ms (m ++ c ∷ [])) o
one_byte ms m c None = refl
one_byte ms m c (Some x) = ap (λ (t : List ℕ). Some (ms ++ (t ∷ x.1))) (sym (append_assoc m (c ∷ []) x.0))

-- The byte ends one of the member.
pub byte_joined : (ms : List (List ℕ)) (m new : List ℕ) (p : Phase) (b c : ℕ) (s : List ℕ) (step : MemberStep) → step ≡ step_of p b → step ≡ Byte c → new ≡ m ++ c ∷ [] → joined_from ms m p (b ∷ s) ≡ joined_from ms new Inside s
byte_joined ms m new p b c s step is byte grown =
    ap (option_map (joined_left ms m)) (does p b s step (Byte c) is byte) ∙ one_byte ms m c (members_from Inside s)
    ∙ sym (ap (λ (n : List ℕ). joined_from ms n Inside s) grown)

one_member : (ms : List (List ℕ)) (m : List ℕ) (o : Option Left) → option_map (joined_left ms m) (option_map with_member o) ≡ option_map (joined_left (ms ++ m ∷ []) []) o
one_member ms m None = refl
one_member ms m (Some x) =
    ap (λ (t : List ℕ). Some (ms ++ (t ∷ (x.0 ∷ x.1)))) (append-nil m) ∙ ap (λ (t : List (List ℕ)). Some t) (sym (append_assoc ms (m ∷ []) (x.0 ∷ x.1)))

-- The byte ends the member.
pub member_ended : (ms new : List (List ℕ)) (m fresh : List ℕ) (p : Phase) (b : ℕ) (s : List ℕ) (step : MemberStep) → step ≡ step_of p b → step ≡ Ends → new ≡ ms ++ m ∷ [] → fresh ≡ [] → joined_from ms m p (b ∷ s) ≡ joined_from new fresh Next s
member_ended ms new m fresh p b s step is ends grown empty =
    ap (option_map (joined_left ms m)) (does p b s step Ends is ends) ∙ one_member ms m (members_from Next s)
    ∙ sym (ap (λ (n : List (List ℕ)). joined_from n [] Next s) grown) ∙ sym (ap (λ (n : List ℕ). joined_from new n Next s) empty)
