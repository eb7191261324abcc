-- The text of a field, byte by byte.
use Rattle.std.proofs.Common.{◌≡◌, ℕ, Bool, true, false, List, [], ◌∷◌, ◌++◌, Option, None, Some, refl, sym, ap, ◌∙◌, length, append_assoc, append-nil, arith}
use Rattle.std.specs.Prelude.{is_some, option_map, unwrap_or, if◌then◌else◌}
use Rattle.column_files.specs.declared.field.Step.{Step}
use Rattle.column_files.specs.declared.field.Step.TheVariants.{Byte, Begun, Refused}
use Rattle.column_files.specs.Fields.{step_of, after_step, text_from}

some_behind : (b : ℕ) (o : Option (List ℕ)) → is_some (option_map (λ (s : List ℕ). b ∷ s) o) ≡ is_some o
some_behind b None = refl
some_behind b (Some s) = refl

-- The text behind a byte, by what the byte does.
behind : (is_begun : Bool) (b : ℕ) (s rest : List ℕ) (step : Step) → rest ≡ b ∷ s → step ≡ step_of is_begun b → text_from is_begun rest ≡ after_step step (text_from true s) (text_from false s)
behind is_begun b s rest step front is = ap (text_from is_begun) front ∙ ap (λ (x : Step). after_step x (text_from true s) (text_from false s)) (sym is)

-- A byte of the text ends.
pub byte_read : (is_begun : Bool) (b c : ℕ) (s rest : List ℕ) (step : Step) → rest ≡ b ∷ s → step ≡ step_of is_begun b → step ≡ Byte c → is_some (text_from false s) ≡ is_some (text_from is_begun rest)
byte_read is_begun b c s rest step front is does =
    sym (ap is_some (behind is_begun b s rest step front is ∙ ap (λ (x : Step). after_step x (text_from true s) (text_from false s)) does) ∙ some_behind c (text_from false s))

-- A backslash begins one.
pub escape_begun : (is_begun : Bool) (b : ℕ) (s rest : List ℕ) (step : Step) → rest ≡ b ∷ s → step ≡ step_of is_begun b → step ≡ Begun → text_from true s ≡ text_from is_begun rest
escape_begun is_begun b s rest step front is does =
    sym (behind is_begun b s rest step front is ∙ ap (λ (x : Step). after_step x (text_from true s) (text_from false s)) does)

-- The byte can't stand there.
pub refused : (is_begun : Bool) (b : ℕ) (s rest : List ℕ) (step : Step) → rest ≡ b ∷ s → step ≡ step_of is_begun b → step ≡ Refused → text_from is_begun rest ≡ None
refused is_begun b s rest step front is does =
    behind is_begun b s rest step front is ∙ ap (λ (x : Step). after_step x (text_from true s) (text_from false s)) does

-- Nothing is left.
pub nothing_left : (is_begun : Bool) (rest : List ℕ) → length rest ≡ 0 → text_from is_begun rest ≡ (if is_begun then None else Some [])
nothing_left is_begun [] none = refl
nothing_left is_begun (b ∷ s) none = absurd (omega (arith, none))

byte_joined : (front : List ℕ) (c : ℕ) (o : Option (List ℕ)) → option_map (λ (s : List ℕ). front ++ s) (option_map (λ (s : List ℕ). c ∷ s) o) ≡ option_map (λ (s : List ℕ). (front ++ c ∷ []) ++ s) o
byte_joined front c None = refl
byte_joined front c (Some s) = ap (λ (t : List ℕ). Some t) (sym (append_assoc front (c ∷ []) s))

-- A byte of the text is added to those so far.
pub byte_added : (is_begun : Bool) (b c : ℕ) (s rest front new : List ℕ) (step : Step) (whole : Option (List ℕ)) → rest ≡ b ∷ s → step ≡ step_of is_begun b → step ≡ Byte c
    → option_map (λ (t : List ℕ). front ++ t) (text_from is_begun rest) ≡ whole → new ≡ front ++ c ∷ [] → option_map (λ (t : List ℕ). new ++ t) (text_from false s) ≡ whole
byte_added is_begun b c s rest front new step whole start is does so_far grown =
    let here : text_from is_begun rest ≡ option_map (λ (t : List ℕ). c ∷ t) (text_from false s) =
    behind is_begun b s rest step start is ∙ ap (λ (x : Step). after_step x (text_from true s) (text_from false s)) does in
    ap (λ (n : List ℕ). option_map (λ (t : List ℕ). n ++ t) (text_from false s)) grown ∙ sym (byte_joined front c (text_from false s))
    ∙ sym (ap (λ (o : Option (List ℕ)). option_map (λ (t : List ℕ). front ++ t) o) here) ∙ so_far

-- The whole text, where nothing is left of a field.
pub text_ended : (is_begun : Bool) (rest front : List ℕ) (whole : Option (List ℕ)) → length rest ≡ 0 → option_map (λ (t : List ℕ). front ++ t) (text_from is_begun rest) ≡ whole
    → is_some whole ≡ true → front ≡ unwrap_or whole []
text_ended true [] front whole none so_far some = absurd (let not = ap is_some so_far ∙ some in cc)
text_ended false [] front whole none so_far some = sym (append-nil front) ∙ ap (λ (o : Option (List ℕ)). unwrap_or o []) so_far
text_ended is_begun (b ∷ s) front whole none so_far some = absurd (omega (arith, none))

-- A byte that can't stand there is in no field.
pub never_refused : (is_begun : Bool) (b : ℕ) (s rest front : List ℕ) (step : Step) (whole : Option (List ℕ)) → rest ≡ b ∷ s → step ≡ step_of is_begun b → step ≡ Refused
    → option_map (λ (t : List ℕ). front ++ t) (text_from is_begun rest) ≡ whole → is_some whole ≡ true → ⊥
never_refused is_begun b s rest front step whole start is does so_far some =
    let none = refused is_begun b s rest step start is does in
    let not : is_some whole ≡ false = sym (ap is_some so_far) ∙ ap (λ (o : Option (List ℕ)). is_some (option_map (λ (t : List ℕ). front ++ t) o)) none in
    cc

-- A backslash adds nothing.
pub escape_joined : (is_begun : Bool) (b : ℕ) (s rest front : List ℕ) (step : Step) (whole : Option (List ℕ)) → rest ≡ b ∷ s → step ≡ step_of is_begun b → step ≡ Begun
    → option_map (λ (t : List ℕ). front ++ t) (text_from is_begun rest) ≡ whole → option_map (λ (t : List ℕ). front ++ t) (text_from true s) ≡ whole
escape_joined is_begun b s rest front step whole start is does so_far =
    ap (λ (o : Option (List ℕ)). option_map (λ (t : List ℕ). front ++ t) o) (escape_begun is_begun b s rest step start is does) ∙ so_far

-- Nothing is read yet.
pub text_started : (front : List ℕ) (o : Option (List ℕ)) → front ≡ [] → option_map (λ (t : List ℕ). front ++ t) o ≡ o
text_started front None none = refl
text_started front (Some s) none = ap (λ (n : List ℕ). Some (n ++ s)) none
