-- Parts that are written one after the other.
use Rattle.std.proofs.Common.{◌≡◌, Result, Ok, Err, OnOk, List, [], ◌∷◌, ◌++◌, refl, ap, ◌∙◌, append_assoc}
use Rattle.json.specs.Token.{Token}
use Rattle.binlog_json_values.specs.Parts.{Part, AreParts, Shows, exact}

are_exact : (tokens : List Token) → AreParts (exact tokens) tokens
are_exact [] = tt
are_exact (token ∷ tokens) = (refl, are_exact tokens)

-- Tokens that are appended as they are.
pub shows_exact : (old new : List Token) (tokens : List Token) → new ≡ old ++ tokens → Shows old new (exact tokens)
shows_exact old new tokens is = record { tokens = tokens; are = are_exact tokens; is = is }

are_both : (a b : List Part) (s t : List Token) → AreParts a s → AreParts b t → AreParts (a ++ b) (s ++ t)
are_both [] b [] t x y = y
are_both [] b (token ∷ s) t x y = absurd x
are_both (part ∷ a) b [] t x y = absurd x
are_both (part ∷ a) b (token ∷ s) t x y = (x.0, are_both a b s t x.1 y)

-- One after the other.
pub shows_both : {old mid new : List Token} {a b : List Part} → Shows old mid a → Shows mid new b → Shows old new (a ++ b)
shows_both {old} {mid} {new} {a} {b} x y = record {
  tokens = x.tokens ++ y.tokens;
  are = are_both a b x.tokens y.tokens x.are y.are;
  is = y.is ∙ ap (λ (l : List Token). l ++ y.tokens) x.is ∙ append_assoc old x.tokens y.tokens;
}

-- Parts behind others, if at all.
pub then_written : {A E : Type 0} (result : Result A E) (old mid new : List Token) (a b : List Part) → Shows old mid a → OnOk result (Shows mid new b) → OnOk result (Shows old new (a ++ b))
then_written (Ok x) old mid new a b before shown = shows_both before shown
then_written (Err e) old mid new a b before shown = shown

-- Tokens behind parts, if at all.
pub then_exactly : {A E : Type 0} (result : Result A E) (old mid new : List Token) (parts : List Part) (tokens : List Token)
    → Shows old mid parts → OnOk result (new ≡ mid ++ tokens) → OnOk result (Shows old new (parts ++ exact tokens))
then_exactly (Ok x) old mid new parts tokens before is = shows_both before (shows_exact mid new tokens is)
then_exactly (Err e) old mid new parts tokens before is = is
