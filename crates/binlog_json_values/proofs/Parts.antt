-- Parts that are written one after the other.
use Rattle.std.proofs.Common.{◌≡◌, Result, Ok, Err, OnOk, List, [], ◌∷◌, ◌++◌, map, refl, ap, ◌∙◌, append_assoc}
use Rattle.json.specs.Token.{Token}
use Rattle.binary_json_lines.specs.Parts as documents
use Rattle.binlog_json_values.specs.Parts.{Part, in_document, IsPart, AreParts, Shows, exact}

are_exact : (tokens : List Token) → AreParts (exact tokens) tokens
are_exact [] = tt
are_exact (token ∷ tokens) = (refl, are_exact tokens)

-- Tokens that are appended as they are.
pub shows_exact : (old new : List Token) (tokens : List Token) → new ≡ old ++ tokens → Shows old new (exact tokens)
shows_exact old new tokens is = record { tokens = tokens; are = are_exact tokens; is = is }

are_both : (a b : List Part) (s t : List Token) → AreParts a s → AreParts b t → AreParts (a ++ b) (s ++ t)
are_both [] b [] t x y = y
are_both [] b (token ∷ s) t x y = absurd x
are_both (part ∷ a) b [] t x y = absurd x
are_both (part ∷ a) b (token ∷ s) t x y = (x.0, are_both a b s t x.1 y)

-- One after the other.
pub shows_both : {old mid new : List Token} {a b : List Part} → Shows old mid a → Shows mid new b → Shows old new (a ++ b)
shows_both {old} {mid} {new} {a} {b} x y = record {
  tokens = x.tokens ++ y.tokens;
  are = are_both a b x.tokens y.tokens x.are y.are;
  is = y.is ∙ ap (λ (l : List Token). l ++ y.tokens) x.is ∙ append_assoc old x.tokens y.tokens;
}

-- One part.
pub shows_one : (old new : List Token) (part : Part) (token : Token) → IsPart part token → new ≡ old ++ token ∷ [] → Shows old new (part ∷ [])
shows_one old new part token shown is = record { tokens = token ∷ []; are = (shown, tt); is = is }

-- What holds after a success follows from what else does.
pub on_ok : {A E : Type 0} {P Q : Type 0} (result : Result A E) → (P → Q) → OnOk result P → OnOk result Q
on_ok (Ok x) f h = f h
on_ok (Err e) f h = h

-- Tokens that are appended as they are, if at all.
pub written_exactly : {A E : Type 0} (result : Result A E) (old new : List Token) (tokens : List Token) → OnOk result (new ≡ old ++ tokens) → OnOk result (Shows old new (exact tokens))
written_exactly (Ok x) old new tokens is = shows_exact old new tokens is
written_exactly (Err e) old new tokens is = is

-- The same, behind parts.
pub then_exactly : {A E : Type 0} (result : Result A E) (old mid new : List Token) (parts : List Part) (tokens : List Token)
    → Shows old mid parts → OnOk result (new ≡ mid ++ tokens) → OnOk result (Shows old new (parts ++ exact tokens))
then_exactly (Ok x) old mid new parts tokens before is = shows_both before (shows_exact mid new tokens is)
then_exactly (Err e) old mid new parts tokens before is = is

-- Parts behind others.
pub then_written : {A E : Type 0} (result : Result A E) (old mid new : List Token) (a b : List Part) → Shows old mid a → OnOk result (Shows mid new b) → OnOk result (Shows old new (a ++ b))
then_written (Ok x) old mid new a b before shown = shows_both before shown
then_written (Err e) old mid new a b before shown = shown

-- ---- parts of documents

are_in_document : (parts : List documents.Part) (tokens : List Token) → documents.AreParts parts tokens → AreParts (map in_document parts) tokens
are_in_document [] [] are = tt
are_in_document [] (token ∷ tokens) are = absurd are
are_in_document (part ∷ parts) [] are = absurd are
are_in_document (part ∷ parts) (token ∷ tokens) are = (are.0, are_in_document parts tokens are.1)

-- Parts of a document that are written.
pub shows_document : (old new : List Token) (parts : List documents.Part) → documents.Shows old new parts → Shows old new (map in_document parts)
shows_document old new parts shown = record { tokens = shown.tokens; are = are_in_document parts shown.tokens shown.are; is = shown.is }

-- The same, if at all.
pub written_document : {A E : Type 0} (result : Result A E) (old new : List Token) (parts : List documents.Part) → OnOk result (documents.Shows old new parts) → OnOk result (Shows old new (map in_document parts))
written_document (Ok x) old new parts shown = shows_document old new parts shown
written_document (Err e) old new parts shown = shown
