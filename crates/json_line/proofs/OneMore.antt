-- The tokens of a line, and of the line with one more token.
use Rattle.std.proofs.Common.{◌≡◌, ℕ, Bool, true, false, List, [], ◌∷◌, ◌++◌, IsUtf8, subst, refl, sym, ap, ◌∙◌, append-nil}
use Rattle.std.proofs.lemmas.Str.{IsUtf8-nil, IsUtf8-append}
use Rattle.json.specs.Token.{Token}
use Rattle.json.specs.Lex.{tokens}
use Rattle.json.specs.Print.{print, print_from, separator, token_text, begins, ends, IsPrintable, ArePrintable}
use Rattle.json.proofs.Printed.Tokens.{tokens-print, print_from_push, ends_push, ArePrintable-push}
use Rattle.json.proofs.Printed.Utf8.{IsUtf8-separator}
use Rattle.json_line.specs.Buffers.{comma}
use Rattle.json_line.specs.Lines.{IsLine}

pub shows_printed : (text : List ℕ) (after_value : Bool) (line : IsLine text after_value) → tokens text ≡ line.printed
shows_printed text after_value line = ap tokens line.is ∙ tokens-print line.printed line.printable

pub print_shown : (text : List ℕ) (after_value : Bool) (line : IsLine text after_value) → text ≡ print (tokens text)
print_shown text after_value line = line.is ∙ ap print (sym (shows_printed text after_value line))

-- The empty line.
pub empty : IsLine [] false
unfolding print_from ArePrintable
empty = record { printed = []; printable = tt; is = refl; place = refl; utf8 = IsUtf8-nil }

pub nothing_shown : tokens [] ≡ []
unfolding empty
nothing_shown = shows_printed [] false empty

-- The written bytes of a token that begins a value or a member.
pub text_begun : (old new : List ℕ) (after_value : Bool) (token : Token) (bytes : List ℕ) → begins token ≡ true → bytes ≡ token_text token
    → new ≡ old ++ (comma after_value ++ bytes) → new ≡ old ++ (separator after_value token ++ token_text token)
text_begun old new true token bytes begun is written = rw begun (written ∙ ap (λ l. old ++ 44 ∷ l) is)
text_begun old new false token bytes begun is written = written ∙ ap (λ l. old ++ l) is

-- The written bytes of a closing bracket.
pub text_ended : (old new : List ℕ) (after_value : Bool) (token : Token) (bytes : List ℕ) → begins token ≡ false → bytes ≡ token_text token
    → new ≡ old ++ bytes → new ≡ old ++ (separator after_value token ++ token_text token)
text_ended old new true token bytes ended is written = rw ended (written ∙ ap (λ l. old ++ l) is)
text_ended old new false token bytes ended is written = written ∙ ap (λ l. old ++ l) is

module _ (old : List ℕ) (after_value : Bool) (line : IsLine old after_value) (token : Token) (printable : IsPrintable token) (utf8 : IsUtf8 (token_text token))
    (new : List ℕ) (after : Bool) (place : after ≡ ends token) (is : new ≡ old ++ (separator after_value token ++ token_text token)) where
  pub pushed : IsLine new after
  pushed = record {
    printed = line.printed ++ token ∷ [];
    printable = ArePrintable-push line.printed token line.printable printable;
    is = is ∙ (λ i. line.is i ++ (separator (line.place i) token ++ token_text token)) ∙ sym (print_from_push false line.printed token);
    place = place ∙ sym (ends_push false line.printed token);
    utf8 = subst IsUtf8 (sym is) (IsUtf8-append old _ line.utf8 (IsUtf8-append _ _ (IsUtf8-separator after_value token) utf8));
  }

  pub pushed_tokens : tokens new ≡ tokens old ++ token ∷ []
  unfolding pushed
  pushed_tokens = shows_printed new after pushed ∙ ap (λ l. l ++ token ∷ []) (sym (shows_printed old after_value line))

-- A single token.
pub alone : (token : Token) → print (token ∷ []) ≡ token_text token
unfolding print_from
alone token = append-nil (token_text token)
