-- Members of a line that are copied behind another line.
use Rattle.std.proofs.Common.{◌≡◌, ℕ, Bool, true, false, List, [], ◌∷◌, ◌++◌, fold, IsUtf8, refl, sym, ap, subst, ◌∙◌}
use Rattle.std.proofs.lemmas.Str.{IsUtf8-nil, IsUtf8-append}
use Rattle.json.specs.Token.{Token, key}
use Rattle.json.specs.Lex.{tokens}
use Rattle.json.specs.Print.{print, print_from, ends, ends_value, ArePrintable}
use Rattle.json.proofs.Printed.Tokens.{print_from-append}
use Rattle.json.proofs.Printed.Utf8.{IsUtf8-are_ascii}
use Rattle.json_line.specs.Buffers.{comma}
use Rattle.json_line.specs.Keys.{BeginsWithKey}
use Rattle.json_line.specs.Lines.{IsLine}
use Rattle.json_line.proofs.OneMore.{shows_printed}

both_printable : (ts us : List Token) → ArePrintable ts → ArePrintable us → ArePrintable (ts ++ us)
unfolding ArePrintable
both_printable [] us h k = k
both_printable (t ∷ ts) us h k = (h.0, both_printable ts us h.1 k)

-- Whether a value has just ended depends on the members behind.
last_ends : (c : Bool) (ts : List Token) (name : List ℕ) (behind : List Token) → fold (λ _ token. ends token) c (ts ++ key name ∷ behind) ≡ ends_value (key name ∷ behind)
last_ends c [] name behind = refl
last_ends c (t ∷ ts) name behind = last_ends (ends t) ts name behind

-- Behind other tokens a member has a comma in front of it, or not.
from_key : (c : Bool) (name : List ℕ) (behind : List Token) → print_from c (key name ∷ behind) ≡ comma c ++ print (key name ∷ behind)
unfolding print_from
from_key true name behind = refl
from_key false name behind = refl

comma_utf8 : (wanted : Bool) → IsUtf8 (comma wanted)
comma_utf8 true = IsUtf8-are_ascii _ refl
comma_utf8 false = IsUtf8-nil

module _ (old : List ℕ) (after_value : Bool) (line : IsLine old after_value) (more : List ℕ) (more_after : Bool) (copied : IsLine more more_after)
    (members : List Token) (shown : tokens more ≡ members) (keyed : BeginsWithKey members) (new : List ℕ) (is : new ≡ old ++ (comma after_value ++ more)) where
  abbrev together : List Token
  together = line.printed ++ key keyed.name ∷ keyed.behind

  copied_tokens : copied.printed ≡ key keyed.name ∷ keyed.behind
  copied_tokens = sym (shows_printed more more_after copied) ∙ shown ∙ keyed.is

  more_is : more ≡ print (key keyed.name ∷ keyed.behind)
  more_is = copied.is ∙ ap print copied_tokens

  new_is : new ≡ print together
  new_is =
      is ∙ (λ i. line.is i ++ (comma (line.place i) ++ more_is i))
      ∙ ap (λ (l : List ℕ). print line.printed ++ l) (sym (from_key (ends_value line.printed) keyed.name keyed.behind))
      ∙ sym (print_from-append false line.printed (key keyed.name ∷ keyed.behind))

  pub members_added : IsLine new more_after
  members_added = record {
    printed = together;
    printable = both_printable line.printed (key keyed.name ∷ keyed.behind) line.printable (subst ArePrintable copied_tokens copied.printable);
    is = new_is;
    place = copied.place ∙ ap ends_value copied_tokens ∙ sym (last_ends false line.printed keyed.name keyed.behind);
    utf8 = subst IsUtf8 (sym is) (IsUtf8-append old _ line.utf8 (IsUtf8-append _ _ (comma_utf8 after_value) copied.utf8));
  }

  pub members_tokens : tokens new ≡ tokens old ++ members
  unfolding members_added
  members_tokens = shows_printed new more_after members_added ∙ (λ i. sym (shows_printed old after_value line) i ++ sym keyed.is i)
