-- Floating-point numbers that are written.
use lib.Pointwise.{pointwise, bytes_decides}
use Rattle.std.proofs.Common.{◌≡◌, ℕ, Bool, true, false, List, [], ◌∷◌, ◌++◌, Some, Result, Ok, Err, OnOk, refl, sym, ap, ◌∙◌}
use Rattle.std.specs.Prelude.{nat_eq, from_bits}
use Rattle.std.specs.Bool.{OnTrue}
use Rattle.std.specs.Float.{Float, binary64}
use Rattle.ryu.specs.Parse.{parse_float}
use Rattle.json.specs.Print.{IsNumber}
use Rattle.json.specs.Token.{Token, number}
use Rattle.binary_json_lines.specs.Parts.{reading_back, Shows}

-- A text that is printed again as another one reads as the same number.
pub same_number : (again shortest text : List ℕ) (x y : Float) (r : Bool) → r ≡ pointwise nat_eq again shortest → parse_float binary64 again ≡ Some y → parse_float binary64 shortest ≡ Some x
    → parse_float binary64 text ≡ Some y → OnTrue r (parse_float binary64 text ≡ Some x)
same_number again shortest text x y true is printed short read =
    read ∙ sym printed ∙ ap (parse_float binary64) ((bytes_decides again shortest).0 (sym is)) ∙ short
same_number again shortest text x y false is printed short read = tt

-- A number that is written.
pub shows_double : {A E : Type 0} (result : Result A E) (old new : List Token) (bits : ℕ) (text : List ℕ) → IsNumber text → parse_float binary64 text ≡ Some (from_bits binary64 bits)
    → OnOk result (new ≡ old ++ number text ∷ []) → OnOk result (Shows old new (reading_back bits ∷ []))
shows_double (Ok x) old new bits text plain reads is = record { tokens = number text ∷ []; are = ((text, refl, (plain, reads)), tt); is = is }
shows_double (Err e) old new bits text plain reads is = is
