-- Places in a line.
use Rattle.std.specs.Prelude.{◌≡◌, List, ◌++◌, length, IsUtf8}
use Rattle.json.specs.Token.{Token}
use Rattle.json.specs.Print.{print, ends_value, ArePrintable}
use Rattle.json_line.specs.declared.line.Mark.{Mark}

-- The mark stands behind these tokens of a line.
pub record StandsBehind (mark : Mark) (tokens : List Token) : Type 0 where
  pub printable : ArePrintable tokens
  pub utf8 : IsUtf8 (print tokens)
  pub len : mark.len ≡ length (print tokens)
  pub place : mark.after_value ≡ ends_value tokens

-- The mark stands behind tokens with which this line begins.
pub record IsMarked (mark : Mark) (line : List Token) : Type 0 where
  pub before : List Token
  pub after : List Token
  pub stands : StandsBehind mark before
  pub is : line ≡ before ++ after
