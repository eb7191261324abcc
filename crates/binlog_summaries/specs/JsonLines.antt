-- Lines of JSON.
use Rattle.std.specs.Prelude.{ℕ, List, ◌++◌, codes, Option}
use Rattle.json.specs.Print.{print}
use Rattle.json.specs.Token.{Token}
use Rattle.json_line.specs.Tokens.{number_value, or_null, member}

-- A member with a number.
abbrev pub number_member : List ℕ → ℕ → List Token
number_member name number = member name (number_value number)

-- A member with a time in seconds since 1970 or with a number of seconds, or null.
abbrev pub time_member : List ℕ → Option ℕ → List Token
time_member name time = member name (or_null number_value time)

-- The line of an object.
abbrev pub line_of : List Token → List ℕ
line_of tokens = print tokens ++ codes "\n"
