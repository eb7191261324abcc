-- The variables of an encoded list of status variables.
-- Source: MySQL's internals documentation, "QUERY_EVENT".
use Rattle.std.specs.Prelude.{◌≡◌, ◌≢◌, ℕ, zero, suc, ◌≤◌, List, [], ◌∷◌, ◌++◌, length, take, drop, Option, Some, None, Result, Ok, Err, All, flat_map}
use Rattle.binlog_consts.specs.declared.status_var_key.StatusVarKey.{StatusVarKey}
use Rattle.binlog_consts.specs.declared.status_var_key.UnknownStatusVarKey.{UnknownStatusVarKey}
use Rattle.binlog_consts.specs.StatusVarKeys.{status_var_key_number, status_var_key_of}
use Rattle.binlog_statements.specs.Layouts.{layout_of, IsLaidOut, value_len}

-- A variable: its key and the bytes of its value.
pub record Variable : Type 0 where
  pub key : StatusVarKey
  pub value : List ℕ

-- A variable's encoding: the key's number (1 byte) and the value.
abbrev pub variable_bytes : Variable → List ℕ
variable_bytes v = status_var_key_number v.key ∷ v.value

-- The value is whole: it has the layout of its key.
abbrev pub IsWhole : Variable → Type 0
IsWhole v = IsLaidOut (layout_of v.key) v.value

-- The text is these whole variables, followed by the rest.
pub record BeginsWith (text : List ℕ) (vars : List Variable) (rest : List ℕ) : Type 0 where
  pub is : text ≡ flat_map variable_bytes vars ++ rest
  pub whole : All IsWhole vars

-- The variables of a text: its longest prefix that is a list of whole variables.
pub record AreVariablesOf (text : List ℕ) (vars : List Variable) : Type 0 where
  pub rest : List ℕ
  pub front : BeginsWith text vars rest
  pub longest : (others : List Variable) (left : List ℕ) → BeginsWith text others left → length (flat_map variable_bytes others) ≤ length (flat_map variable_bytes vars)

-- ---- the first variable of a text, and all of them

-- The variable of this key at the start of the bytes, and the bytes after its value.
abbrev pub variable_at : StatusVarKey → List ℕ → Option ℕ → Option (Variable × List ℕ)
variable_at key s None = None
variable_at key s (Some n) = Some (record { key = key; value = take n s }, drop n s)

-- The variable of a key, if the key is known and its value is whole, and the bytes after it.
abbrev pub keyed : Result StatusVarKey UnknownStatusVarKey → List ℕ → Option (Variable × List ℕ)
keyed (Ok key) s = variable_at key s (value_len (layout_of key) s)
keyed (Err number) s = None

-- The first variable of a text and the bytes after it, if the text begins with a whole one.
abbrev pub first_variable : List ℕ → Option (Variable × List ℕ)
first_variable [] = None
first_variable (number ∷ s) = keyed (status_var_key_of number) s

-- A first variable, and those of the bytes after it.
abbrev pub with_others : Option (Variable × List ℕ) → (List ℕ → List Variable) → List Variable
with_others None others = []
with_others (Some x) others = x.0 ∷ others x.1

-- The first n variables of a text, or all if there are fewer.
abbrev pub variables_within : ℕ → List ℕ → List Variable
variables_within zero text = []
variables_within (suc n) text = with_others (first_variable text) (variables_within n)

-- The variables of a text; a law proves that they are its longest prefix of whole variables.
unfoldable pub variables : List ℕ → List Variable
variables text = variables_within (length text) text

-- ---- the first variable of a key

-- None of the variables has this key.
abbrev pub HasNoKey : StatusVarKey → List Variable → Type 0
HasNoKey key vars = All (λ v. v.key ≢ key) vars

-- The variable has this key, and none before it does.
pub record IsFirstOfKey (key : StatusVarKey) (vars : List Variable) (v : Variable) : Type 0 where
  pub before : List Variable
  pub after : List Variable
  pub is : vars ≡ before ++ v ∷ after
  pub has : v.key ≡ key
  pub first : HasNoKey key before
