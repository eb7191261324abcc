-- The codes and flags of statement events, and their values.
use Rattle.std.specs.Prelude.{◌≡◌, ℕ, ℤ, pos, negsuc, List, [], ◌∷◌, codes, Result, Ok, Err, refl}
use Rattle.binlog_wire.specs.Laws.Numbers.{IsCode}
use Rattle.binlog_consts.specs.Tables.{value_of, is_code}
use Rattle.binlog_wire.specs.declared.error.Invalid.{Invalid}
use Rattle.binlog_wire.specs.declared.error.Invalid.TheVariants.{DupHandling}
use Rattle.binlog_consts.specs.declared.statement_codes.LoadDuplicateHandling.{LoadDuplicateHandling}
use Rattle.binlog_consts.specs.declared.statement_codes.LoadDuplicateHandling.TheVariants.{LOAD_DUP_ERROR, LOAD_DUP_IGNORE, LOAD_DUP_REPLACE}
use Rattle.binlog_consts.specs.declared.statement_codes.ItemResult.{ItemResult}
use Rattle.binlog_consts.specs.declared.statement_codes.ItemResult.TheVariants.{STRING_RESULT, REAL_RESULT, INT_RESULT, ROW_RESULT, DECIMAL_RESULT}
use Rattle.binlog_consts.specs.declared.statement_codes.UnknownItemResultType.{UnknownItemResultType}

-- ---- duplicate-key handling: one byte
-- Source: MySQL's internals documentation, "EXECUTE_LOAD_QUERY_EVENT".

-- The code of a duplicate-key handling.
abbrev pub dup_handling_number : LoadDuplicateHandling → ℕ
dup_handling_number LOAD_DUP_ERROR = 0
dup_handling_number LOAD_DUP_IGNORE = 1
dup_handling_number LOAD_DUP_REPLACE = 2

-- The duplicate-key handlings.
abbrev pub dup_handlings : List LoadDuplicateHandling
dup_handlings = LOAD_DUP_ERROR ∷ LOAD_DUP_IGNORE ∷ LOAD_DUP_REPLACE ∷ []

-- The duplicate-key handling with this code.
abbrev pub dup_handling_of : ℕ → Result LoadDuplicateHandling Invalid
dup_handling_of = value_of dup_handling_number dup_handlings (λ n. DupHandling n)

dup_handling_again : (e : LoadDuplicateHandling) → dup_handling_of (dup_handling_number e) ≡ Ok e
dup_handling_again LOAD_DUP_ERROR = refl
dup_handling_again LOAD_DUP_IGNORE = refl
dup_handling_again LOAD_DUP_REPLACE = refl

-- The duplicate-key handlings have unique codes of one byte.
pub dup_handling_is_code : IsCode 1 dup_handling_number dup_handling_of
dup_handling_is_code = is_code 1 dup_handling_number dup_handlings (λ n. DupHandling n) refl dup_handling_again

-- ---- the type of a user variable's value: one signed byte
-- Source: MySQL's documentation of its source code, `Item_result`.

-- The code of a value type.
abbrev pub item_result_number : ItemResult → ℕ
item_result_number STRING_RESULT = 0
item_result_number REAL_RESULT = 1
item_result_number INT_RESULT = 2
item_result_number ROW_RESULT = 3
item_result_number DECIMAL_RESULT = 4

-- The value types.
abbrev pub item_results : List ItemResult
item_results = STRING_RESULT ∷ REAL_RESULT ∷ INT_RESULT ∷ ROW_RESULT ∷ DECIMAL_RESULT ∷ []

-- The value type with this code.
abbrev pub item_result_of : ℤ → Result ItemResult UnknownItemResultType
item_result_of (pos n) = value_of item_result_number item_results (λ m. record { 0 = pos m }) n
item_result_of (negsuc n) = Err (record { 0 = negsuc n })

item_result_again : (e : ItemResult) → item_result_of (pos (item_result_number e)) ≡ Ok e
item_result_again STRING_RESULT = refl
item_result_again REAL_RESULT = refl
item_result_again INT_RESULT = refl
item_result_again ROW_RESULT = refl
item_result_again DECIMAL_RESULT = refl

-- The value types have unique codes of one byte.
pub item_result_is_code : IsCode 1 item_result_number (λ n. item_result_of (pos n))
item_result_is_code = is_code 1 item_result_number item_results (λ m. record { 0 = pos m }) refl item_result_again

-- ---- the flags of a user variable
-- Source: MySQL's documentation of its source code, `mysql::binlog::event::User_var_event`.

-- The name and the bits of each flag.
abbrev pub user_var_flags : List (List ℕ × ℕ)
user_var_flags =
    (codes "UNSIGNED", 0x1) ∷
    []
