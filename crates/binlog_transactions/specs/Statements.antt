-- Kinds of statements, by their texts.
-- Source: the texts that MySQL and MariaDB write into their logs.
use Rattle.std.specs.Prelude.{ℕ, ◌-◌, ◌==◌, Bool, true, false, ◌&&◌, ◌||◌, List, [], ◌∷◌, codes, nat_le, if◌then◌else◌}
use Rattle.binlog_transactions.specs.declared.statements.StatementKind.{StatementKind}
use Rattle.binlog_transactions.specs.declared.statements.StatementKind.TheVariants.{Begin, Commit, Rollback, RollbackToSavepoint, Harmless, XaStart, XaEnd, Xa, Other}

-- A byte with a lower case letter of ASCII in upper case.
abbrev pub upper : ℕ → ℕ
upper byte = if nat_le 97 byte && nat_le byte 122 then byte - 32 else byte

-- The text is this one.
abbrev pub is_text : List ℕ → List ℕ → Bool
is_text [] [] = true
is_text [] (wanted ∷ others) = false
is_text (byte ∷ bytes) [] = false
is_text (byte ∷ bytes) (wanted ∷ others) = (byte == wanted) && is_text bytes others

-- The text begins with this prefix, if its letters are in upper case.
abbrev pub begins_with : List ℕ → List ℕ → Bool
begins_with bytes [] = true
begins_with [] (wanted ∷ others) = false
begins_with (byte ∷ bytes) (wanted ∷ others) = (upper byte == wanted) && begins_with bytes others

-- Tables of a connection, which aren't in the log.
abbrev pub drops_temporary : List ℕ → Bool
drops_temporary text = begins_with text (codes "DROP TEMPORARY TABLE ") || begins_with text (codes "DROP /*!40005 TEMPORARY */ TABLE ")

abbrev pub ends_xa : List ℕ → Bool
ends_xa text = begins_with text (codes "XA COMMIT ") || begins_with text (codes "XA ROLLBACK ")

-- A statement of XA.
abbrev pub kind_of_xa : List ℕ → StatementKind
kind_of_xa text = if begins_with text (codes "XA START ") then XaStart else if ends_xa text then XaEnd else Xa

-- A statement that isn't the whole text BEGIN, COMMIT or ROLLBACK.
abbrev pub kind_by_prefix : List ℕ → StatementKind
kind_by_prefix text =
    if begins_with text (codes "ROLLBACK TO ")
    then RollbackToSavepoint
    else if begins_with text (codes "SAVEPOINT ") || drops_temporary text
    then Harmless
    else if begins_with text (codes "XA ")
    then kind_of_xa text
    else Other

abbrev pub kind_of : List ℕ → StatementKind
kind_of text =
    if is_text text (codes "BEGIN")
    then Begin
    else if is_text text (codes "COMMIT")
    then Commit
    else if is_text text (codes "ROLLBACK")
    then Rollback
    else kind_by_prefix text
