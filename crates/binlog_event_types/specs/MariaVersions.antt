-- Whether a server version is MariaDB's, as a test.
use Rattle.std.specs.Prelude.{ℕ, zero, suc, Bool, false, ◌||◌, List, length, codes}
use Rattle.memchr.specs.Find.{occurs_at}
use Rattle.binlog_mariadb.specs.Flavour.{version_text}

-- The part occurs in a text, at an index below n.
abbrev pub occurs_below : (text part : List ℕ) (n : ℕ) → Bool
occurs_below text part zero = false
occurs_below text part (suc n) = occurs_at text part n || occurs_below text part n

-- The part is in the text.
abbrev pub is_in : (text part : List ℕ) → Bool
is_in text part = occurs_below text part (length text)

-- The server version is MariaDB's: one of these parts is in its text.
unfoldable pub is_maria : (version : List ℕ) → Bool
is_maria version = is_in (version_text version) (codes "MariaDB") || is_in (version_text version) (codes "-maria-")
