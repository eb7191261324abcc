-- The sets of GTIDs that the options of a command state.
use Rattle.std.specs.Prelude.{◌≡◌, ℕ, ◌==◌, Bool, true, false, not, ◌&&◌, List, Option, Some, None}
use Rattle.std.specs.List.{list_any}
use Rattle.binlog_mariadb.specs.declared.maria_gtid.MariaGtid.{MariaGtid}
use Rattle.binlog_maria_gtids.specs.GtidSets.{is_among}
use Rattle.binlog_maria_gtids.specs.GtidTexts.{AreGtidTexts}
use Rattle.binlog_maria_gtids.specs.GtidReading.{IsInvalid as IsInvalidList}
use Rattle.binlog_maria_gtids.specs.declared.gtid_text_error.MariaGtidTextError.{MariaGtidTextError}
use Rattle.binlog_gtid_sets.specs.GtidGroups.{Pair, is_tracked}
use Rattle.binlog_gtid_text.specs.Pieces.{IsInvalid, IsText, is_in_text}
use Rattle.binlog_gtid_text.specs.declared.error.GtidTextError.{GtidTextError}
use Rattle.binlog_gtid_text.specs.declared.piece.Piece.{Piece}
use Rattle.binlog_filters.specs.declared.gtid_set.GtidSet.{GtidSet}
use Rattle.binlog_filters.specs.declared.gtid_set.GtidSet.TheVariants.{Mysql, Maria}

-- The text has the byte.
abbrev pub has_byte : ℕ → List ℕ → Bool
has_byte byte text = list_any (λ (b : ℕ). b == byte) text

-- A text is read as a set of MariaDB's if it has a `-` and no `:`, else as one of MySQL's.
abbrev pub is_maria_text : List ℕ → Bool
is_maria_text text = has_byte 45 text && not (has_byte 58 text)

-- The text states this set of MySQL's.
abbrev pub IsMysqlSet : List ℕ → GtidSet → Type 0
IsMysqlSet text (Mysql set) = (pieces : List Piece) × IsText text pieces × ((pair : Pair) (n : ℕ) → is_tracked set pair n ≡ is_in_text pieces pair n)
IsMysqlSet text (Maria set) = ⊥

-- The text states this set of MariaDB's.
abbrev pub IsMariaSet : List ℕ → GtidSet → Type 0
IsMariaSet text (Mysql set) = ⊥
IsMariaSet text (Maria set) = (gtids : List MariaGtid) × AreGtidTexts text gtids × ((gtid : MariaGtid) → is_among set gtid ≡ is_among gtids gtid)

-- The text states no set of MySQL's.
abbrev pub IsNoMysqlSet : List ℕ → Type 0
IsNoMysqlSet text = (error : GtidTextError) × IsInvalid text error

-- The text states no set of MariaDB's.
abbrev pub IsNoMariaSet : List ℕ → Type 0
IsNoMariaSet text = (error : MariaGtidTextError) × IsInvalidList text error

-- The text states this set, of MariaDB's or else of MySQL's.
abbrev pub IsSet : (is_maria : Bool) → List ℕ → GtidSet → Type 0
IsSet true text set = IsMariaSet text set
IsSet false text set = IsMysqlSet text set

-- The text states no set of MariaDB's, or else none of MySQL's.
abbrev pub IsNoSet : (is_maria : Bool) → List ℕ → Type 0
IsNoSet true text = IsNoMariaSet text
IsNoSet false text = IsNoMysqlSet text

-- The set of GTIDs of an option with this text, if it is given.
abbrev pub StatesGtids : Option (List ℕ) → Option GtidSet → Type 0
StatesGtids None set = set ≡ None
StatesGtids (Some text) (Some set) = IsSet (is_maria_text text) text set
StatesGtids (Some text) None = ⊥

-- An option is given with a text that is no set of GTIDs.
abbrev pub StatesNoGtids : Option (List ℕ) → Type 0
StatesNoGtids None = ⊥
StatesNoGtids (Some text) = IsNoSet (is_maria_text text) text
