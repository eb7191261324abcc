-- The lines of the rows of an event are those of the rows of its whole line.
use Rattle.std.proofs.Common.{◌≡◌, ◌↔◌, ◌⊎◌, inl, inr, ℕ, Bool, true, false, ◌||◌, not, List, [], ◌++◌, codes, length, Option, None, Some, Result, Ok, Err, if◌then◌else◌, refl, sym, ap, subst, ◌∙◌, append_assoc, arith}
use Rattle.std.proofs.lemmas.Bool.Decides.{nat_tests}
use Rattle.std.specs.Prelude.{IsTrue, nat_eq}
use Rattle.json.specs.Print.{print}
use Rattle.json.specs.Token.{Token}
use Rattle.json_line.specs.Tokens.{text_value, member, object}
use Rattle.binlog_wire.specs.declared.error.Error.{Error}
use Rattle.binlog_consts.specs.EventTypes.{event_type_of}
use Rattle.binlog_event_format.specs.Headers.{header_of}
use Rattle.binlog_events.specs.Events.{EventView}
use Rattle.binlog_events.specs.Parts.{data_of}
use Rattle.binlog_event_data.specs.declared.event_data.EventData.{EventData}
use Rattle.binlog_event_data.specs.declared.event_data.EventData.TheVariants as mysql
use Rattle.binlog_mariadb.specs.declared.event_data.MariaEventData.{MariaEventData}
use Rattle.binlog_file.specs.LogData.{ReadsLogData, answer_as}
use Rattle.binlog_file.specs.declared.log_data.LogEventData.{LogEventData}
use Rattle.binlog_file.specs.declared.log_data.LogEventData.TheVariants.{Mysql, Maria}
use Rattle.binlog_images.specs.Cells.{RowCells}
use Rattle.binlog_images.specs.EventRows.{is_partial}
use Rattle.binlog_columns.specs.Refusals.{refusal}
use Rattle.binlog_images.specs.Events.{columns_error, event_error}
use Rattle.binlog_images.specs.declared.rows_error.RowsError.{RowsError}
use Rattle.binlog_images.specs.declared.rows_error.RowsEventError.{RowsEventError}
use Rattle.binlog_images.specs.declared.rows_error.RowsEventError.TheVariants.{NoTableMap}
use Rattle.binlog_json_values.specs.Parts.{AreParts}
use Rattle.binlog_json_values.specs.Rows.{rows_parts}
use Rattle.binlog_rows.specs.RowsData.{event_in}
use Rattle.binlog_rows.specs.declared.rows_event_data.RowsEventData.{RowsEventData}
use Rattle.binlog_rows.specs.declared.table_map_event.TableMapEvent.{TableMapEvent}
use Rattle.binlog_json_lines.specs.ItemLines.{event_head, data_member}
use Rattle.binlog_json_lines.specs.Lines.{IsRowsLine, IsLineOf, IsLineWith}
use Rattle.binlog_json_lines.specs.Options.{RowOptions}
use Rattle.binlog_json_lines.specs.PartLines.{IsPartEventLine, part_head}
use Rattle.binlog_json_lines.specs.Refusals.{metadata_member}
use Rattle.binlog_filters.specs.RowEvents.{is_of_rows, rows_event_of}
use Rattle.binlog_json_lines.specs.RowMembers.{name_of, IsFlavour, AreReadRows, AreRowsMembers, AreEventMembers, AreMembersOf, AreMembers}
use Rattle.binlog_filters.proofs.RowsRead.{read_some}
use Rattle.column_files.specs.declared.tables.DeclaredTables.{DeclaredTables}
use Rattle.binlog_change_lines.specs.EventTexts.{rows_in, has_line, has_bytes, AreLinesBy, AreLines, ShowsSomeRows, ShowsIf, ShowsRead, ShowsEvent, IsTextOf, IsEventText, IsPartText}
use Rattle.binlog_change_lines.specs.Heads.{Place}
use Rattle.binlog_change_lines.specs.RowLines.{AllAreRead}
use Rattle.binlog_change_lines.specs.WholeLines.{EndWithRows, HasRows, AreRowsOfLine, IsOfNoRows}
use Rattle.binlog_change_lines.specs.declared.change_lines.Shown.{Shown}
use Rattle.binlog_change_lines.specs.declared.change_lines.Shown.TheVariants.{Nothing, Rows, Whole}
use Rattle.binlog_change_lines.proofs.SameRows.{same_items}

-- ---- what was read

is_rows : (content : LogEventData) (body : RowsEventData) → rows_in content ≡ Some body → content ≡ Mysql (mysql.RowsEvent body)
is_rows (Mysql (mysql.RowsEvent event)) body is = let same : event ≡ body = cc in ap (λ (e : RowsEventData). Mysql (mysql.RowsEvent e)) same
is_rows (Mysql other) body is = absurd cc
is_rows (Maria other) body is = absurd cc

not_of_maria : (body : RowsEventData) (read : Result (Option MariaEventData) Error) → Ok (Some (Mysql (mysql.RowsEvent body))) ≡ answer_as Maria read → ⊥
not_of_maria body (Ok (Some content)) is = cc
not_of_maria body (Ok None) is = cc
not_of_maria body (Err error) is = cc

of_mysql : (body : RowsEventData) (read : Result (Option EventData) Error) → Ok (Some (Mysql (mysql.RowsEvent body))) ≡ answer_as Mysql read → read ≡ Ok (Some (mysql.RowsEvent body))
of_mysql body (Ok (Some content)) is = let same : content ≡ mysql.RowsEvent body = cc in ap (λ (d : EventData). Ok (Some d)) same
of_mysql body (Ok None) is = absurd cc
of_mysql body (Err error) is = absurd cc

-- The row event of an event of their types, whose data is read so.
row_event : (event : EventView) (body : RowsEventData) → is_of_rows (event_type_of (header_of event.frame).event_type) ≡ true → ReadsLogData event (Ok (Some (Mysql (mysql.RowsEvent body))))
    → rows_event_of event ≡ Some body
row_event event body rows (inl (own, (read, reads, is))) = absurd (not_of_maria body read is)
row_event event body rows (inr (other, (read, reads, is))) =
    read_some event.fde (header_of event.frame).event_type (data_of event.fde.footer event.frame) (mysql.RowsEvent body) rows (rw (of_mysql body read is) at reads)

-- ---- the whole line

same_flavour : {P : Type 0} (b c : Bool) → IsTrue b ↔ P → IsTrue c ↔ P → b ≡ c
same_flavour true true x y = refl
same_flavour false false x y = refl
same_flavour true false x y = sym (y.1 (x.0 refl))
same_flavour false true x y = x.1 (y.0 refl)

id_is : (is_same : Bool) (found : Option RowsEventError) (error : RowsEventError) → (if is_same then found else Some error) ≡ None → is_same ≡ true
id_is true found error is = refl
id_is false found error is = absurd cc

-- The table map of an event whose rows can be read is of its table.
of_table : (body : RowsEventData) (table : TableMapEvent) → event_error table (event_in body) ≡ None → nat_eq table.table.id (event_in body).head.table_id ≡ true
of_table body table fits =
    let is : nat_eq (event_in body).head.table_id table.table.id ≡ true =
    id_is (nat_eq (event_in body).head.table_id table.table.id)
    (columns_error (event_in body).columns.count (length table.columns.types) (refusal 0 table.columns.types table.columns.metadata)) (NoTableMap (event_in body).head.table_id) fits in
    grind (arith, nat_tests)

read_rows : (files : List DeclaredTables) (is_maria_log : Bool) (body : RowsEventData) (table : TableMapEvent) (all_read : Bool) (column : Option ℕ) (tokens : List Token) (items : List (Result RowCells RowsError))
    → AllAreRead body table items → (read : AreReadRows files is_maria_log (is_partial body) table (event_in body) (record { all_read = all_read; contradiction = column }) tokens) → read.items ≡ items
read_rows files is_maria_log body table all_read column tokens items all read = same_items body table read.items items read.split all.split

mapped_rows : (files : List DeclaredTables) (is_maria_log : Bool) (body : RowsEventData) (table : TableMapEvent) (all_read : Bool) (column : Option ℕ) (tokens : List Token) (items : List (Result RowCells RowsError))
    → AllAreRead body table items → AreEventMembers files is_maria_log body (Some table) (record { all_read = all_read; contradiction = column }) tokens → EndWithRows files is_maria_log table items tokens
mapped_rows files is_maria_log body table all_read column tokens items all members =
    let read : AreReadRows files is_maria_log (is_partial body) table (event_in body) (record { all_read = all_read; contradiction = column }) members.rows =
    subst (λ (e : Option RowsEventError). AreRowsMembers files is_maria_log body table e (record { all_read = all_read; contradiction = column }) members.rows) all.fits members.read in
    record {
      facts = read.facts;
      refusal = read.refusal;
      contradiction = column;
      stated = read.stated;
      front = member (codes "table") (text_value (name_of table)) ++ metadata_member read.refusal;
      rows = read.rows;
      are = subst (λ (l : List (Result RowCells RowsError)). AreParts (rows_parts read.facts l) read.rows) (read_rows files is_maria_log body table all_read column members.rows items all read) read.rows_are;
      is = members.are ∙ ap (λ (l : List Token). member (codes "table") (text_value (name_of table)) ++ l) read.are
          ∙ sym (append_assoc (member (codes "table") (text_value (name_of table))) (metadata_member read.refusal) (member (codes "rows") read.rows));
    }

-- The members of the rows of an event, all of which can be read.
members_of : (files : List DeclaredTables) (event : EventView) (is_maria_log : Bool) (body : RowsEventData) (table : TableMapEvent) (all_read : Bool) (column : Option ℕ) (tokens : List Token) (items : List (Result RowCells RowsError))
    → IsFlavour event is_maria_log → rows_event_of event ≡ Some body → AllAreRead body table items → AreMembers files event (Some table) (record { all_read = all_read; contradiction = column }) tokens
    → EndWithRows files is_maria_log table items tokens
members_of files event is_maria_log body table all_read column tokens items flavour is all members =
    let own = subst (λ (b : Option RowsEventData). AreMembersOf files event (Some table) b (record { all_read = all_read; contradiction = column }) tokens) is members in
    let of_event : AreEventMembers files own.0 body (Some table) (record { all_read = all_read; contradiction = column }) tokens = rw (of_table body table all.fits) at own.2 in
    subst (λ (b : Bool). EndWithRows files b table items tokens) (same_flavour own.0 is_maria_log own.1 flavour) (mapped_rows files own.0 body table all_read column tokens items all of_event)

-- An object with these members in its middle.
line_has : (files : List DeclaredTables) (is_maria_log : Bool) (table : TableMapEvent) (items : List (Result RowCells RowsError)) (head tokens behind : List Token) (line : List ℕ)
    → EndWithRows files is_maria_log table items tokens → line ≡ print (object (head ++ (tokens ++ behind))) ++ codes "\n" → HasRows files is_maria_log table items line
line_has files is_maria_log table items head tokens behind line ends is = record {
  front = head ++ tokens;
  rows = record {
    facts = ends.facts;
    refusal = ends.refusal;
    contradiction = ends.contradiction;
    stated = ends.stated;
    front = head ++ ends.front;
    rows = ends.rows;
    are = ends.are;
    is = ap (λ (l : List Token). head ++ l) ends.is ∙ sym (append_assoc head ends.front (member (codes "rows") ends.rows));
  };
  behind = behind;
  is = is ∙ ap (λ (l : List Token). print (object l) ++ codes "\n") (sym (append_assoc head tokens behind));
}

-- ---- the lines of rows

-- `has` says that the whole line has the rows of an event that can all be read.
module _ (files : List DeclaredTables) (place : Place) (map : Option TableMapEvent) (event : EventView) (line : List ℕ)
    (has : (is_maria_log : Bool) (body : RowsEventData) (table : TableMapEvent) (items : List (Result RowCells RowsError)) → map ≡ Some table → IsFlavour event is_maria_log
    → rows_event_of event ≡ Some body → AllAreRead body table items → HasRows files is_maria_log table items line) where
  lines_of : (body : RowsEventData) (found : Option TableMapEvent) (is_maria_log : Bool) (contradiction : Option ℕ) (text : List ℕ) → map ≡ found → IsFlavour event is_maria_log
      → rows_event_of event ≡ Some body → AreLinesBy files place event map is_maria_log body found contradiction text → AreRowsOfLine files place map event line text
  lines_of body None is_maria_log contradiction text is flavour rows lines = absurd lines
  lines_of body (Some table) is_maria_log contradiction text is flavour rows lines = record {
    table = table;
    mapped = is;
    is_maria_log = is_maria_log;
    flavour = flavour;
    body = body;
    items = lines.items;
    read = lines.read;
    whole = has is_maria_log body table lines.items is flavour rows lines.read;
    each = record { facts = lines.facts; refusal = lines.refusal; contradiction = contradiction; stated = lines.stated; lines = lines.lines };
  }

  lines_if : (is_there : Bool) (body : RowsEventData) (contradiction : Option ℕ) (text : List ℕ) → ShowsSomeRows files place event map is_there body (Rows contradiction) text
      → AreLines files place event map body contradiction text
  lines_if true body contradiction text shows = shows
  lines_if false body contradiction text shows = absurd cc

  shown_rows : (content : LogEventData) (found : Option RowsEventData) (is_line : Bool) (contradiction : Option ℕ) (text : List ℕ) → is_of_rows (event_type_of (header_of event.frame).event_type) ≡ true
      → ReadsLogData event (Ok (Some content)) → rows_in content ≡ found → ShowsIf files place event map found is_line (Rows contradiction) text → AreRowsOfLine files place map event line text
  shown_rows content (Some body) is_line contradiction text rows reads is shows =
      let read = rw (is_rows content body is) at reads in
      let own : AreLines files place event map body contradiction text = lines_if (has_bytes (event_in body).rows) body contradiction text shows in
      lines_of body map own.0 contradiction text refl own.1 (row_event event body rows read) own.2
  shown_rows content None true contradiction text rows reads is shows = absurd cc
  shown_rows content None false contradiction text rows reads is shows = absurd cc

  read_shown : (read : Result (Option LogEventData) Error) (contradiction : Option ℕ) (text : List ℕ) → is_of_rows (event_type_of (header_of event.frame).event_type) ≡ true → ReadsLogData event read
      → ShowsRead files place event map read (Rows contradiction) text → AreRowsOfLine files place map event line text
  read_shown (Ok (Some content)) contradiction text rows reads shows = shown_rows content (rows_in content) (has_line content) contradiction text rows reads refl shows
  read_shown (Ok None) contradiction text rows reads shows = absurd cc
  read_shown (Err error) contradiction text rows reads shows = absurd cc

  not_nothing : (is_there : Bool) (body : RowsEventData) (text : List ℕ) → ShowsSomeRows files place event map is_there body Nothing text → ⊥
  not_nothing true body text shows = shows
  not_nothing false body text shows = absurd cc

  none_if : (found : Option RowsEventData) (is_line : Bool) (text : List ℕ) → ShowsIf files place event map found is_line Nothing text → found ≡ None
  none_if (Some body) is_line text shows = absurd (not_nothing (has_bytes (event_in body).rows) body text shows)
  none_if None is_line text shows = refl

  none_read : (read : Result (Option LogEventData) Error) (text : List ℕ) → ReadsLogData event read → ShowsRead files place event map read Nothing text → IsOfNoRows event
  none_read (Ok (Some content)) text reads shows = (content, reads, none_if (rows_in content) (has_line content) text shows)
  none_read (Ok None) text reads shows = absurd cc
  none_read (Err error) text reads shows = absurd cc

  by_shown : (IsWhole : Option ℕ → List ℕ → Type 0) (shown : Shown) (lines : List ℕ) (found : Option ℕ) (text : List ℕ) → is_of_rows (event_type_of (header_of event.frame).event_type) ≡ true
      → ShowsEvent files place event map shown lines → IsTextOf IsWhole shown lines found text
      → AreRowsOfLine files place map event line text ⊎ (IsWhole found text ⊎ ((text ≡ []) × IsOfNoRows event))
  by_shown IsWhole Nothing lines found text rows shows is = inr (inr (is.1, none_read shows.read lines shows.reads shows.shows))
  by_shown IsWhole (Rows contradiction) lines found text rows shows is =
      inl (subst (λ (t : List ℕ). AreRowsOfLine files place map event line t) (sym is.1) (read_shown shows.read contradiction lines rows shows.reads shows.shows))
  by_shown IsWhole Whole lines found text rows shows is = inr (inl is)

-- The text of a row event beside its whole line.
pub outside : (options : RowOptions) (place : Place) (map : Option TableMapEvent) (index : ℕ) (event : EventView) (contradiction found : Option ℕ) (line text : List ℕ)
    → is_of_rows (event_type_of (header_of event.frame).event_type) ≡ true → IsLineWith options map index event contradiction line → IsEventText options place map index event found text
    → AreRowsOfLine options.files place map event line text ⊎ (IsLineWith options map index event found text ⊎ ((text ≡ []) × IsOfNoRows event))
outside options place map index event contradiction found line text rows whole at =
    let own : IsRowsLine options map index event contradiction line = subst (λ (b : Bool). IsLineOf b options map index event contradiction line) rows whole in
    by_shown options.files place map event line
    (λ is_maria_log body table items mapped flavour is all.
    line_has options.files is_maria_log table items (event_head index event) own.are.are.rows (data_member (options.keeps_stored || not own.are.are.shown.all_read) event) line
    (members_of options.files event is_maria_log body table own.are.are.shown.all_read own.are.are.shown.contradiction own.are.are.rows items flavour is all
    (subst (λ (m : Option TableMapEvent). AreMembers options.files event m own.are.are.shown own.are.are.rows) mapped own.are.are.read))
    (own.is ∙ ap (λ (tokens : List Token). print tokens ++ codes "\n") (own.are.is ∙ ap (λ (members : List Token). object (event_head index event ++ members)) own.are.are.is)))
    (λ c t. IsLineWith options map index event c t) at.shown at.lines found text rows at.shows at.is

-- The same inside a compressed transaction.
pub inside : (options : RowOptions) (place : Place) (map : Option TableMapEvent) (index number : ℕ) (event : EventView) (contradiction found : Option ℕ) (line text : List ℕ)
    → is_of_rows (event_type_of (header_of event.frame).event_type) ≡ true → IsPartEventLine options map index number event contradiction line
    → IsPartText options place map index number event found text
    → AreRowsOfLine options.files place map event line text ⊎ (IsPartEventLine options map index number event found text ⊎ ((text ≡ []) × IsOfNoRows event))
inside options place map index number event contradiction found line text rows own at =
    by_shown options.files place map event line
    (λ is_maria_log body table items mapped flavour is all.
    line_has options.files is_maria_log table items (part_head index number event) own.are.are.rows (data_member (options.keeps_stored || not own.are.are.shown.all_read) event) line
    (members_of options.files event is_maria_log body table own.are.are.shown.all_read own.are.are.shown.contradiction own.are.are.rows items flavour is all
    (subst (λ (m : Option TableMapEvent). AreMembers options.files event m own.are.are.shown own.are.are.rows) mapped own.are.are.read))
    (own.is ∙ ap (λ (tokens : List Token). print tokens ++ codes "\n") (own.are.is ∙ ap (λ (members : List Token). object (part_head index number event ++ members)) own.are.are.is)))
    (λ c t. IsPartEventLine options map index number event c t) at.shown at.lines found text rows at.shows at.is
