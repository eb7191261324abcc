-- Lines of tables that are written one behind the other.
use Rattle.std.proofs.Common.{◌≡◌, ℕ, ◌+◌, ◌<◌, List, [], ◌∷◌, ◌++◌, codes, length, take, Option, Some, Result, OnOk, refl, sym, ap, subst, ◌∙◌, append_assoc, append-nil}
use Rattle.std.specs.Prelude.{IfSome, slice_get}
use Rattle.std.specs.Io.KnownBytes.{Appends}
use Rattle.change_statistics.proofs.WrittenTexts.{on_ok, appends_both, nothing_appended}
use Rattle.change_statistics.proofs.WrittenLists.{taken_more, at_entry}
use Rattle.binlog_summaries.specs.StatsText.{Writes}
use Rattle.change_statistics.specs.declared.table_counts.TableCounts.{TableCounts}
use Rattle.change_statistics.specs.declared.table_name.TableName.{TableName}
use Rattle.change_statistics.specs.NameTexts.{names_text}
use Rattle.binlog_summaries.specs.TableText.{IsTableLine, AreTableLines, IsTimeOf, counts_text}

abbrev Entry : Type 0
Entry = TableName × TableCounts

-- ---- one line

-- The parts of the line of a table.
pub whole_line : {T E : Type 0} (result : Result T E) (entry : Entry) (first last : List ℕ) (old names_end counts_end first_end last_end new : Option (List ℕ))
    → IsTimeOf (codes " first ") entry.1.first_time first → IsTimeOf (codes " last ") entry.1.last_time last
    → Appends old names_end (names_text entry.0) → Appends names_end counts_end (counts_text entry.1) → Appends counts_end first_end first → Appends first_end last_end last
    → OnOk result (Appends last_end new (codes "\n")) → OnOk result (Writes (IsTableLine entry) old new)
whole_line result entry first last old names_end counts_end first_end last_end new is_first is_last a b c d end =
    let before : Appends old last_end (names_text entry.0 ++ counts_text entry.1 ++ first ++ last) =
    appends_both old first_end last_end (names_text entry.0 ++ counts_text entry.1 ++ first) last
    (appends_both old counts_end first_end (names_text entry.0 ++ counts_text entry.1) first (appends_both old names_end counts_end (names_text entry.0) (counts_text entry.1) a b) c) d in
    on_ok result
    (λ (line_end : Appends last_end new (codes "\n")). record {
      text = names_text entry.0 ++ counts_text entry.1 ++ first ++ last ++ codes "\n";
      is = record { first = first; is_first = is_first; last = last; is_last = is_last; is = refl };
      appended = appends_both old last_end new (names_text entry.0 ++ counts_text entry.1 ++ first ++ last) (codes "\n") before line_end;
    })
    end

-- ---- one line more

lines_more : (entries : List Entry) (entry : Entry) (text line : List ℕ) → AreTableLines entries text → IsTableLine entry line → AreTableLines (entries ++ entry ∷ []) (text ++ line)
lines_more [] entry text line none is = (line, [], is, refl, ap (λ (t : List ℕ). t ++ line) none ∙ sym (append-nil line))
lines_more (first ∷ entries) entry text line (one, rest, is_one, are, whole) is =
    (one, rest ++ line, is_one, lines_more entries entry rest line are is, ap (λ (t : List ℕ). t ++ line) whole ∙ append_assoc one rest line)

one_line_more : (entries : List Entry) (i : ℕ) (entry : Entry) (old mid new : Option (List ℕ)) → slice_get entries i ≡ Some entry → Writes (AreTableLines (take i entries)) old mid → Writes (IsTableLine entry) mid new
    → Writes (AreTableLines (take (i + 1) entries)) old new
one_line_more entries i entry old mid new at so_far one = record {
  text = so_far.text ++ one.text;
  is = subst (λ (l : List Entry). AreTableLines l (so_far.text ++ one.text)) (sym (taken_more entries i entry at)) (lines_more (take i entries) entry so_far.text one.text so_far.is one.is);
  appended = appends_both old mid new so_far.text one.text so_far.appended one.appended;
}

pub line_written : (entries : List Entry) (i : ℕ) (old mid new : Option (List ℕ)) → i < length entries → Writes (AreTableLines (take i entries)) old mid → IfSome (slice_get entries i) (λ entry. Writes (IsTableLine entry) mid new)
    → Writes (AreTableLines (take (i + 1) entries)) old new
line_written entries i old mid new within so_far one =
    let found = at_entry entries i (λ (entry : Entry). Writes (IsTableLine entry) mid new) within one in
    one_line_more entries i found.0 old mid new found.1 so_far found.2

pub no_line_written : (entries : List Entry) (old : Option (List ℕ)) → Writes (AreTableLines (take 0 entries)) old old
no_line_written entries old = record { text = []; is = refl; appended = nothing_appended old }
