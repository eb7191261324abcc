-- Changes that stay are kept apart from those that are undone, over several logs.
use Rattle.std.proofs.Common.{◌≡◌, ℕ, Bool, true, List, [], ◌∷◌, ◌++◌, Option, Some, None, refl, sym, ◌∙◌}
use Rattle.std.specs.List.{flat_map}
use Rattle.table_changes.specs.Parts.{KeepsApart, nothing}
use Rattle.binlog_later_changes.specs.Apart.{logged_in}
use Rattle.binlog_later_changes.specs.Changes.{changes_found}
use Rattle.binlog_later_changes.specs.Later.{Look, Change, later_from, firsts}
use Rattle.binlog_later_changes.specs.RowsLeft.{Left, nothing_left}
use Rattle.binlog_later_changes.specs.SeenRows.{Unread, AreOf, rows_of_log}
use Rattle.binlog_later_changes.specs.declared.later_changes.LaterChanges.{LaterChanges}
use Rattle.binlog_later_changes.specs.declared.later_rules.LaterRules.{LaterRules}
use Rattle.binlog_later_changes.proofs.SeenRows.{Follows, none_follow, both_follow, free_both, log_follows}
use Rattle.binlog_undo_command.specs.LaterLogs.{SeesAllLater, SeesAll, AreLater, next_number}
use Rattle.binlog_undo_command.specs.LaterRows.{rows_in_later, rows_in_all}
use Rattle.binlog_undo_command.specs.declared.scanning.ScannedLog.{ScannedLog}

nothing_undone : AreOf [] nothing_left
nothing_undone = record {
  undone = λ name is_unknown is. let bad : ◌≡◌ {A = Option Bool} None (Some is_unknown) = is in absurd cc;
  others = λ name row is. refl;
}

no_firsts : (changes : List Change) → firsts changes ≡ [] → changes ≡ []
no_firsts [] is = refl
no_firsts (change ∷ changes) is = absurd cc

module _ (bytes : List ℕ → List ℕ) (rules : LaterRules) (unread : (number : ℕ) → Unread) (checks : rules.checks_rows ≡ true) where
  later_follow : (number : ℕ) (names : List (List ℕ)) (before behind : Left) (front looks : List Look) (sees : SeesAllLater bytes rules number names before behind looks)
      → AreOf front before → later_from front looks ≡ [] → Follows (rows_in_later bytes rules unread number names before behind looks sees) front looks before behind
  later_follow number [] before behind front looks sees h free = none_follow front looks before behind sees.0 sees.1 h
  later_follow number (name ∷ names) before behind front looks (own, others, mid, first, more, is) h free =
      let parts = free_both front own others looks is free in
      let one = log_follows rules number (unread number) checks [] (bytes name) before mid front own first h parts.0 in
      let two = later_follow (next_number number) names mid behind (front ++ own) others more one.1 parts.1 in
      both_follow (rows_of_log rules number (unread number) [] (bytes name) before mid own first) (rows_in_later bytes rules unread (next_number number) names mid behind others more)
      front own others looks before mid behind is one two

  module _ {F : Type 0} (has_frames : List ℕ → F → Type 0) (is_at : F → ℕ → List ℕ → Type 0) where
    all_follow : (number : ℕ) (logs : List ScannedLog) (names : List (List ℕ)) (before behind : Left) (front looks : List Look)
        (sees : SeesAll bytes has_frames is_at rules number logs names before behind looks) → AreOf front before → later_from front looks ≡ []
        → Follows (rows_in_all bytes rules unread has_frames is_at number logs names before behind looks sees) front looks before behind
    all_follow number [] names before behind front looks sees h free = later_follow number names before behind front looks sees h free
    all_follow number (log ∷ logs) names before behind front looks (places, own, others, mid, are, first, more, is) h free =
        let parts = free_both front own others looks is free in
        let one = log_follows rules number (unread number) checks places (bytes log.name.now) before mid front own first h parts.0 in
        let two = all_follow (next_number number) logs names mid behind (front ++ own) others more one.1 parts.1 in
        both_follow (rows_of_log rules number (unread number) places (bytes log.name.now) before mid own first)
        (rows_in_all bytes rules unread has_frames is_at (next_number number) logs names mid behind others more) front own others looks before mid behind is one two

    pub rows_apart : (logs : List ScannedLog) (names : List (List ℕ)) (changes : LaterChanges) (later : AreLater bytes has_frames is_at rules logs names changes) → changes_found changes ≡ []
        → KeepsApart (flat_map logged_in (rows_in_all bytes rules unread has_frames is_at 0 logs names nothing_left later.behind later.looks later.seen)) nothing later.behind.counts
    rows_apart logs names changes later none =
        let free : later_from [] later.looks ≡ [] = no_firsts (later_from [] later.looks) (sym later.found ∙ none) in
        (all_follow 0 logs names nothing_left later.behind [] later.looks later.seen nothing_undone free).0
