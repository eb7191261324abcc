-- The GTIDs that are collected of all items.
use Rattle.std.proofs.Common.{◌≡◌, ℕ, ◌+◌, Bool, true, false, ◌||◌, List, [], ◌∷◌, ◌++◌, Option, Some, None, Result, Ok, Err, refl, sym, ap, subst, ◌∙◌, append_assoc, append-nil}
use Rattle.std.specs.Io.KnownBytes.{Appends}
use Rattle.std.proofs.KnownBytes.{Appends-nil, Appends-trans}
use Rattle.binlog_wire.specs.declared.error.Error.{Error}
use Rattle.binlog_events.specs.Events.{EventView}
use Rattle.binlog_file.specs.TableMapsInForce.{TableMaps}
use Rattle.binlog_visits.specs.TableMaps.{maps_behind}
use Rattle.binlog_visits.specs.Visits.{Visits}
use Rattle.binlog_visits.specs.Lines.{listing}
use Rattle.binlog_gtid_sets.specs.GtidGroups.{Pair, is_tracked}
use Rattle.binlog_mariadb.specs.declared.maria_gtid.MariaGtid.{MariaGtid}
use Rattle.binlog_maria_gtids.specs.LastGtids.{last_of, Origin, KeepLast}
use Rattle.binlog_maria_gtids.proofs.LastGtids.{keep_more}
use Rattle.binlog_gtid_listing.specs.GtidItems.{gtids_in, adds, are_added}
use Rattle.binlog_gtid_listing.specs.MariaItems.{item_gtids, maria_gtids}
use Rattle.binlog_gtid_listing.specs.LogItems.{log_line, log_gtids}
use Rattle.binlog_commands.specs.Collecting.{Collection, collected, refused_in, Collects, CollectsAll}
use Rattle.binlog_commands.specs.declared.gtids.GtidCollector.{GtidCollector}

-- What these items add to what there was, where `index` is that of the first.
record CollectsMore (index : ℕ) (items : List (Result EventView Error)) (old new : Collection) : Type 0 where
  same : (pair : Pair) (n : ℕ) → is_tracked new.tracking.gtids.mysql pair n ≡ (are_added items pair n || is_tracked old.tracking.gtids.mysql pair n)
  last : KeepLast (old.tracking.gtids.maria ++ maria_gtids items) new.tracking.gtids.maria
  written : Appends old.tracking.written new.tracking.written (listing log_line index items)
  refusals : new.refused ≡ refused_in items old.refused

or_swap : (a b c : Bool) → (a || (b || c)) ≡ ((b || a) || c)
or_swap true true c = refl
or_swap true false c = refl
or_swap false true c = refl
or_swap false false c = refl

or_false : (b : Bool) → (b || false) ≡ b
or_false true = refl
or_false false = refl

none_more : (index : ℕ) (c : Collection) → CollectsMore index [] c c
none_more index c = record {
  same = λ pair n. refl;
  last = λ o. ap (λ (gs : List MariaGtid). last_of gs o) (sym (append-nil c.tracking.gtids.maria));
  written = Appends-nil c.tracking.written;
  refusals = refl;
}

one_more : (index : ℕ) (item : Result EventView Error) (items : List (Result EventView Error)) (old mid new : Collection) → Collects index item old mid → CollectsMore (index + 1) items mid new
    → CollectsMore index (item ∷ items) old new
one_more index item items old mid new (is_error, tracks, refused) rest = record {
  same = λ pair n.
      rest.same pair n ∙ ap (λ (b : Bool). are_added items pair n || b) (tracks.0 pair n)
      ∙ or_swap (are_added items pair n) (adds (gtids_in item) pair n) (is_tracked old.tracking.gtids.mysql pair n);
  last = λ o.
      rest.last o ∙ keep_more (old.tracking.gtids.maria ++ item_gtids item) mid.tracking.gtids.maria (maria_gtids items) tracks.1 o
      ∙ ap (λ (gs : List MariaGtid). last_of gs o) (append_assoc old.tracking.gtids.maria (item_gtids item) (maria_gtids items));
  written = Appends-trans old.tracking.written mid.tracking.written new.tracking.written _ _ tracks.2 rest.written;
  refusals = rest.refusals ∙ ap (λ (n : ℕ). refused_in items n) refused;
}

more_collected : {W : Type 0} (contents : W → Option (List ℕ)) (maps : TableMaps) (index : ℕ) (items : List (Result EventView Error)) (old new : GtidCollector W)
    → Visits (λ before maps index item after. Collects index item (collected contents before) (collected contents after)) maps index items old new
    → CollectsMore index items (collected contents old) (collected contents new)
more_collected contents maps index [] old new same = subst (λ (c : GtidCollector _). CollectsMore index [] (collected contents old) (collected contents c)) (sym same) (none_more index (collected contents old))
more_collected contents maps index (item ∷ items) old new (mid, visited, rest) =
    one_more index item items (collected contents old) (collected contents mid) (collected contents new) visited (more_collected contents (maps_behind maps item) (index + 1) items mid new rest)

pub all_collected : {W : Type 0} (contents : W → Option (List ℕ)) (maps : TableMaps) (items : List (Result EventView Error)) (old new : GtidCollector W) → old.gtids ≡ log_gtids [] [] → old.refused ≡ 0
    → Visits (λ before maps index item after. Collects index item (collected contents before) (collected contents after)) maps 0 items old new
    → CollectsAll items (collected contents old) (collected contents new)
all_collected contents maps items old new empty none visited =
    let more = more_collected contents maps 0 items old new visited in
    record {
      same = λ pair n.
          more.same pair n ∙ ap (λ gtids. are_added items pair n || is_tracked gtids.mysql pair n) empty ∙ or_false (are_added items pair n);
      last = λ o. more.last o ∙ ap (λ gtids. last_of (gtids.maria ++ maria_gtids items) o) empty;
      written = more.written;
      refusals = more.refusals ∙ ap (λ (n : ℕ). refused_in items n) none;
    }
