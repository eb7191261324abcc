-- What a listing of a slice has written so far, and its results.
use Rattle.std.proofs.Common.{◌≡◌, inl, inr, ℕ, ◌+◌, ◌<◌, ◌^◌, Bool, true, false, ◌||◌, List, [], ◌∷◌, ◌++◌, length, map, Option, Some, None, Result, Ok, Err, is_err, refl, sym, ap, subst, ◌∙◌, arith, append_assoc, length-append}
use Rattle.std.proofs.lemmas.List.{map-append}
use Rattle.std.specs.List.{list_any}
use Rattle.std.specs.Iterator.{Yields, YieldsThen}
use Rattle.std.specs.Io.KnownBytes.{Appends}
use Rattle.binlog_ends.specs.Counts.{AppendsFront}
use Rattle.std.proofs.lemmas.List.Folds.{list_any-append}
use Rattle.std.proofs.KnownBytes.{Appends-nil, Appends-trans}
use Rattle.binlog_wire.specs.declared.error.Error.{Error}
use Rattle.binlog_wire.specs.declared.error.Error.TheVariants.{Memory, Writer}
use Rattle.binlog_wire.specs.Errors.{is_environment_error}
use Rattle.binlog_file.specs.Events.{EventView}
use Rattle.binlog_file.specs.EventRefs.{item_view}
use Rattle.binlog_file.specs.Types.{EventRef}
use Rattle.binlog_file.specs.declared.slice.BinlogSlice.{BinlogSlice}
use Rattle.binlog_file.specs.Slices.{SliceGives}
use Rattle.binlog_file.specs.State.{Handles}
use Rattle.binlog_file.proofs.WholeSlices.{all_of_slice, items_and_left, few_so_far}
use Rattle.binlog_visits.specs.Places.{LeavesLooked, AreFirst}
use Rattle.binlog_visits.specs.Lines.{listing, ListsFront, ListsItem}
use Rattle.binlog_visits.specs.SliceLines.{slice_place, ListsSlice}
use Rattle.binlog_visits.proofs.Listed.{listing-more}

-- `line` and `takes` are those of the listing.
module _ (line : ℕ → Result EventView Error → List ℕ) (takes : Result EventView Error → Type 0) where
  -- One more call.
  yields_more : (s : BinlogSlice) (xs : List (Result EventRef Error)) (t : BinlogSlice) (x : Result EventRef Error) (u : BinlogSlice) → Yields SliceGives s xs t → SliceGives t (Some x) u
      → Yields SliceGives s (xs ++ x ∷ []) u
  yields_more s [] t x u given gives = (u, subst (λ (k : BinlogSlice). SliceGives k (Some x) u) (sym given) gives, refl)
  yields_more s (y ∷ xs) t x u given gives = (given.0, given.1, yields_more given.0 xs t x u given.2 gives)

  -- These items are listed.
  pub record AreListed (items : List (Result EventRef Error)) (old new : Option (List ℕ)) (failed : Bool) (index : ℕ) : Type 0 where
    pub written : Appends old new (listing line 0 (map item_view items))
    pub errors : failed ≡ list_any is_err (map item_view items)
    pub count : length items ≡ index

  views-more : (items : List (Result EventRef Error)) (item : Result EventRef Error) → map item_view (items ++ item ∷ []) ≡ map item_view items ++ item_view item ∷ []
  views-more items item = map-append item_view items (item ∷ [])

  length-views : (items : List (Result EventRef Error)) → length (map item_view items) ≡ length items
  length-views [] = refl
  length-views (item ∷ items) = omega (arith, length-views items)

  or_false : (b : Bool) → (b || false) ≡ b
  or_false true = refl
  or_false false = refl

  -- Before the first item.
  pub listed_none : (old : Option (List ℕ)) → AreListed [] old old false 0
  listed_none old = record { written = Appends-nil old; errors = refl; count = refl }

  -- The lines of the items so far, and of one more.
  lines_more : (items : List (Result EventRef Error)) (item : Result EventView Error) (index : ℕ) → length items ≡ index
      → listing line 0 (map item_view items ++ item ∷ []) ≡ listing line 0 (map item_view items) ++ line index item
  lines_more items item index count =
      let at : 0 + length (map item_view items) ≡ index = omega (arith, count, length-views items) in
      listing-more line 0 (map item_view items) item ∙ ap (λ i. listing line 0 (map item_view items) ++ line i item) at

  -- One more item and its line.
  pub listed_more : (items : List (Result EventRef Error)) (item : Result EventRef Error) (old mid new : Option (List ℕ)) (failed is : Bool) (index : ℕ)
      → AreListed items old mid failed index → ListsItem line takes index (Some (item_view item)) mid new (Ok (Some is)) → AreListed (items ++ item ∷ []) old new (failed || is) (index + 1)
  listed_more items item old mid new failed is index so_far lists =
      let views = map item_view items in
      let view = item_view item in
      record {
        written =
            subst (λ (l : List (Result EventView Error)). Appends old new (listing line 0 l)) (sym (views-more items item))
            (subst (Appends old new) (sym (lines_more items view index so_far.count)) (Appends-trans old mid new _ _ so_far.written lists.0));
        errors =
            ap (λ b. b || is) so_far.errors ∙ ap (λ b. list_any is_err views || b) lists.1
            ∙ sym (ap (λ l. list_any is_err l) (views-more items item) ∙ list_any-append is_err views (view ∷ []) ∙ ap (λ b. list_any is_err views || b) (or_false (is_err view)));
        count = omega (arith, so_far.count, length-append items (item ∷ []));
      }

  -- No item is left.
  all_listed : (slice end : BinlogSlice) (items : List (Result EventRef Error)) (old new : Option (List ℕ)) (failed : Bool) (index : ℕ) → slice.is_ended ≡ false
      → YieldsThen SliceGives slice items None end → AreListed items old new failed index → ListsSlice line takes slice old (Ok failed) new
  all_listed slice end items old new failed index goes given listed =
      let whole = all_of_slice slice end items goes given in
      record {
        after = slice_place end end.is_ended;
        lists = (record { items = map item_view items; are = whole.are; written = listed.written; errors = listed.errors }, whole.ends);
      }

  -- The items up to one more are the first ones.
  first_of_slice : (slice then next : BinlogSlice) (items : List (Result EventRef Error)) (item : Result EventRef Error) → slice.is_ended ≡ false → Yields SliceGives slice items then
      → SliceGives then (Some item) next → AreFirst LeavesLooked (slice_place slice false) (map item_view (items ++ item ∷ [])) (slice_place next next.is_ended)
  first_of_slice slice then next items item goes given gives =
      record { known = refl; before = λ more are. items_and_left slice next (items ++ item ∷ []) more goes (yields_more slice items then item next given gives) are }

  -- The writer failed in the line of an item.
  front_listed : (slice then next : BinlogSlice) (items : List (Result EventRef Error)) (item : Result EventRef Error) (old mid new : Option (List ℕ)) (failed : Bool) (index : ℕ)
      → slice.is_ended ≡ false → Yields SliceGives slice items then → SliceGives then (Some item) next → AreListed items old mid failed index → AppendsFront mid new (line index (item_view item))
      → ListsFront Handles LeavesLooked line takes (slice_place slice false) old new
  front_listed slice then next items item old mid new failed index goes given gives listed wrote =
      let views = map item_view items in
      let view = item_view item in
      let at : 0 + length views ≡ index = omega (arith, listed.count, length-views items) in
      let lines : listing line 0 (map item_view (items ++ item ∷ [])) ≡ listing line 0 views ++ line index view =
      ap (listing line 0) (views-more items item) ∙ listing-more line 0 views view ∙ ap (λ (i : ℕ). listing line 0 views ++ line i view) at in
      record {
        items = map item_view (items ++ item ∷ []);
        place = slice_place next next.is_ended;
        first = first_of_slice slice then next items item goes given gives;
        written = record {
          front = listing line 0 views ++ wrote.front;
          cut = wrote.cut;
          whole = lines ∙ ap (λ (l : List ℕ). listing line 0 views ++ l) wrote.whole ∙ sym (append_assoc (listing line 0 views) wrote.front wrote.cut);
          written = Appends-trans old mid new _ _ listed.written wrote.written;
        };
      }

  writer_listed : (slice then next : BinlogSlice) (items : List (Result EventRef Error)) (item : Result EventRef Error) (old mid new : Option (List ℕ)) (failed : Bool) (index : ℕ) (error : Error)
      → slice.is_ended ≡ false → Yields SliceGives slice items then → SliceGives then (Some item) next → AreListed items old mid failed index → error ≡ Writer
      → AppendsFront mid new (line index (item_view item)) → ListsSlice line takes slice old (Err error) new
  writer_listed slice then next items item old mid new failed index error goes given gives listed writer wrote =
      subst (λ (e : Error). ListsSlice line takes slice old (Err e) new) (sym writer)
      (record {
        after = slice_place next next.is_ended;
        lists = front_listed slice then next items item old mid new failed index goes given gives listed wrote;
      })

  -- An allocation failed for the line of the next item.
  memory_listed : (slice then next : BinlogSlice) (items : List (Result EventRef Error)) (item : Result EventRef Error) (old new : Option (List ℕ)) (failed : Bool) (index : ℕ) (error : Error)
      → slice.is_ended ≡ false → Yields SliceGives slice items then → SliceGives then (Some item) next → AreListed items old new failed index → error ≡ Memory
      → takes (item_view item) → ListsSlice line takes slice old (Err error) new
  memory_listed slice then next items item old new failed index error goes given gives listed memory grows =
      let views = map item_view items in
      subst (λ (e : Error). ListsSlice line takes slice old (Err e) new) (sym memory)
      (record {
        after = slice_place next next.is_ended;
        lists = inr (record {
          items = views;
          item = item_view item;
          grows = grows;
          first =
              subst (λ (l : List (Result EventView Error)). AreFirst LeavesLooked (slice_place slice false) l (slice_place next next.is_ended)) (views-more items item)
              (first_of_slice slice then next items item goes given gives);
          written = listed.written;
        });
      })

  outside_item : (old new : BinlogSlice) (item : Result EventRef Error) (error : Error) → SliceGives old (Some item) new → item_view item ≡ Err error → is_environment_error error ≡ true → ⊥
  outside_item old new (Ok event) error gives is outside = cc
  outside_item old new (Err why) error gives is outside =
      let same : why ≡ error = cc in
      let inside : is_environment_error error ≡ false = subst (λ (e : Error). is_environment_error e ≡ false) same gives.inside in cc

  -- The listing ends with the error of an item's line.
  stopped : (slice then next : BinlogSlice) (items : List (Result EventRef Error)) (item : Result EventRef Error) (old mid new : Option (List ℕ)) (failed : Bool) (index : ℕ) (error : Error)
      → slice.is_ended ≡ false → Yields SliceGives slice items then → SliceGives then (Some item) next → AreListed items old mid failed index
      → ListsItem line takes index (Some (item_view item)) mid new (Err error) → ListsSlice line takes slice old (Err error) new
  stopped slice then next items item old mid new failed index error goes given gives listed (inl writer) =
      writer_listed slice then next items item old mid new failed index error goes given gives listed writer.0 writer.2
  stopped slice then next items item old mid new failed index error goes given gives listed (inr (inl memory)) =
      let stands : AreListed items old new failed index = subst (λ (w : Option (List ℕ)). AreListed items old w failed index) (sym memory.2) listed in
      memory_listed slice then next items item old new failed index error goes given gives stands memory.0 memory.3
  stopped slice then next items item old mid new failed index error goes given gives listed (inr (inr outside)) =
      absurd (outside_item then next item error gives outside.0 outside.2)

  -- ---- the loop, whose iterator began as the slice

  goes_on : (slice begun : BinlogSlice) → begun ≡ slice → slice.is_ended ≡ false → begun.is_ended ≡ false
  goes_on slice begun begins goes = ap (λ (s : BinlogSlice). s.is_ended) begins ∙ goes

  pub end_listed : (slice begun then end : BinlogSlice) (items : List (Result EventRef Error)) (old new : Option (List ℕ)) (failed : Bool) (index : ℕ) → begun ≡ slice → slice.is_ended ≡ false
      → Yields SliceGives begun items then → SliceGives then None end → AreListed items old new failed index → ListsSlice line takes slice old (Ok failed) new
  end_listed slice begun then end items old new failed index begins goes given none listed =
      subst (λ (s : BinlogSlice). ListsSlice line takes s old (Ok failed) new) begins
      (all_listed begun end items old new failed index (goes_on slice begun begins goes) (then, given, none) listed)

  pub stop_listed : (slice begun then next : BinlogSlice) (items : List (Result EventRef Error)) (item : Result EventRef Error) (old mid new : Option (List ℕ)) (failed : Bool) (index : ℕ) (error : Error)
      → begun ≡ slice → slice.is_ended ≡ false → Yields SliceGives begun items then → SliceGives then (Some item) next → AreListed items old mid failed index
      → ListsItem line takes index (Some (item_view item)) mid new (Err error) → ListsSlice line takes slice old (Err error) new
  stop_listed slice begun then next items item old mid new failed index error begins goes given gives listed lists =
      subst (λ (s : BinlogSlice). ListsSlice line takes s old (Err error) new) begins
      (stopped begun then next items item old mid new failed index error (goes_on slice begun begins goes) given gives listed lists)

  -- There are fewer items than bytes.
  pub index_fits : (slice begun then : BinlogSlice) (items : List (Result EventRef Error)) (old new : Option (List ℕ)) (failed : Bool) (index : ℕ) → begun ≡ slice → slice.is_ended ≡ false
      → Yields SliceGives begun items then → AreListed items old new failed index → length slice.rest.now < 2 ^ 64 → index + 1 < 2 ^ 64
  index_fits slice begun then items old new failed index begins goes given listed few =
      omega (arith, few_so_far begun then items (goes_on slice begun begins goes) given, ap (λ (s : BinlogSlice). length s.rest.now) begins, listed.count, few)
