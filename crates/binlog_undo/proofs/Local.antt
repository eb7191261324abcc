-- What is encoded by a front of some bytes is encoded by it whatever follows.
use Rattle.std.proofs.Common.{◌≡◌, ℕ, Bool, true, false, List, [], ◌∷◌, ◌++◌, Option, None, Some, Result, refl, sym, ◌∙◌, ap, subst, append_assoc}
use Rattle.binlog_wire.specs.declared.error.Invalid.{Invalid}
use Rattle.binlog_wire.specs.Fields.{IsNumber, IsAllowed, IsBlock, Then, IsMade, IsSilent}
use Rattle.binlog_variable_fields.specs.Chosen.{IsChosen}
use Rattle.byteorder.specs.Endian.{little_bytes, big_bytes}
use Rattle.binlog_columns.specs.Metadata.{Typed}
use Rattle.binlog_columns.specs.Layouts.{layout_of}
use Rattle.binlog_columns.specs.declared.layout.Layout.{Layout}
use Rattle.binlog_columns.specs.declared.layout.Layout.TheVariants.{Nothing, Number, Bits, Timestamp2, DateTime2, Time2, Decimal, Counted, Vector}
use Rattle.binlog_values.specs.BigNumbers.{IsBig}
use Rattle.binlog_values.specs.Contents.{content_in}
use Rattle.binlog_rows.specs.Columns.{bitmap}
use Rattle.binlog_images.specs.Bits as columns
use Rattle.binlog_images.specs.Cells.{cell_in, cells, ImageShape, image, image_if}

-- Such an encoding.
abbrev pub Local : {V : Type 0} → (List ℕ → V → List ℕ → Type 0) → Type 0
Local {V} F = (s : List ℕ) (v : V) (r : List ℕ) → F s v r → (w : List ℕ) × (s ≡ w ++ r) × ((y : List ℕ) → F (w ++ y) v y)

local_number : (k : ℕ) → Local (IsNumber k)
local_number k s n r h = (little_bytes k n, h.1, λ y. (h.0, refl))

local_allowed : (k : ℕ) (test : ℕ → Bool) → Local (IsAllowed k test)
local_allowed k test s n r h = (little_bytes k n, h.0.1, λ y. ((h.0.0, refl), h.1))

local_big : (k : ℕ) → Local (IsBig k)
local_big k s n r h = (big_bytes k n, h.1, λ y. (h.0, refl))

local_block : (k : ℕ) → Local (IsBlock k)
local_block k s v r h = (v, h.1, λ y. (h.0, refl))

local_silent : {V : Type 0} (x : V) → Local (IsSilent x)
local_silent x s v r h = ([], sym h.1, λ y. (h.0, refl))

local_made : {A B : Type 0} (to : A → B) (F : List ℕ → A → List ℕ → Type 0) → Local F → Local (IsMade to F)
local_made to F f s b r h = let p = f s h.0 r h.2 in (p.0, p.1, λ y. (h.0, h.1, p.2 y))

local_chosen : {A B : Type 0} (decode : A → Result B Invalid) (F : List ℕ → A → List ℕ → Type 0) → Local F → Local (IsChosen decode F)
local_chosen decode F f s b r h = let p = f s h.0 r h.2 in (p.0, p.1, λ y. (h.0, h.1, p.2 y))

local_then : {A B : Type 0} (F : List ℕ → A → List ℕ → Type 0) (G : A → List ℕ → B → List ℕ → Type 0) → Local F → ((a : A) → Local (G a)) → Local (Then F G)
local_then F G f g s x r h =
    let p = f s x.0 h.0 h.1 in
    let q = g x.0 h.0 x.1 r h.2 in (
      p.0 ++ q.0,
      p.1 ∙ ap (λ (t : List ℕ). p.0 ++ t) q.1 ∙ sym (append_assoc p.0 q.0 r),
      λ y. (q.0 ++ y, subst (λ (t : List ℕ). F t x.0 (q.0 ++ y)) (sym (append_assoc p.0 q.0 y)) (p.2 (q.0 ++ y)), q.2 y),
    )

-- A number of some bytes, most significant byte first, that passes a test.
local_tested : (k : ℕ) (decode : ℕ → Result ℕ Invalid) → Local (IsChosen decode (IsBig k))
local_tested k decode = local_chosen decode (IsBig k) (local_big k)

local_counted : (k : ℕ) (test : ℕ → Bool) → Local (Then (IsAllowed k test) (λ n. IsBlock n))
local_counted k test = local_then (IsAllowed k test) (λ n. IsBlock n) (local_allowed k test) local_block

local_content : (layout : Layout) → Local (content_in layout).spells
local_content Nothing s v r h = local_silent _ s v r h
local_content (Number len) s v r h = local_made _ (IsNumber len) (local_number len) s v r h
local_content (Bits count) s v r h = local_made _ _ (local_tested _ _) s v r h
local_content (Timestamp2 digits) s v r h = local_made _ _ (local_tested _ _) s v r h
local_content (DateTime2 digits) s v r h = local_made _ _ (local_tested _ _) s v r h
local_content (Time2 digits) s v r h = local_made _ _ (local_tested _ _) s v r h
local_content (Decimal precision scale) s v r h = local_made _ _ (local_chosen _ (IsBlock _) (local_block _)) s v r h
local_content (Counted prefix max) s v r h = local_made _ _ (local_made _ _ (local_counted prefix _)) s v r h
local_content (Vector prefix) s v r h = local_made _ _ (local_made _ _ (local_counted prefix _)) s v r h

pub local_cell : (column : Typed) (is_present is_null : Bool) → Local (cell_in column is_present is_null).spells
local_cell column false is_null = local_silent _
local_cell column true true = local_silent _
local_cell column true false = local_made _ (content_in (layout_of column)).spells (local_content (layout_of column))

local_cells : (table : List Typed) (bits : columns.Bits) → Local (cells table bits).spells
local_cells [] bits = local_silent _
local_cells (column ∷ table) bits =
    let first = cell_in column (columns.is_present bits) (columns.is_null bits) in
    let others = cells table (columns.next_bits bits) in
    local_made _ (Then first.spells (λ _. others.spells)) (local_then first.spells (λ _. others.spells) (local_cell column (columns.is_present bits) (columns.is_null bits)) (λ _. local_cells table (columns.next_bits bits)))

local_bitmap : (len : ℕ) → Local (bitmap len).spells
local_bitmap len = local_made _ _ (local_block _)

local_image : (shape : ImageShape) → Local (image shape).spells
local_image shape = local_then _ _ (local_bitmap _) (λ nulls. local_cells shape.0 (columns.first_bits shape.1 nulls))

pub local_image_if : (shape : Option ImageShape) → Local (image_if shape).spells
local_image_if None = local_silent _
local_image_if (Some shape) = local_made _ (image shape).spells (local_image shape)
