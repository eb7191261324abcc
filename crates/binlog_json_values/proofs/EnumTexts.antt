-- The text of an ENUM, by its index.
use Rattle.std.proofs.Common.{◌≡◌, ℕ, zero, suc, ◌-◌, ◌<◌, List, Option, Some, None, sym, ap, ◌∙◌, arith}
use Rattle.std.proofs.lemmas.Option.{slice_get_past, slice_get-get_or, slice_get-map}
use Rattle.std.specs.Borrow.{Bor}
use Rattle.std.specs.Option.{option_copied, option_map}
use Rattle.std.specs.Prelude.{slice_get}
use Rattle.std.specs.Slice.{IsItemAt}
use Rattle.binlog_optional_metadata.specs.Facts.{texts_of}
use Rattle.binlog_json_values.specs.Members.{enum_text}

-- What is at an index, if anything.
item_at : {X : Type 0} (xs : List X) (index : ℕ) (item : Option (Bor X)) → IsItemAt xs index item → option_copied item ≡ slice_get xs index
item_at xs index None is = sym (slice_get_past xs index is.3)
item_at {X} xs index (Some item) is = ap (λ (x : X). Some x) is.1 ∙ sym (slice_get-get_or xs index item.now is.3.0)

-- The members are counted from 1.
pub member_text : (members : List (Bor (List ℕ))) (index : ℕ) (item : Option (Bor (Bor (List ℕ)))) (text : Option (Bor (List ℕ))) → 0 < index → IsItemAt members (index - 1) item
    → text ≡ option_copied item → option_map (λ (t : Bor (List ℕ)). t.now) text ≡ enum_text index (texts_of members)
member_text members zero item text some is copied = absurd (omega (arith, some))
member_text members (suc index) item text some is copied =
    let place : suc index - 1 ≡ index = omega arith in
    let found : option_copied item ≡ slice_get members index = item_at members index item (rw place at is) in
    ap (λ (t : Option (Bor (List ℕ))). option_map (λ (x : Bor (List ℕ)). x.now) t) (copied ∙ found) ∙ sym (slice_get-map (λ (x : Bor (List ℕ)). x.now) members index)
