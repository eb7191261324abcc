-- An optional tag, encoded as a text that may be empty.
use Rattle.std.proofs.Common.{ℕ, cond, Option, None, Some, List, [], ◌∷◌, Result, Ok, Err, ◌≡◌, true}
use Rattle.binlog_wire.specs.declared.error.Invalid.{Invalid}
use Rattle.binlog_wire.specs.declared.error.Invalid.TheVariants as kinds
use Rattle.binlog_variable_fields.specs.Tags.{is_tag}

-- ---- an optional tag, as a text that may be empty

-- The tag that a text encodes: none for the empty text; any other text must be a valid tag.
abbrev pub tag_of : List ℕ → Result (Option (List ℕ)) Invalid
tag_of [] = Ok None
tag_of (b ∷ s) = cond (is_tag (b ∷ s)) (Ok (Some (b ∷ s))) (Err kinds.Tag)

-- The text of an optional tag; empty for none.
abbrev pub tag_text : Option (List ℕ) → List ℕ
tag_text None = []
tag_text (Some t) = t

-- A tag, if any, is valid.
abbrev pub FitsTag : Option (List ℕ) → Type 0
FitsTag None = Unit {0}
FitsTag (Some t) = is_tag t ≡ true
