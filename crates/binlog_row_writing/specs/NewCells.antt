-- The columns of an image, and the values for them: None for a column that is absent.
use Rattle.std.specs.Prelude.{ℕ, Bool, true, false, List, [], Option, None, Some, Ok, Err, if◌then◌else◌}
use Rattle.binlog_columns.specs.Metadata.{Typed}
use Rattle.binlog_columns.specs.Layouts.{layout_of}
use Rattle.binlog_columns.specs.declared.layout.Layout.{Layout}
use Rattle.binlog_values.specs.Contents.{content_in}
use Rattle.binlog_row_writing.specs.NewContents.{Contained, content_for}
use Rattle.binlog_row_writing.specs.declared.new_value.NewValue.{NewValue}
use Rattle.binlog_row_writing.specs.declared.new_value.NewValue.TheVariants.{Null}
use Rattle.binlog_row_writing.specs.declared.row_write_error.RowWriteErrorKind.{RowWriteErrorKind}

abbrev pub is_new_null : NewValue → Bool
is_new_null Null = true
is_new_null _ = false

-- Why there is no content.
abbrev pub refusal_in : Contained → Option RowWriteErrorKind
refusal_in (Ok c) = None
refusal_in (Err e) = Some e

-- NULL is never refused.
abbrev pub cell_refusal : Typed → Option NewValue → Option RowWriteErrorKind
cell_refusal column None = None
cell_refusal column (Some value) = if is_new_null value then None else refusal_in (content_for column value)

-- The encoding of a content, if there is one.
abbrev pub contained_bytes : Layout → Contained → List ℕ
contained_bytes layout (Ok c) = (content_in layout).written c
contained_bytes layout (Err e) = []

-- A column that is absent or NULL has no bytes.
abbrev pub cell_bytes : Typed → Option NewValue → List ℕ
cell_bytes column None = []
cell_bytes column (Some value) = if is_new_null value then [] else contained_bytes (layout_of column) (content_for column value)
