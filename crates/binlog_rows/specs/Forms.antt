-- What the form of row events determines besides their bytes.
-- Source: MySQL's documentation of its source code, `mysql::binlog::event::Rows_event`.
use Rattle.std.specs.Prelude.{ℕ, if◌then◌else◌}
use Rattle.binlog_rows.specs.declared.rows_form.RowsForm.{RowsForm}

-- The length of the post-header if a description states none.
abbrev pub default_length : RowsForm → ℕ
default_length form = if form.has_extra then 10 else 8
