-- The first row of bytes.
use Rattle.std.proofs.Common.{◌≡◌, ℕ, ◌<◌, ◌≤◌, true, false, List, length, Option, Result, Ok, Err, refl, arith}
use Rattle.std.specs.Prelude.{nat_lt}
use Rattle.binlog_images.specs.Cells.{Cell, RowsShape, RowCells}
use Rattle.binlog_images.specs.Splits.{after_at, row_at, left_over, first_row}
use Rattle.binlog_images.specs.Answers.{Takes}
use Rattle.binlog_images.specs.Images.{image_if_at, partial_if_at}
use Rattle.binlog_images.specs.declared.rows_error.ImageKind.TheVariants.{After}
use Rattle.binlog_images.specs.declared.rows_error.RowsError.{RowsError}

pub row_taken : (index : ℕ) (shape : RowsShape) (s rest : List ℕ) (cells : RowCells) → row_at index shape s ≡ Ok (cells, rest) → length rest < length s
    → first_row index shape s ≡ Ok (cells, rest)
row_taken index shape s rest cells read less =
    let is : nat_lt (length rest) (length s) ≡ true = grind arith in
    rw (read, is) refl

pub row_left_over : (index : ℕ) (shape : RowsShape) (s rest : List ℕ) (cells : RowCells) → row_at index shape s ≡ Ok (cells, rest) → length s ≤ length rest
    → first_row index shape s ≡ Err (left_over index)
row_left_over index shape s rest cells read most =
    let is : nat_lt (length rest) (length s) ≡ false = grind arith in
    rw (read, is) refl

pub row_refused : (index : ℕ) (shape : RowsShape) (s : List ℕ) (e : RowsError) → row_at index shape s ≡ Err e → first_row index shape s ≡ Err e
row_refused index shape s e read = rw read refl

-- ---- the image after

pub whole_after : (index : ℕ) (shape : RowsShape) (s rest : List ℕ) (answer : Result (Option (List Cell)) RowsError) → shape.is_partial ≡ false
    → Takes rest answer (image_if_at index After shape.images.1 s) → Takes rest answer (after_at index shape s)
whole_after index shape s rest answer same h = rw same h

pub partial_after : (index : ℕ) (shape : RowsShape) (s rest : List ℕ) (answer : Result (Option (List Cell)) RowsError) → shape.is_partial ≡ true
    → Takes rest answer (partial_if_at index After shape.images.1 s) → Takes rest answer (after_at index shape s)
partial_after index shape s rest answer same h = rw same h
