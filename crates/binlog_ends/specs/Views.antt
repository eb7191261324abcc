-- The models of this crate's types, as contracts see them.
use Rattle.std.specs.Prelude.{ℕ, Option}
use Rattle.std.specs.declared.io.ErrorKind.{ErrorKind}

-- A reader or a writer, the number of its failures, and the kind of the last one.
pub record CountedView (T : Type 0) : Type 0 where
  pub inner : T
  pub failures : ℕ
  pub last_failure : Option ErrorKind

-- What is said of the reader or the writer, as said of the counted one.
abbrev pub of_inner : {T A : Type 0} → (T → A) → CountedView T → A
of_inner says counted = says counted.inner
