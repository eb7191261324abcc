-- What the object owns that a C program holds between calls.
use mathlib.Core.Bool.{Bool, true, false}
use base.Fml.{Fml, ftrue, fex}
use denote.RattleType.{RattleType}
use denote.RawPtr.{Ptr}
use Rattle.std.specs.declared.alloc.Global.{Global}
use Rattle.std.specs.contracts.impls.GlobalAllocator.TheImpl.{ghosts}
use Rattle.std.specs.Box.Ownership.{box_owns}

-- A value of this type lies at a pointer, with the right to free its block.
abbrev pub boxed_at : RattleType → Ptr → Fml
boxed_at R at = fex Global (λ heap. fex R.Denot (λ value. box_owns (ghosts.dealloc_token heap) R at value))

-- The same if something is kept; otherwise nothing is owned, and the pointer is any.
abbrev pub boxed_if : RattleType → Bool → Ptr → Fml
boxed_if R true at = boxed_at R at
boxed_if R false at = ftrue
