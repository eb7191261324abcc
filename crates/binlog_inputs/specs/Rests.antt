-- What is made of the follower of a log that is followed, where more is waited for again and again.
use Rattle.std.specs.Prelude.{◌≡◌, List, [], ◌∷◌}

-- More is waited for once. `rests` says what that makes of a follower and of a visitor.
abbrev pub Rests : {F T : Type 0} → (rests : F → T → F → T → Type 0) → (old new : F) → Type 0
Rests {F} {T} rests old new = (shown : T) × (after : T) × rests old shown new after

-- `goes` holds from each of these to the next one.
abbrev pub AreLinked : {X : Type 0} → (goes : X → X → Type 0) → (old : X) → List X → (new : X) → Type 0
AreLinked goes old [] new = new ≡ old
AreLinked goes old (next ∷ others) new = goes old next × AreLinked goes next others new

-- It does so any number of times, one after another.
abbrev pub GoesAll : {X : Type 0} → (goes : X → X → Type 0) → (old new : X) → Type 0
GoesAll {X} goes old new = (steps : List X) × AreLinked goes old steps new

-- More is waited for any number of times.
abbrev pub HasRested : {F T : Type 0} → (rests : F → T → F → T → Type 0) → (old new : F) → Type 0
HasRested rests = GoesAll (Rests rests)
