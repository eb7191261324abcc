-- Any number of steps, one after another.
use Rattle.std.proofs.Common.{◌≡◌, List, [], ◌∷◌, ◌++◌, refl, sym, subst}
use Rattle.binlog_inputs.specs.Rests.{Rests, AreLinked, GoesAll}

module _ {X : Type 0} (goes : X → X → Type 0) where
  pub goes_not : (old new : X) → new ≡ old → GoesAll goes old new
  goes_not old new same = ([], same)

  pub goes_once : (old new : X) → goes old new → GoesAll goes old new
  goes_once old new once = (new ∷ [], (once, refl))

  linked_then : (old mid new : X) (first others : List X) → AreLinked goes old first mid → AreLinked goes mid others new → AreLinked goes old (first ++ others) new
  linked_then old mid new [] others are more = subst (λ (x : X). AreLinked goes x others new) are more
  linked_then old mid new (next ∷ first) others are more = (are.0, linked_then next mid new first others are.1 more)

  pub goes_then : (old mid new : X) → GoesAll goes old mid → GoesAll goes mid new → GoesAll goes old new
  goes_then old mid new first others = (first.0 ++ others.0, linked_then old mid new first.0 others.0 first.1 others.1)

-- More was waited for once.
pub one_rest : {F T : Type 0} (rests : F → T → F → T → Type 0) (old : F) (shown : T) (new : F) (after : T) → rests old shown new after → Rests rests old new
one_rest rests old shown new after once = (shown, after, once)
