-- What is known of texts that are written one behind the other.
use Rattle.std.proofs.Common.{◌≡◌, ℕ, List, [], ◌++◌, Option, Some, None, append_assoc, append-nil, ap, ◌∙◌, sym, Result, Ok, Err, OnOk}
use Rattle.std.specs.Io.KnownBytes.{Appends}

-- What follows from a fact, where that holds if there is no error.
pub on_ok : {T E P Q : Type 0} (result : Result T E) → (P → Q) → OnOk result P → OnOk result Q
on_ok (Ok value) follows fact = follows fact
on_ok (Err error) follows fact = tt

-- Two texts that are appended are one.
pub appends_both : (old mid new : Option (List ℕ)) (a b : List ℕ) → Appends old mid a → Appends mid new b → Appends old new (a ++ b)
appends_both None mid new a b first second = tt
appends_both (Some xs) None new a b first second = elim first [ ]
appends_both (Some xs) (Some ys) None a b first second = elim second [ ]
appends_both (Some xs) (Some ys) (Some zs) a b first second = second ∙ ap (λ (t : List ℕ). t ++ b) first ∙ append_assoc xs a b

-- The text that is appended, in another form.
pub appends_same : (old new : Option (List ℕ)) (text same : List ℕ) → text ≡ same → Appends old new text → Appends old new same
appends_same old new text same equal appended = rw (sym equal) appended

-- Nothing is appended by no write.
pub nothing_appended : (old : Option (List ℕ)) → Appends old old []
nothing_appended None = tt
nothing_appended (Some bytes) = sym (append-nil bytes)
