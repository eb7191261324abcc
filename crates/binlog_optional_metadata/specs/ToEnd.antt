-- Values in sequence up to the end of the bytes.
use Rattle.std.proofs.Common.{◌≡◌, ◌≤◌, ℕ, Bool, true, false, List, [], ◌∷◌, refl, arith}
use Rattle.binlog_wire.specs.Fields.{IsBytes}
use Rattle.binlog_wire.specs.Formats.{Format, anywhere, last}
use Rattle.binlog_variable_fields.specs.Formats.{until}
use Rattle.binlog_variable_fields.specs.Within.{IsEnd}

-- No bytes are left.
abbrev pub IsNil : List ℕ → Type 0
IsNil s = s ≡ []

abbrev pub is_nil : List ℕ → Bool
is_nil [] = true
is_nil (byte ∷ s) = false

nil_holds : (s : List ℕ) → IsNil s → is_nil s ≡ true
nil_holds s none = rw none refl

nil_only : (s : List ℕ) → IsBytes s → is_nil s ≡ true → IsNil s
nil_only [] fits h = refl
nil_only (byte ∷ s) fits h = absurd cc

no_value : {V : Type 0} (f : Format anywhere V) → 1 ≤ f.least → (s : List ℕ) (v : V) (r : List ℕ) → f.spells s v r → is_nil s ≡ false
no_value f moves [] v r h = absurd (omega (arith, f.long [] v r h, moves))
no_value f moves (byte ∷ s) v r h = refl

-- The end of the bytes is an end of values that take a byte at least.
pub nil_is_end : {V : Type 0} (f : Format anywhere V) → 1 ≤ f.least → IsEnd f IsNil is_nil
nil_is_end f moves = record {
  nothing = refl;
  holds = nil_holds;
  only = nil_only;
  no_value = no_value f moves;
  moves = moves;
}

-- Values up to the end of the bytes.
abbrev pub to_end : {V : Type 0} (f : Format anywhere V) → 1 ≤ f.least → Format last (List V)
to_end f moves = until f IsNil is_nil (nil_is_end f moves)
