-- Bytes appended one piece after the other.
use Rattle.std.proofs.Common.{◌≡◌, ℕ, List, ◌++◌, ap, ◌∙◌, append_assoc, arith}
use Rattle.std.specs.Global.{Vec}
use Rattle.std.proofs.lemmas.List.{length-append}
use Rattle.binlog_wire.specs.Putting.{Puts}

-- two pieces
pub two_pieces : (old a b x y : List ℕ) → x ≡ old ++ a → y ≡ x ++ b → y ≡ old ++ (a ++ b)
two_pieces old a b x y p q = q ∙ ap (λ (t : List ℕ). t ++ b) p ∙ append_assoc old a b

-- three pieces
pub three_pieces : (old a b c x y z : List ℕ) → x ≡ old ++ a → y ≡ x ++ b → z ≡ y ++ c → z ≡ old ++ (a ++ (b ++ c))
three_pieces old a b c x y z p q r = two_pieces (old ++ a) b c y z (q ∙ ap (λ (t : List ℕ). t ++ b) p) r ∙ append_assoc old a (b ++ c)

-- five pieces
pub five_pieces : (old a b c d e v w x y z : List ℕ) → v ≡ old ++ a → w ≡ v ++ b → x ≡ w ++ c → y ≡ x ++ d → z ≡ y ++ e → z ≡ old ++ (a ++ (b ++ (c ++ (d ++ e))))
five_pieces old a b c d e v w x y z p q r s t =
    three_pieces w c d e x y z r s t ∙ ap (λ (u : List ℕ). u ++ (c ++ (d ++ e))) q
    ∙ two_pieces old a (b ++ (c ++ (d ++ e))) v ((v ++ b) ++ (c ++ (d ++ e))) p (append_assoc v b (c ++ (d ++ e)))

-- two pieces, as one record
pub puts_then : (old mid new : Vec ℕ) (a b : List ℕ) → Puts old mid a → Puts mid new b → Puts old new (a ++ b)
puts_then old mid new a b first second = record {
  items = two_pieces old.items a b mid.items new.items first.items second.items;
  len = omega (arith, length-append a b, first.len, second.len);
  capacity = omega (arith, first.capacity, second.capacity);
}
