-- Bits that are written one by one.
use Rattle.std.proofs.Common.{◌≡◌, ℕ, ◌+◌, ◌<◌, List, [], ◌∷◌, ◌++◌, Bool, Some, subst, refl, ap, sym, ◌∙◌, append_assoc, append-nil, add-one}
use Rattle.std.proofs.lemmas.Bool.{lt-ltb}
use Rattle.json.specs.Token.{Token, begin_array, boolean}
use Rattle.binlog_file.specs.Bits.{bit_of, bit_in}
use Rattle.binlog_json_bodies.specs.Bits.{first_bits}

pub no_bits : (old new : List Token) (bytes : List ℕ) → new ≡ old ++ begin_array ∷ [] → new ≡ old ++ begin_array ∷ [] ++ first_bits 0 bytes
unfolding first_bits
no_bits old new bytes e = e ∙ sym (append-nil (old ++ begin_array ∷ []))

pub one_more_bit : (old mid new : List Token) (bytes : List ℕ) (n : ℕ) → mid ≡ old ++ begin_array ∷ [] ++ first_bits n bytes
    → new ≡ mid ++ boolean (bit_of bytes n) ∷ [] → new ≡ old ++ begin_array ∷ [] ++ first_bits (n + 1) bytes
unfolding first_bits
one_more_bit old mid new bytes n so_far e =
    rw add-one (e ∙ ap (λ (t : List Token). t ++ boolean (bit_of bytes n) ∷ []) so_far ∙ append_assoc (old ++ begin_array ∷ []) (first_bits n bytes) (boolean (bit_of bytes n) ∷ []))

-- A bit, and the tokens after it.
pub bit_added : (old mid new : List Token) (bytes : List ℕ) (len n : ℕ) (b : Bool) → mid ≡ old ++ begin_array ∷ [] ++ first_bits n bytes
    → n < len → Some b ≡ bit_in len bytes n → new ≡ mid ++ boolean b ∷ [] → new ≡ old ++ begin_array ∷ [] ++ first_bits (n + 1) bytes
bit_added old mid new bytes len n b so_far below shown e =
    let is : bit_in len bytes n ≡ Some (bit_of bytes n) = rw (lt-ltb n len below) refl in
    let same : b ≡ bit_of bytes n = cc in
    one_more_bit old mid new bytes n so_far (subst (λ (x : Bool). new ≡ mid ++ boolean x ∷ []) same e)
