-- Bits as arrays of booleans.
use Rattle.std.specs.Prelude.{ℕ, zero, suc, List, [], ◌∷◌, ◌++◌}
use Rattle.json.specs.Token.{Token, begin_array, end_array, boolean}
use Rattle.binlog_file.specs.Bits.{bit_of}

-- The first n bits as booleans.
unfoldable pub first_bits : ℕ → List ℕ → List Token
first_bits zero bytes = []
first_bits (suc n) bytes = first_bits n bytes ++ boolean (bit_of bytes n) ∷ []

-- An array of booleans, one for each bit.
unfoldable pub bits_value : ℕ × List ℕ → List Token
bits_value bits = begin_array ∷ [] ++ first_bits bits.0 bits.1 ++ end_array ∷ []
