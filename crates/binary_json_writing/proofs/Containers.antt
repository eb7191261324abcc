-- An array or an object is written part by part.
use Rattle.std.proofs.Common.{◌≡◌, ℕ, ◌+◌, List, ◌++◌, length, append_assoc}
use Rattle.byteorder.specs.Endian.{little_bytes}
use Rattle.binary_json.specs.Layout.{width}
use Rattle.binary_json_writing.specs.Written.{Item, size, key_entries, value_entries, keys, all_placed, keys_offset, container}

pub in_parts : (t : ℕ) (xs : List Item) (old a b c d e new : List ℕ) (at values n : ℕ) → n ≡ size t xs → at ≡ keys_offset t xs → values ≡ at + length (keys xs)
    → a ≡ old ++ little_bytes (width t) (length xs) → b ≡ a ++ little_bytes (width t) n → c ≡ b ++ key_entries t at xs → d ≡ c ++ value_entries t values xs → e ≡ d ++ keys xs → new ≡ e ++ all_placed t xs
    → new ≡ old ++ container t xs
unfolding container
in_parts t xs old a b c d e new at values n size_is at_is values_is pa pb pc pd pe pn = rw (pn, pe, pd, pc, pb, pa, values_is, at_is, size_is) (simp append_assoc)
