-- Which server wrote a log, by the server version of its description.
-- Source: MariaDB's server recognises its own logs by these parts of the version (`master_version_split` in `log_event.cc`).
use Rattle.std.proofs.Common.{◌≡◌, ◌↔◌, ◌⊎◌, ℕ, true, List, Option, None, Some, refl, arith}
use Rattle.std.specs.Prelude.{Bool, not, ◌==◌, codes, is_some}
use Rattle.std.specs.List.{take_while}
use Rattle.memchr.specs.Find.{OccursAt, FindsNeedle}

-- The byte isn't zero.
abbrev pub is_text_byte : ℕ → Bool
is_text_byte b = not (b == 0)

-- The text of a version: the bytes before the first zero.
abbrev pub version_text : List ℕ → List ℕ
version_text version = take_while is_text_byte version

-- The part is in the text, at any index.
abbrev pub Contains : List ℕ → List ℕ → Type 0
Contains text part = (k : ℕ) × OccursAt text part k

-- The version is MariaDB's.
abbrev pub IsMariaVersion : List ℕ → Type 0
IsMariaVersion version = Contains (version_text version) (codes "MariaDB") ⊎ Contains (version_text version) (codes "-maria-")

-- A search finds an index exactly if there is one.
pub found_is : (hay needle : List ℕ) (r : Option ℕ) → FindsNeedle hay needle 0 r → (is_some r ≡ true) ↔ Contains hay needle
found_is hay needle None h = (λ e. absurd cc, λ x. absurd (h x.0 (omega arith) (omega (arith, x.1.fits)) x.1))
found_is hay needle (Some k) h = (λ e. (k, h.1), λ x. refl)
