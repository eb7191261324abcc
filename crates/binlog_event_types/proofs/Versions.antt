-- Whether a server version is MariaDB's.
use Rattle.std.proofs.Common.{◌≡◌, ◌↔◌, ◌⊎◌, inl, inr, ℕ, ◌<◌, ◌≤◌, Bool, true, false, ◌||◌, List, length, refl, arith}
use Rattle.std.specs.Prelude.{codes}
use Rattle.std.proofs.lemmas.Bool.Decides.{Decides-below_or, same_from_decides}
use Rattle.memchr.specs.Find.{OccursAt, occurs_at}
use Rattle.memchr.proofs.lemmas.MatchLemmas.{occurs_at-true, OccursAt-true}
use Rattle.binlog_mariadb.specs.Flavour.{version_text, Contains, IsMariaVersion}
use Rattle.binlog_event_types.specs.MariaVersions.{occurs_below, is_in, is_maria}

occurs_decides : (text part : List ℕ) (n : ℕ) → record { yes : occurs_below text part n ≡ true → (k : ℕ) × (k < n) × OccursAt text part k; no : (k : ℕ) × (k < n) × OccursAt text part k → occurs_below text part n ≡ true }
occurs_decides text part n =
    let both = Decides-below_or (λ k. occurs_at text part k) (λ k. OccursAt text part k) (λ m. occurs_below text part m)
    (λ k. (OccursAt-true text part k, occurs_at-true text part k)) refl (λ _. refl) n in
    record { yes = both.0; no = both.1 }

contained : (text part : List ℕ) → is_in text part ≡ true → Contains text part
contained text part told = let found = (occurs_decides text part (length text)).yes told in (found.0, found.2)

found_in : (text part : List ℕ) → 1 ≤ length part → Contains text part → is_in text part ≡ true
found_in text part some found = (occurs_decides text part (length text)).no (found.0, omega (arith, found.1.fits, some), found.1)

either : (b c : Bool) → (b || c) ≡ true → (b ≡ true) ⊎ (c ≡ true)
either true c e = inl refl
either false c e = inr e

first_or : (b c : Bool) → b ≡ true → (b || c) ≡ true
first_or true c e = refl
first_or false c e = absurd cc

second_or : (b c : Bool) → c ≡ true → (b || c) ≡ true
second_or true c e = refl
second_or false c e = e

of_both : (text first second : List ℕ) → (is_in text first ≡ true) ⊎ (is_in text second ≡ true) → Contains text first ⊎ Contains text second
of_both text first second (inl told) = inl (contained text first told)
of_both text first second (inr told) = inr (contained text second told)

to_both : (text first second : List ℕ) → 1 ≤ length first → 1 ≤ length second → Contains text first ⊎ Contains text second → (is_in text first || is_in text second) ≡ true
to_both text first second some more (inl found) = first_or _ _ (found_in text first some found)
to_both text first second some more (inr found) = second_or _ _ (found_in text second more found)

-- What a test tells that is true exactly for MariaDB's versions.
pub is_maria_from : (version : List ℕ) (r : Bool) → (r ≡ true) ↔ IsMariaVersion version → r ≡ is_maria version
unfolding is_maria
is_maria_from version r is =
    let text = version_text version in
    same_from_decides {P = IsMariaVersion version} r (is_in text (codes "MariaDB") || is_in text (codes "-maria-")) (is.0, is.1) (
      λ told. of_both text (codes "MariaDB") (codes "-maria-") (either _ _ told),
      λ found. to_both text (codes "MariaDB") (codes "-maria-") (omega arith) (omega arith) found,
    )
