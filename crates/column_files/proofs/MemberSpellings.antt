-- Lists of members are read as they are spelled.
use Rattle.std.proofs.Common.{◌≡◌, ℕ, List, [], ◌∷◌, ◌++◌, Option, Some, None, inl, inr, refl, sym, ap, ◌∙◌}
use Rattle.std.specs.Prelude.{option_map}
use Rattle.std.proofs.lemmas.Bool.{cases_eq, ne_eqb}
use Rattle.column_files.specs.declared.type_members.Phase.{Phase}
use Rattle.column_files.specs.declared.type_members.Phase.TheVariants.{Next, Inside, Quoted, Escaped, Closed}
use Rattle.column_files.specs.TypeMembers.{spelled, spelling, closing, members_spelling, Left, with_byte, with_member, members_from, members_in}

-- ---- what is spelled is read

with_one : (c : ℕ) (m : List ℕ) (ms : List (List ℕ)) (o : Option Left) → o ≡ Some (m, ms) → option_map (with_byte c) o ≡ Some (c ∷ m, ms)
with_one c m ms o h = ap (option_map (with_byte c)) h

plain : (b : ℕ) (m s : List ℕ) (ms : List (List ℕ)) → (b ≡ 39 → ⊥) → (b ≡ 92 → ⊥) → (b ≡ 0 → ⊥) → (b ≡ 10 → ⊥) → (b ≡ 13 → ⊥) → members_from Inside s ≡ Some (m, ms) → members_from Inside (spelled b ++ s) ≡ Some (b ∷ m, ms)
plain b m s ms quote slash null feed return h =
    simp (ne_eqb b 39 quote, ne_eqb b 92 slash, ne_eqb b 0 null, ne_eqb b 10 feed, ne_eqb b 13 return) (with_one b m ms (members_from Inside s) h)

quote : (m s : List ℕ) (ms : List (List ℕ)) → members_from Inside s ≡ Some (m, ms) → members_from Inside (spelled 39 ++ s) ≡ Some (39 ∷ m, ms)
quote m s ms h = with_one 39 m ms (members_from Inside s) h

slash : (m s : List ℕ) (ms : List (List ℕ)) → members_from Inside s ≡ Some (m, ms) → members_from Inside (spelled 92 ++ s) ≡ Some (92 ∷ m, ms)
slash m s ms h = with_one 92 m ms (members_from Inside s) h

null : (m s : List ℕ) (ms : List (List ℕ)) → members_from Inside s ≡ Some (m, ms) → members_from Inside (spelled 0 ++ s) ≡ Some (0 ∷ m, ms)
null m s ms h = with_one 0 m ms (members_from Inside s) h

feed : (m s : List ℕ) (ms : List (List ℕ)) → members_from Inside s ≡ Some (m, ms) → members_from Inside (spelled 10 ++ s) ≡ Some (10 ∷ m, ms)
feed m s ms h = with_one 10 m ms (members_from Inside s) h

return : (m s : List ℕ) (ms : List (List ℕ)) → members_from Inside s ≡ Some (m, ms) → members_from Inside (spelled 13 ++ s) ≡ Some (13 ∷ m, ms)
return m s ms h = with_one 13 m ms (members_from Inside s) h

byte_back : (b : ℕ) (m s : List ℕ) (ms : List (List ℕ)) → members_from Inside s ≡ Some (m, ms) → members_from Inside (spelled b ++ s) ≡ Some (b ∷ m, ms)
byte_back b m s ms h =
    elim (cases_eq b 39) [
      | inl is ↦ rw is (quote m s ms h)
      | inr not_quote ↦ elim (cases_eq b 92) [
        | inl is ↦ rw is (slash m s ms h)
        | inr not_slash ↦ elim (cases_eq b 0) [
          | inl is ↦ rw is (null m s ms h)
          | inr not_null ↦ elim (cases_eq b 10) [
            | inl is ↦ rw is (feed m s ms h)
            | inr not_feed ↦ elim (cases_eq b 13) [
              | inl is ↦ rw is (return m s ms h)
              | inr not_return ↦ plain b m s ms not_quote not_slash not_null not_feed not_return h
            ]
          ]
        ]
      ]
    ]

member_back : (m s : List ℕ) (ms : List (List ℕ)) → members_from Inside s ≡ Some ([], ms) → members_from Inside (spelling m s) ≡ Some (m, ms)
member_back [] s ms h = h
member_back (b ∷ m) s ms h = byte_back b m (spelling m s) ms (member_back m s ms h)

closing_back : (ms : List (List ℕ)) → members_from Inside (closing ms) ≡ Some ([], ms)
closing_back [] = refl
closing_back (m ∷ ms) = ap (option_map with_member) (member_back m (closing ms) ms (closing_back ms))

pub members_back : (m : List ℕ) (ms : List (List ℕ)) → members_in (members_spelling m ms) ≡ Some (m ∷ ms)
members_back m ms = ap (option_map (λ (left : Left). left.0 ∷ left.1)) (member_back m (closing ms) ms (closing_back ms))

-- ---- what is read is spelled

-- How what is left is spelled, by where it begins.
abbrev IsLeft : Phase → List ℕ → Left → Type 0
IsLeft Next s left = s ≡ 39 ∷ spelling left.0 (closing left.1)
IsLeft Inside s left = s ≡ spelling left.0 (closing left.1)
IsLeft Quoted s left = 39 ∷ s ≡ spelling left.0 (closing left.1)
IsLeft Escaped s left = 92 ∷ s ≡ spelling left.0 (closing left.1)
IsLeft Closed s left = (s ≡ []) × (left ≡ ([], []))

mapped : (f : Left → Left) (o : Option Left) (left : Left) → option_map f o ≡ Some left → (x : Left) × (o ≡ Some x) × (left ≡ f x)
mapped f None left h = absurd cc
mapped f (Some x) left h = (x, refl, cc)

nothing : (left : Left) → None ≡ Some left → ⊥
nothing left h = cc

-- The bytes of a spelled byte, before a rest that is spelled.
one_read : (c : ℕ) (front s : List ℕ) (left : Left) → spelled c ≡ front → ((x : Left) → members_from Inside s ≡ Some x → s ≡ spelling x.0 (closing x.1))
    → option_map (with_byte c) (members_from Inside s) ≡ Some left → front ++ s ≡ spelling left.0 (closing left.1)
one_read c front s left two rest h =
    let found = mapped (with_byte c) (members_from Inside s) left h in
    ap (λ (t : List ℕ). front ++ t) (rest found.0 found.1) ∙ sym (ap (λ (t : List ℕ). t ++ spelling found.0.0 (closing found.0.1)) two)
    ∙ sym (ap (λ (x : Left). spelling x.0 (closing x.1)) found.2)

-- A member ends, before others that are spelled.
end_read : (s : List ℕ) (left : Left) → ((x : Left) → members_from Next s ≡ Some x → s ≡ 39 ∷ spelling x.0 (closing x.1))
    → option_map with_member (members_from Next s) ≡ Some left → 39 ∷ 44 ∷ s ≡ spelling left.0 (closing left.1)
end_read s left rest h =
    let found = mapped with_member (members_from Next s) left h in
    ap (λ (t : List ℕ). 39 ∷ 44 ∷ t) (rest found.0 found.1) ∙ sym (ap (λ (x : Left). spelling x.0 (closing x.1)) found.2)

close_read : (s : List ℕ) (left : Left) → (s ≡ []) × (left ≡ ([], [])) → 39 ∷ 41 ∷ s ≡ spelling left.0 (closing left.1)
close_read s left is = ap (λ (t : List ℕ). 39 ∷ 41 ∷ t) is.0 ∙ sym (ap (λ (x : Left). spelling x.0 (closing x.1)) is.1)

module _ (s : List ℕ) (left : Left) (rest : (p : Phase) (x : Left) → members_from p s ≡ Some x → IsLeft p s x) where
  next_read : (b : ℕ) → members_from Next (b ∷ s) ≡ Some left → IsLeft Next (b ∷ s) left
  next_read b h =
      elim (cases_eq b 39) [
        | inl is ↦ rw is (ap (λ (t : List ℕ). 39 ∷ t) (rest Inside left (rw is at h)))
        | inr quote ↦ absurd (nothing left (simp (ne_eqb b 39 quote) at h))
      ]

  plain_read : (b : ℕ) → (b ≡ 39 → ⊥) → (b ≡ 92 → ⊥) → members_from Inside (b ∷ s) ≡ Some left → b ∷ s ≡ spelling left.0 (closing left.1)
  plain_read b quote slash h =
      elim (cases_eq b 0) [
        | inl is ↦ absurd (nothing left (rw is at h))
        | inr null ↦ elim (cases_eq b 10) [
          | inl is ↦ absurd (nothing left (rw is at h))
          | inr feed ↦ elim (cases_eq b 13) [
            | inl is ↦ absurd (nothing left (rw is at h))
            | inr return ↦
                let here : option_map (with_byte b) (members_from Inside s) ≡ Some left = simp (ne_eqb b 39 quote, ne_eqb b 92 slash, ne_eqb b 0 null, ne_eqb b 10 feed, ne_eqb b 13 return) at h in
                let one : spelled b ≡ b ∷ [] = simp (ne_eqb b 39 quote, ne_eqb b 92 slash, ne_eqb b 0 null, ne_eqb b 10 feed, ne_eqb b 13 return) refl in
                one_read b (b ∷ []) s left one (rest Inside) here
          ]
        ]
      ]

  inside_read : (b : ℕ) → members_from Inside (b ∷ s) ≡ Some left → IsLeft Inside (b ∷ s) left
  inside_read b h =
      elim (cases_eq b 39) [
        | inl is ↦ rw is (rest Quoted left (rw is at h))
        | inr quote ↦ elim (cases_eq b 92) [
          | inl is ↦ rw is (rest Escaped left (rw is at h))
          | inr slash ↦ plain_read b quote slash h
        ]
      ]

  quoted_read : (b : ℕ) → members_from Quoted (b ∷ s) ≡ Some left → IsLeft Quoted (b ∷ s) left
  quoted_read b h =
      elim (cases_eq b 39) [
        | inl is ↦ rw is (one_read 39 (39 ∷ 39 ∷ []) s left refl (rest Inside) (rw is at h))
        | inr quote ↦ elim (cases_eq b 44) [
          | inl is ↦ rw is (end_read s left (rest Next) (rw is at h))
          | inr comma ↦ elim (cases_eq b 41) [
            | inl is ↦ rw is (close_read s left (rest Closed left (rw is at h)))
            | inr end ↦ absurd (nothing left (simp (ne_eqb b 39 quote, ne_eqb b 44 comma, ne_eqb b 41 end) at h))
          ]
        ]
      ]

  escaped_read : (b : ℕ) → members_from Escaped (b ∷ s) ≡ Some left → IsLeft Escaped (b ∷ s) left
  escaped_read b h =
      elim (cases_eq b 48) [
        | inl is ↦ rw is (one_read 0 (92 ∷ 48 ∷ []) s left refl (rest Inside) (rw is at h))
        | inr null ↦ elim (cases_eq b 110) [
          | inl is ↦ rw is (one_read 10 (92 ∷ 110 ∷ []) s left refl (rest Inside) (rw is at h))
          | inr feed ↦ elim (cases_eq b 114) [
            | inl is ↦ rw is (one_read 13 (92 ∷ 114 ∷ []) s left refl (rest Inside) (rw is at h))
            | inr return ↦ elim (cases_eq b 92) [
              | inl is ↦ rw is (one_read 92 (92 ∷ 92 ∷ []) s left refl (rest Inside) (rw is at h))
              | inr slash ↦ absurd (nothing left (simp (ne_eqb b 48 null, ne_eqb b 110 feed, ne_eqb b 114 return, ne_eqb b 92 slash) at h))
            ]
          ]
        ]
      ]

left_spelled : (s : List ℕ) (p : Phase) (left : Left) → members_from p s ≡ Some left → IsLeft p s left
left_spelled [] Next left h = absurd (nothing left h)
left_spelled [] Inside left h = absurd (nothing left h)
left_spelled [] Quoted left h = absurd (nothing left h)
left_spelled [] Escaped left h = absurd (nothing left h)
left_spelled [] Closed left h = (refl, cc)
left_spelled (b ∷ s) Next left h = next_read s left (left_spelled s) b h
left_spelled (b ∷ s) Inside left h = inside_read s left (left_spelled s) b h
left_spelled (b ∷ s) Quoted left h = quoted_read s left (left_spelled s) b h
left_spelled (b ∷ s) Escaped left h = escaped_read s left (left_spelled s) b h
left_spelled (b ∷ s) Closed left h = absurd (nothing left h)

found_spelled : (s : List ℕ) (o : Option Left) (ms : List (List ℕ)) → members_from Next s ≡ o → option_map (λ (left : Left). left.0 ∷ left.1) o ≡ Some ms
    → (left : Left) × (ms ≡ left.0 ∷ left.1) × (s ≡ members_spelling left.0 left.1)
found_spelled s None ms is h = absurd cc
found_spelled s (Some left) ms is h = (left, cc, left_spelled s Next left is)

pub are_spelled : (s : List ℕ) (ms : List (List ℕ)) → members_in s ≡ Some ms → (left : Left) × (ms ≡ left.0 ∷ left.1) × (s ≡ members_spelling left.0 left.1)
are_spelled s ms h = found_spelled s (members_from Next s) ms refl h
