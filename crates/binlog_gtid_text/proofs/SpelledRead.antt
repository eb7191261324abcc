-- What is spelled is read.
use Rattle.std.proofs.Common.{◌≡◌, ℕ, ◌+◌, ◌<◌, Bool, true, false, cond, eqb, ◌&&◌, inl, inr, List, [], ◌∷◌, ◌++◌, length, take, drop, get_or, Option, Some, None, Result, Ok, Err, refl, sym, ap, subst, ◌∙◌, append_assoc, append-nil, arith}
use Rattle.std.specs.Char.{is_ascii_digit}
use Rattle.std.specs.List.{prefix_len, list_all, AllByRecursion}
use Rattle.std.proofs.lemmas.Bool.Decides.{nat_tests}
use Rattle.std.proofs.lemmas.List.{take_at, drop_at}
use Rattle.uuid.specs.Text.{parsed_hyphenated, parsed_simple, has_hyphens, digits_of, is_hex_digit, hyphen_place, by_index, byte_of_digits}
use Rattle.uuid.proofs.TextLemmas.{by_index_length, by_index_at}
use Rattle.binlog_variable_fields.specs.Tags.{is_later, is_tag}
use Rattle.binlog_variable_fields.specs.declared.gno_interval.GnoInterval.{GnoInterval}
use Rattle.binlog_gtid_text.specs.declared.error.Fault.{Fault}
use Rattle.binlog_gtid_text.specs.declared.error.GtidTextFault.TheVariants as faults
use Rattle.binlog_gtid_text.specs.declared.piece.Piece.{Piece}
use Rattle.binlog_gtid_text.specs.declared.piece.Piece.TheVariants as pieces
use Rattle.binlog_gtid_text.specs.Faults.{fault}
use Rattle.binlog_gtid_text.specs.Reading.{◌>>=◌, is_space, skip, after, uuid_by, uuid_at, value_in, number_by, number_at, interval_by, interval_at, begins_tag, colon_by, named_at, tag_at, source_at, numbers_at, piece_at}
use Rattle.binlog_gtid_text.specs.Pieces.{ArePieces, IsText}
use Rattle.binlog_gtid_text.specs.Spellings.{AreSpaces, IsUuidText, AreDigitsOf, IsNumberText, IsIntervalText, IsTagText, IsPieceText, ArePieceTexts, IsSpelled}
use Rattle.binlog_gtid_text.proofs.Fronts.{Fails, prefix_over, Ends, ends_digits, ends_spaces, ends_dash, AreDigits, digits_pass, digits_spaces, digits_tag, some_eqb, value_is, tag_begins, tag_spaces, tag_passes, no_tag_read}
use Rattle.binlog_gtid_text.proofs.PrintedPieces.{fails_front}
use Rattle.binlog_gtid_text.proofs.Read.{source_ok}

-- ---- whitespace

all_pass : (p : ℕ → Bool) (a : List ℕ) → AllByRecursion (λ b. p b ≡ true) a → prefix_len p a ≡ length a
all_pass p [] h = refl
all_pass p (b ∷ a) h = let f : p b ≡ true = h.0 in rw f (omega (arith, all_pass p a h.1))

spaces_over : (w t : List ℕ) → AreSpaces w → Fails is_space t → skip (w ++ t) ≡ t
spaces_over w t h f = ap (λ (k : ℕ). drop k (w ++ t)) (prefix_over is_space w t (all_pass is_space w h) f) ∙ drop_at w t (length w) refl

spaces_then : (p : ℕ → Bool) → ((b : ℕ) → is_space b ≡ true → p b ≡ false) → (w t : List ℕ) → AreSpaces w → Fails p t → Fails p (w ++ t)
spaces_then p fails [] t h f = f
spaces_then p fails (b ∷ w) t h f = fails b h.0

space_no_digit : (b : ℕ) → is_space b ≡ true → is_ascii_digit b ≡ false
space_no_digit b h = grind (arith, nat_tests)

space_no_later : (b : ℕ) → is_space b ≡ true → is_later b ≡ false
space_no_later b h = grind (arith, nat_tests)

-- ---- UUIDs

then_by : (a b : Bool) (o : Option (List ℕ)) (x : List ℕ) → cond (a && b) o None ≡ Some x → (a ≡ true) × (b ≡ true) × (o ≡ Some x)
then_by true true o x h = (refl, refl, h)
then_by true false o x h = absurd cc
then_by false b o x h = absurd cc

first_of_all : (p : ℕ → Bool) (xs : List ℕ) → 0 < length xs → list_all p xs ≡ true → p (get_or xs 0 0) ≡ true
first_of_all p [] some h = absurd (omega arith)
first_of_all p (x ∷ xs) some h = first_by (p x) (list_all p xs) h
  where
    first_by : (a b : Bool) → (a && b) ≡ true → a ≡ true
    first_by true b h = refl
    first_by false b h = absurd cc

hex_no_space : (b : ℕ) → is_hex_digit b ≡ true → is_space b ≡ false
hex_no_space b h = grind (arith, nat_tests)

module _ (uuid sid : List ℕ) (is : parsed_hyphenated uuid ≡ Some sid) where
  uuid_long : length uuid ≡ 36
  uuid_long =
      let parts = then_by (eqb (length uuid) 36) (has_hyphens uuid) (parsed_simple (digits_of uuid)) sid is in
      let long = parts.0 in
      grind (arith, nat_tests)

  uuid_hex : is_hex_digit (get_or uuid 0 0) ≡ true
  uuid_hex =
      let parts = then_by (eqb (length uuid) 36) (has_hyphens uuid) (parsed_simple (digits_of uuid)) sid is in
      let hex = digits_of uuid in
      let simple = then_by (eqb (length hex) 32) (list_all is_hex_digit hex) (Some (by_index 16 (byte_of_digits hex))) sid parts.2 in
      let long : length hex ≡ 32 = by_index_length 32 (λ i. get_or uuid (hyphen_place i) 0) in
      ap is_hex_digit (sym (by_index_at 32 (λ i. get_or uuid (hyphen_place i) 0) 0 0 (omega arith))) ∙ first_of_all is_hex_digit hex (omega (arith, long)) simple.1

  uuid_no_space : (rest : List ℕ) → Fails is_space (uuid ++ rest)
  uuid_no_space rest = fails_front is_space uuid rest (omega (arith, uuid_long)) (hex_no_space (get_or uuid 0 0) uuid_hex)

  uuid_before_spaces : (w rest : List ℕ) → AreSpaces w → Fails is_space rest → uuid_at (uuid ++ (w ++ rest)) ≡ Ok (sid, rest)
  unfolding uuid_at
  uuid_before_spaces w rest h f =
      let s = uuid ++ (w ++ rest) in
      ap (λ (t : List ℕ). uuid_by s (parsed_hyphenated t)) (take_at uuid (w ++ rest) 36 uuid_long)
      ∙ ap (uuid_by s) is
      ∙ ap (λ (t : List ℕ). Ok (sid, skip t)) (drop_at uuid (w ++ rest) 36 uuid_long)
      ∙ ap (λ (t : List ℕ). Ok (sid, t)) (spaces_over w rest h f)

-- a text of two parts, and what follows
regroup_two : (a b c rest : List ℕ) → a ≡ b ++ c → a ++ rest ≡ b ++ (c ++ rest)
regroup_two a b c rest is = ap (λ (t : List ℕ). t ++ rest) is ∙ append_assoc b c rest

uuid_front : (a sid rest : List ℕ) → IsUuidText a sid → Fails is_space (a ++ rest)
uuid_front a sid rest is = subst (Fails is_space) (sym (regroup_two a is.0 is.1 rest is.4)) (uuid_no_space is.0 sid is.2 (is.1 ++ rest))

uuid_back : (a sid rest : List ℕ) → IsUuidText a sid → Fails is_space rest → source_at (a ++ rest) ≡ Ok (pieces.Source sid, rest)
uuid_back a sid rest is f = source_ok (a ++ rest) sid rest (ap uuid_at (regroup_two a is.0 is.1 rest is.4) ∙ uuid_before_spaces is.0 sid is.2 is.1 rest is.3 f)

-- ---- numbers

are_digits : (ds : List ℕ) (n : ℕ) → AreDigitsOf ds n → AreDigits ds n
are_digits ds n are = record { some = are.some; all = digits_pass ds are.all; value = are.value }

number_before_spaces : (ds w rest : List ℕ) (n : ℕ) → AreDigitsOf ds n → AreSpaces w → Fails is_ascii_digit rest → Fails is_space rest → number_at (ds ++ (w ++ rest)) ≡ Ok (n, rest)
unfolding number_at
number_before_spaces ds w rest n are h f g =
    let s = ds ++ (w ++ rest) in
    let k = length ds in
    ap (λ (k : ℕ). cond (eqb k 0) (Err (fault faults.Number s)) (number_by s k (value_in (take k s)))) (prefix_over is_ascii_digit ds (w ++ rest) (digits_pass ds are.all) (spaces_then is_ascii_digit space_no_digit w rest h f))
    ∙ ap (λ (b : Bool). cond b (Err (fault faults.Number s)) (number_by s k (value_in (take k s)))) (some_eqb k are.some)
    ∙ ap (λ (t : List ℕ). number_by s k (value_in t)) (take_at ds (w ++ rest) k refl)
    ∙ ap (number_by s k) (value_is ds n are.value are.small)
    ∙ ap (λ (t : List ℕ). Ok (n, skip t)) (drop_at ds (w ++ rest) k refl)
    ∙ ap (λ (t : List ℕ). Ok (n, t)) (spaces_over w rest h g)

module _ (a : List ℕ) (n : ℕ) (is : IsNumberText a n) (rest : List ℕ) where
  number_whole : a ++ rest ≡ is.0 ++ (is.1 ++ rest)
  number_whole = regroup_two a is.0 is.1 rest is.4

  number_back : Fails is_ascii_digit rest → Fails is_space rest → number_at (a ++ rest) ≡ Ok (n, rest)
  number_back f g = ap number_at number_whole ∙ number_before_spaces is.0 is.1 rest n is.2 is.3 f g

  number_front : Fails is_space (a ++ rest)
  number_front = subst (Fails is_space) (sym number_whole) (digits_spaces is.0 (is.1 ++ rest) n (are_digits is.0 n is.2))

  number_no_tag : begins_tag (a ++ rest) ≡ false
  number_no_tag = ap begins_tag number_whole ∙ digits_tag is.0 (is.1 ++ rest) n (are_digits is.0 n is.2)

-- ---- intervals

regroup_three : (a b c d rest : List ℕ) → a ≡ b ++ (c ++ d) → a ++ rest ≡ b ++ (c ++ (d ++ rest))
regroup_three a b c d rest is = ap (λ (t : List ℕ). t ++ rest) is ∙ append_assoc b (c ++ d) rest ∙ ap (λ (t : List ℕ). b ++ t) (append_assoc c d rest)

module _ (i : GnoInterval) (positive : 0 < i.start) where
  one_back : (s rest : List ℕ) → number_at s ≡ Ok (i.start, rest) → i.end ≡ i.start + 1 → after 45 rest ≡ None → interval_at s ≡ Ok (i, rest)
  unfolding interval_at
  one_back s rest read ends none =
      ap (λ (r : Result (ℕ × List ℕ) Fault). r >>= λ first. cond (eqb first.0 0) (Err (fault faults.Range s)) (interval_by first.0 first.1 (after 45 first.1))) read
      ∙ ap (λ (b : Bool). cond b (Err (fault faults.Range s)) (interval_by i.start rest (after 45 rest))) (some_eqb i.start positive)
      ∙ ap (interval_by i.start rest) none
      ∙ ap (λ (e : ℕ). Ok (record { start = i.start; end = e }, rest)) (sym ends)

  two_back : (s more next rest : List ℕ) (last : ℕ) → number_at s ≡ Ok (i.start, more) → after 45 more ≡ Some next → number_at next ≡ Ok (last, rest) → i.end ≡ last + 1 → interval_at s ≡ Ok (i, rest)
  unfolding interval_at
  two_back s more next rest last read dash read_last ends =
      ap (λ (r : Result (ℕ × List ℕ) Fault). r >>= λ first. cond (eqb first.0 0) (Err (fault faults.Range s)) (interval_by first.0 first.1 (after 45 first.1))) read
      ∙ ap (λ (b : Bool). cond b (Err (fault faults.Range s)) (interval_by i.start more (after 45 more))) (some_eqb i.start positive)
      ∙ ap (interval_by i.start more) dash
      ∙ ap (λ (r : Result (ℕ × List ℕ) Fault). r >>= λ last. Ok (record { start = i.start; end = last.0 + 1 }, last.1)) read_last
      ∙ ap (λ (e : ℕ). Ok (record { start = i.start; end = e }, rest)) (sym ends)

interval_back : (a rest : List ℕ) (i : GnoInterval) → IsIntervalText a i → Ends rest → interval_at (a ++ rest) ≡ Ok (i, rest)
interval_back a rest i (inl one) ends = one_back i one.1 (a ++ rest) rest (number_back a i.start one.0 rest (ends_digits rest ends) (ends_spaces rest ends)) one.2 (ends_dash rest ends)
interval_back a rest i (inr two) ends =
    let w = two.6.0 in
    let next = two.2 ++ rest in
    let more = 45 ∷ (w ++ next) in
    let whole : a ++ rest ≡ two.0 ++ more = regroup_three a two.0 two.1 two.2 rest two.9 ∙ ap (λ (t : List ℕ). two.0 ++ (t ++ next)) two.6.2 in
    ap interval_at whole
    ∙ two_back i two.5 (two.0 ++ more) more next rest two.3 (number_back two.0 i.start two.4 more refl refl) (ap (λ (t : List ℕ). Some t) (spaces_over w next two.6.1 (number_front two.2 two.3 two.7 rest)))
    (number_back two.2 two.3 two.7 rest (ends_digits rest ends) (ends_spaces rest ends)) two.8

interval_front : (a rest : List ℕ) (i : GnoInterval) → IsIntervalText a i → Fails is_space (a ++ rest)
interval_front a rest i (inl one) = number_front a i.start one.0 rest
interval_front a rest i (inr two) = subst (Fails is_space) (sym (regroup_three a two.0 two.1 two.2 rest two.9)) (number_front two.0 i.start two.4 (two.1 ++ (two.2 ++ rest)))

interval_no_tag : (a rest : List ℕ) (i : GnoInterval) → IsIntervalText a i → begins_tag (a ++ rest) ≡ false
interval_no_tag a rest i (inl one) = number_no_tag a i.start one.0 rest
interval_no_tag a rest i (inr two) = ap begins_tag (regroup_three a two.0 two.1 two.2 rest two.9) ∙ number_no_tag two.0 i.start two.4 (two.1 ++ (two.2 ++ rest))

-- ---- tags

module _ (t w v more : List ℕ) (is : is_tag t ≡ true) (before : AreSpaces w) (behind : AreSpaces v) (f : Fails is_space more) where
  tag_before_colon : tag_at (t ++ (w ++ (58 ∷ (v ++ more)))) ≡ Ok (Some t, more)
  unfolding tag_at named_at
  tag_before_colon =
      let colon = 58 ∷ (v ++ more) in
      let s = t ++ (w ++ colon) in
      let k = length t in
      let stops : Fails is_later colon = refl in
      let no_space : Fails is_space colon = refl in
      ap (λ (b : Bool). cond b (named_at s) (Ok (None, s))) (tag_begins t (w ++ colon) is)
      ∙ ap (λ (k : ℕ). cond (is_tag (take k s)) (colon_by (take k s) (skip (drop k s)) (after 58 (skip (drop k s)))) (Err (fault faults.Tag s)))
      (prefix_over is_later t (w ++ colon) (tag_passes t is) (spaces_then is_later space_no_later w colon before stops))
      ∙ ap (λ (x : List ℕ). cond (is_tag x) (colon_by x (skip (drop k s)) (after 58 (skip (drop k s)))) (Err (fault faults.Tag s))) (take_at t (w ++ colon) k refl)
      ∙ ap (λ (b : Bool). cond b (colon_by t (skip (drop k s)) (after 58 (skip (drop k s)))) (Err (fault faults.Tag s))) is
      ∙ ap (λ (u : List ℕ). colon_by t (skip u) (after 58 (skip u))) (drop_at t (w ++ colon) k refl)
      ∙ ap (λ (u : List ℕ). colon_by t u (after 58 u)) (spaces_over w colon before no_space)
      ∙ ap (λ (u : List ℕ). Ok (Some t, u)) (spaces_over v more behind f)

tag_whole : (name more t : List ℕ) (is : IsTagText name (Some t)) → name ++ more ≡ t ++ (is.0 ++ (58 ∷ (is.4.0 ++ more)))
tag_whole name more t is = regroup_three name t is.0 is.1 more is.5 ∙ ap (λ (c : List ℕ). t ++ (is.0 ++ (c ++ more))) is.4.2

tag_back : (name more : List ℕ) (tag : Option (List ℕ)) → IsTagText name tag → Fails is_space more → begins_tag more ≡ false → tag_at (name ++ more) ≡ Ok (tag, more)
tag_back name more None is f digit = ap (λ (t : List ℕ). tag_at (t ++ more)) is ∙ no_tag_read more digit
tag_back name more (Some t) is f digit = ap tag_at (tag_whole name more t is) ∙ tag_before_colon t is.0 is.4.0 more is.2 is.3 is.4.1 f

tag_front : (name more : List ℕ) (tag : Option (List ℕ)) → IsTagText name tag → Fails is_space more → Fails is_space (name ++ more)
tag_front name more None is f = subst (λ (t : List ℕ). Fails is_space (t ++ more)) (sym is) f
tag_front name more (Some t) is f = subst (Fails is_space) (sym (tag_whole name more t is)) (tag_spaces t (is.0 ++ (58 ∷ (is.4.0 ++ more))) is.2)

-- ---- pieces

numbers_back : (name numbers rest : List ℕ) (tag : Option (List ℕ)) (i : GnoInterval) → IsTagText name tag → IsIntervalText numbers i → Ends rest → numbers_at (name ++ (numbers ++ rest)) ≡ Ok (pieces.Numbers tag i, rest)
unfolding numbers_at
numbers_back name numbers rest tag i named ranged ends =
    let more = numbers ++ rest in
    ap (λ (r : Result (Option (List ℕ) × List ℕ) Fault). r >>= λ tag. interval_at tag.1 >>= λ i. Ok (pieces.Numbers tag.0 i.0, i.1))
    (tag_back name more tag named (interval_front numbers rest i ranged) (interval_no_tag numbers rest i ranged))
    ∙ ap (λ (r : Result (GnoInterval × List ℕ) Fault). r >>= λ i. Ok (pieces.Numbers tag i.0, i.1)) (interval_back numbers rest i ranged ends)

comma_back : (w t : List ℕ) (x : Piece × List ℕ) → AreSpaces w → Fails is_space t → source_at t ≡ Ok x → piece_at (44 ∷ (w ++ t)) ≡ Ok x
unfolding piece_at
comma_back w t x h f read = ap source_at (spaces_over w t h f) ∙ read

colon_back : (w t : List ℕ) (x : Piece × List ℕ) → AreSpaces w → Fails is_space t → numbers_at t ≡ Ok x → piece_at (58 ∷ (w ++ t)) ≡ Ok x
unfolding piece_at
colon_back w t x h f read = ap numbers_at (spaces_over w t h f) ∙ read

piece_back : (a rest : List ℕ) (p : Piece) → IsPieceText a p → Ends rest → piece_at (a ++ rest) ≡ Ok (p, rest)
piece_back a rest (pieces.Source sid) is ends =
    ap piece_at (regroup_two a is.0 is.1 rest is.4 ∙ ap (λ (c : List ℕ). c ++ (is.1 ++ rest)) is.2.2)
    ∙ comma_back is.2.0 (is.1 ++ rest) (pieces.Source sid, rest) is.2.1 (uuid_front is.1 sid rest is.3) (uuid_back is.1 sid rest is.3 (ends_spaces rest ends))
piece_back a rest (pieces.Numbers tag i) is ends =
    let more = is.2 ++ rest in
    ap piece_at (regroup_three a is.0 is.1 is.2 rest is.6 ∙ ap (λ (c : List ℕ). c ++ (is.1 ++ more)) is.3.2)
    ∙ colon_back is.3.0 (is.1 ++ more) (pieces.Numbers tag i, rest) is.3.1 (tag_front is.1 more tag is.4 (interval_front is.2 rest i is.5)) (numbers_back is.1 is.2 rest tag i is.4 is.5 ends)

piece_ends : (a rest : List ℕ) (p : Piece) → IsPieceText a p → Ends (a ++ rest)
piece_ends a rest (pieces.Source sid) is = subst Ends (sym (regroup_two a is.0 is.1 rest is.4 ∙ ap (λ (c : List ℕ). c ++ (is.1 ++ rest)) is.2.2)) (inr refl)
piece_ends a rest (pieces.Numbers tag i) is = subst Ends (sym (regroup_three a is.0 is.1 is.2 rest is.6 ∙ ap (λ (c : List ℕ). c ++ (is.1 ++ (is.2 ++ rest))) is.3.2)) (inl refl)

pieces_end : (ps : List Piece) (s : List ℕ) → ArePieceTexts s ps → Ends s
pieces_end [] s h = subst Ends (sym h) tt
pieces_end (p ∷ ps) s h = subst Ends (sym h.4) (piece_ends h.0 h.1 p h.2)

pieces_back : (ps : List Piece) (s : List ℕ) → ArePieceTexts s ps → ArePieces s ps []
pieces_back [] s h = h
pieces_back (p ∷ ps) s h = (h.1, ap piece_at h.4 ∙ piece_back h.0 h.1 p h.2 (pieces_end ps h.1 h.3), pieces_back ps h.1 h.3)

-- what is spelled is read
pub text_read_back : (ps : List Piece) (text : List ℕ) → IsSpelled text ps → IsText text ps
text_read_back [] text h = ap skip (sym (append-nil text)) ∙ spaces_over text [] h tt
text_read_back (pieces.Source sid ∷ ps) text h =
    let rest = h.2 in (
      rest,
      ap (λ (t : List ℕ). source_at (skip t)) h.6
          ∙ ap source_at (spaces_over h.0 (h.1 ++ rest) h.3 (uuid_front h.1 sid rest h.4))
          ∙ uuid_back h.1 sid rest h.4 (ends_spaces rest (pieces_end ps rest h.5)),
      pieces_back ps rest h.5,
    )
text_read_back (pieces.Numbers tag i ∷ ps) text h = absurd h
