-- What is read is spelled.
use Rattle.std.proofs.Common.{◌≡◌, ℕ, suc, ◌+◌, ◌^◌, ◌<◌, Bool, true, false, cond, eqb, ltb, inl, inr, List, [], ◌∷◌, ◌++◌, length, take, drop, Option, Some, None, Result, Ok, Err, refl, sym, ap, subst, ◌∙◌, length-take, take-append-drop, append_assoc, append-nil, arith}
use Rattle.std.specs.Char.{is_ascii_digit}
use Rattle.std.specs.List.{prefix_len}
use Rattle.std.specs.Str.Parse.{digits_value}
use Rattle.std.proofs.lemmas.Bool.{ltb-true}
use Rattle.std.proofs.lemmas.Bool.Decides.{nat_tests}
use Rattle.std.proofs.lemmas.List.Sums.{prefix_len-le-length}
use Rattle.std.proofs.lemmas.Option.{cond_some}
use Rattle.uuid.specs.Text.{parsed_hyphenated}
use Rattle.binlog_variable_fields.specs.Tags.{is_later, is_tag}
use Rattle.binlog_variable_fields.specs.declared.gno_interval.GnoInterval.{GnoInterval}
use Rattle.binlog_gtid_text.specs.declared.error.Fault.{Fault}
use Rattle.binlog_gtid_text.specs.declared.error.GtidTextFault.TheVariants as faults
use Rattle.binlog_gtid_text.specs.declared.piece.Piece.{Piece}
use Rattle.binlog_gtid_text.specs.declared.piece.Piece.TheVariants as pieces
use Rattle.binlog_gtid_text.specs.Faults.{fault}
use Rattle.binlog_gtid_text.specs.Reading.{◌>>=◌, is_space, skip, after, uuid_by, uuid_at, value_in, number_by, number_at, interval_by, interval_at, begins_tag, colon_by, named_at, tag_at, source_at, numbers_at, piece_by, piece_at}
use Rattle.binlog_gtid_text.specs.Pieces.{ArePieces, IsText}
use Rattle.binlog_gtid_text.specs.Spellings.{AreSpaces, IsSeparator, IsUuidText, IsNumberText, IsIntervalText, IsTagText, IsPieceText, ArePieceTexts, IsSpelled}
use Rattle.binlog_gtid_text.proofs.Read.{digits_front}

-- ---- steps

-- what a step gave, and what the steps after it made of that
step_taken : {A B : Type 0} (r : Result A Fault) (f : A → Result B Fault) (y : B) → (r >>= f) ≡ Ok y → (x : A) × (r ≡ Ok x) × (f x ≡ Ok y)
step_taken (Ok x) f y h = (x, refl, h)
step_taken (Err e) f y h = absurd cc

no_fault : {A : Type 0} (b : Bool) (e : Fault) (r : Result A Fault) (x : A) → cond b (Err e) r ≡ Ok x → (b ≡ false) × (r ≡ Ok x)
no_fault true e r x h = absurd cc
no_fault false e r x h = (refl, h)

pair_of_ok : {A B : Type 0} (x y : A) (s t : B) → ◌≡◌ {A = Result (A × B) Fault} (Ok (x, s)) (Ok (y, t)) → (x ≡ y) × (s ≡ t)
pair_of_ok {A = A} {B = B} x y s t h = let one : (x, s) ≡ (y, t) = cc in (ap (λ (z : A × B). z.0) one, ap (λ (z : A × B). z.1) one)

-- ---- whitespace and separators

spaces_by : (b : ℕ) (s : List ℕ) (v : Bool) → is_space b ≡ v → AreSpaces (take (prefix_len is_space s) s) → AreSpaces (take (cond v (1 + prefix_len is_space s) 0) (b ∷ s))
spaces_by b s true f h = let more : 1 + prefix_len is_space s ≡ suc (prefix_len is_space s) = omega arith in rw more (f, h)
spaces_by b s false f h = tt

spaces_front : (s : List ℕ) → AreSpaces (take (prefix_len is_space s) s)
spaces_front [] = tt
spaces_front (b ∷ s) = spaces_by b s (is_space b) refl (spaces_front s)

skipped : (s : List ℕ) → s ≡ take (prefix_len is_space s) s ++ skip s
skipped s = sym (take-append-drop (prefix_len is_space s) s)

after_by : (b c : ℕ) (s rest : List ℕ) (v : Bool) → eqb c b ≡ v → cond v (Some (skip s)) None ≡ Some rest → (m : List ℕ) × IsSeparator b m × ((c ∷ s) ≡ m ++ rest)
after_by b c s rest true f h =
    let w = take (prefix_len is_space s) s in
    let same : c ≡ b = grind (arith, nat_tests) in
    let left : skip s ≡ rest = cc in
    (b ∷ w, (w, spaces_front s, refl), ap (λ (c : ℕ). c ∷ s) same ∙ ap (λ (t : List ℕ). b ∷ t) (skipped s ∙ ap (λ (t : List ℕ). w ++ t) left))
after_by b c s rest false f h = absurd cc

pub after_spelled : (b : ℕ) (s rest : List ℕ) → after b s ≡ Some rest → (m : List ℕ) × IsSeparator b m × (s ≡ m ++ rest)
after_spelled b [] rest h = absurd cc
after_spelled b (c ∷ s) rest h = after_by b c s rest (eqb c b) refl h

-- a part of k bytes and the whitespace after it
cut : (k : ℕ) (s : List ℕ) → s ≡ (take k s ++ take (prefix_len is_space (drop k s)) (drop k s)) ++ skip (drop k s)
cut k s = sym (take-append-drop k s) ∙ ap (λ (t : List ℕ). take k s ++ t) (skipped (drop k s)) ∙ sym (append_assoc (take k s) (take (prefix_len is_space (drop k s)) (drop k s)) (skip (drop k s)))

regroup : (a b c d : List ℕ) → a ++ (b ++ (c ++ d)) ≡ (a ++ (b ++ c)) ++ d
regroup a b c d = simp append_assoc

-- ---- UUIDs

uuid_from : (s sid rest : List ℕ) (o : Option (List ℕ)) → parsed_hyphenated (take 36 s) ≡ o → uuid_by s o ≡ Ok (sid, rest) → (a : List ℕ) × IsUuidText a sid × (s ≡ a ++ rest)
uuid_from s sid rest None f h = absurd cc
uuid_from s sid rest (Some x) f h =
    let w = take (prefix_len is_space (drop 36 s)) (drop 36 s) in
    let both = pair_of_ok x sid (skip (drop 36 s)) rest h in
    (take 36 s ++ w, (take 36 s, w, f ∙ ap (λ (x : List ℕ). Some x) both.0, spaces_front (drop 36 s), refl), cut 36 s ∙ ap (λ (t : List ℕ). (take 36 s ++ w) ++ t) both.1)

pub uuid_spelled : (s sid rest : List ℕ) → uuid_at s ≡ Ok (sid, rest) → (a : List ℕ) × IsUuidText a sid × (s ≡ a ++ rest)
unfolding uuid_at
uuid_spelled s sid rest h = uuid_from s sid rest (parsed_hyphenated (take 36 s)) refl h

-- ---- numbers

module _ (s : List ℕ) (k : ℕ) (is : k ≡ prefix_len is_ascii_digit s) (some : eqb k 0 ≡ false) (n : ℕ) (rest : List ℕ) where
  number_from : (o : Option ℕ) → value_in (take k s) ≡ o → number_by s k o ≡ Ok (n, rest) → (a : List ℕ) × IsNumberText a n × (s ≡ a ++ rest)
  number_from None f h = absurd cc
  number_from (Some m) f h =
      let w = take (prefix_len is_space (drop k s)) (drop k s) in
      let both = pair_of_ok m n (skip (drop k s)) rest h in
      let value = cond_some (ltb (digits_value 10 (take k s)) (2 ^ 63)) (digits_value 10 (take k s)) m f in
      let long : 0 < length (take k s) = rw (length-take k s) (let le = prefix_len-le-length is_ascii_digit s in grind (arith, nat_tests)) in
      let value_is : digits_value 10 (take k s) ≡ n = value.1 ∙ both.0 in (
        take k s ++ w,
        (
          take k s,
          w,
          record {
            some = long;
            all = rw is (digits_front s);
            value = value_is;
            small = subst (λ (v : ℕ). v < 2 ^ 63) value_is (ltb-true (digits_value 10 (take k s)) (2 ^ 63) value.0);
          },
          spaces_front (drop k s),
          refl,
        ),
        cut k s ∙ ap (λ (t : List ℕ). (take k s ++ w) ++ t) both.1,
      )

pub number_spelled : (s : List ℕ) (n : ℕ) (rest : List ℕ) → number_at s ≡ Ok (n, rest) → (a : List ℕ) × IsNumberText a n × (s ≡ a ++ rest)
unfolding number_at
number_spelled s n rest h =
    let k = prefix_len is_ascii_digit s in
    let parts = no_fault (eqb k 0) (fault faults.Number s) (number_by s k (value_in (take k s))) (n, rest) h in
    number_from s k refl parts.0 n rest (value_in (take k s)) refl parts.1

-- ---- intervals

interval_from : (s : List ℕ) (x : ℕ × List ℕ) → number_at s ≡ Ok x → eqb x.0 0 ≡ false → (i : GnoInterval) (rest : List ℕ) (o : Option (List ℕ)) → after 45 x.1 ≡ o → interval_by x.0 x.1 o ≡ Ok (i, rest)
    → (a : List ℕ) × IsIntervalText a i × (s ≡ a ++ rest)
interval_from s x read some i rest None f h =
    let first = number_spelled s x.0 x.1 read in
    let both = pair_of_ok (record { start = x.0; end = x.0 + 1 }) i x.1 rest h in (
      first.0,
      subst (λ (i : GnoInterval). IsIntervalText first.0 i) both.0 (inl (first.1, grind (arith, nat_tests), refl)),
      first.2 ∙ ap (λ (t : List ℕ). first.0 ++ t) both.1,
    )
interval_from s x read some i rest (Some next) f h =
    let first = number_spelled s x.0 x.1 read in
    let dash = after_spelled 45 x.1 next f in
    let step = step_taken (number_at next) (λ last. Ok (record { start = x.0; end = last.0 + 1 }, last.1)) (i, rest) h in
    let other = number_spelled next step.0.0 step.0.1 step.1 in
    let both = pair_of_ok (record { start = x.0; end = step.0.0 + 1 }) i step.0.1 rest step.2 in
    let whole : s ≡ (first.0 ++ (dash.0 ++ other.0)) ++ step.0.1 =
    first.2 ∙ ap (λ (t : List ℕ). first.0 ++ t) (dash.2 ∙ ap (λ (t : List ℕ). dash.0 ++ t) other.2) ∙ regroup first.0 dash.0 other.0 step.0.1 in (
      first.0 ++ (dash.0 ++ other.0),
      subst (λ (i : GnoInterval). IsIntervalText (first.0 ++ (dash.0 ++ other.0)) i) both.0
          (inr (first.0, dash.0, other.0, step.0.0, first.1, grind (arith, nat_tests), dash.1, other.1, refl, refl)),
      whole ∙ ap (λ (t : List ℕ). (first.0 ++ (dash.0 ++ other.0)) ++ t) both.1,
    )

pub interval_spelled : (s : List ℕ) (i : GnoInterval) (rest : List ℕ) → interval_at s ≡ Ok (i, rest) → (a : List ℕ) × IsIntervalText a i × (s ≡ a ++ rest)
unfolding interval_at
interval_spelled s i rest h =
    let step = step_taken (number_at s) (λ first. cond (eqb first.0 0) (Err (fault faults.Range s)) (interval_by first.0 first.1 (after 45 first.1))) (i, rest) h in
    let parts = no_fault (eqb step.0.0 0) (fault faults.Range s) (interval_by step.0.0 step.0.1 (after 45 step.0.1)) (i, rest) step.2 in
    interval_from s step.0 step.1 parts.0 i rest (after 45 step.0.1) refl parts.1

-- ---- tags

fault_or : {A : Type 0} (b : Bool) (e : Fault) (r : Result A Fault) (x : A) → cond b r (Err e) ≡ Ok x → (b ≡ true) × (r ≡ Ok x)
fault_or true e r x h = (refl, h)
fault_or false e r x h = absurd cc

colon_from : (s name : List ℕ) (k : ℕ) → name ≡ take k s → is_tag name ≡ true → (tag : Option (List ℕ)) (rest : List ℕ) (o : Option (List ℕ)) → after 58 (skip (drop k s)) ≡ o
    → colon_by name (skip (drop k s)) o ≡ Ok (tag, rest) → (a : List ℕ) × IsTagText a tag × (s ≡ a ++ rest)
colon_from s name k is is_name tag rest None f h = absurd cc
colon_from s name k is is_name tag rest (Some next) f h =
    let w = take (prefix_len is_space (drop k s)) (drop k s) in
    let colon = after_spelled 58 (skip (drop k s)) next f in
    let both = pair_of_ok (Some name) tag next rest h in
    let whole : s ≡ (name ++ (w ++ colon.0)) ++ next =
    sym (take-append-drop k s) ∙ ap (λ (t : List ℕ). t ++ drop k s) (sym is) ∙ ap (λ (t : List ℕ). name ++ t) (skipped (drop k s) ∙ ap (λ (t : List ℕ). w ++ t) colon.2) ∙ regroup name w colon.0 next in (
      name ++ (w ++ colon.0),
      subst (λ (t : Option (List ℕ)). IsTagText (name ++ (w ++ colon.0)) t) both.0 (w, colon.0, is_name, spaces_front (drop k s), colon.1, refl),
      whole ∙ ap (λ (t : List ℕ). (name ++ (w ++ colon.0)) ++ t) both.1,
    )

named_spelled : (s : List ℕ) (tag : Option (List ℕ)) (rest : List ℕ) → named_at s ≡ Ok (tag, rest) → (a : List ℕ) × IsTagText a tag × (s ≡ a ++ rest)
unfolding named_at
named_spelled s tag rest h =
    let k = prefix_len is_later s in
    let parts = fault_or (is_tag (take k s)) (fault faults.Tag s) (colon_by (take k s) (skip (drop k s)) (after 58 (skip (drop k s)))) (tag, rest) h in
    colon_from s (take k s) k refl parts.0 tag rest (after 58 (skip (drop k s))) refl parts.1

tag_by : (s : List ℕ) (tag : Option (List ℕ)) (rest : List ℕ) (b : Bool) → cond b (named_at s) (Ok (None, s)) ≡ Ok (tag, rest) → (a : List ℕ) × IsTagText a tag × (s ≡ a ++ rest)
tag_by s tag rest true h = named_spelled s tag rest h
tag_by s tag rest false h = let both = pair_of_ok None tag s rest h in ([], subst (λ (t : Option (List ℕ)). IsTagText [] t) both.0 refl, both.1)

tag_spelled : (s : List ℕ) (tag : Option (List ℕ)) (rest : List ℕ) → tag_at s ≡ Ok (tag, rest) → (a : List ℕ) × IsTagText a tag × (s ≡ a ++ rest)
unfolding tag_at
tag_spelled s tag rest h = tag_by s tag rest (begins_tag s) h

-- ---- pieces

source_spelled : (s : List ℕ) (p : Piece) (rest : List ℕ) → source_at s ≡ Ok (p, rest) → (sid uuid : List ℕ) × IsUuidText uuid sid × (s ≡ uuid ++ rest) × (pieces.Source sid ≡ p)
unfolding source_at
source_spelled s p rest h =
    let step = step_taken (uuid_at s) (λ sid. Ok (pieces.Source sid.0, sid.1)) (p, rest) h in
    let uuid = uuid_spelled s step.0.0 step.0.1 step.1 in
    let both = pair_of_ok (pieces.Source step.0.0) p step.0.1 rest step.2 in
    (step.0.0, uuid.0, uuid.1, uuid.2 ∙ ap (λ (t : List ℕ). uuid.0 ++ t) both.1, both.0)

two_parts : (s a mid b next rest : List ℕ) → s ≡ a ++ mid → mid ≡ b ++ next → next ≡ rest → s ≡ (a ++ b) ++ rest
two_parts s a mid b next rest f g h = f ∙ ap (λ (t : List ℕ). a ++ t) (g ∙ ap (λ (t : List ℕ). b ++ t) h) ∙ sym (append_assoc a b rest)

-- numbers after a colon
numbers_spelled : (s : List ℕ) (p : Piece) (rest : List ℕ) → numbers_at s ≡ Ok (p, rest)
    → (tag : Option (List ℕ)) × (i : GnoInterval) × (name numbers : List ℕ) × IsTagText name tag × IsIntervalText numbers i × (s ≡ (name ++ numbers) ++ rest) × (pieces.Numbers tag i ≡ p)
unfolding numbers_at
numbers_spelled s p rest h =
    let tagged = step_taken (tag_at s) (λ tag. interval_at tag.1 >>= λ i. Ok (pieces.Numbers tag.0 i.0, i.1)) (p, rest) h in
    let ranged = step_taken (interval_at tagged.0.1) (λ i. Ok (pieces.Numbers tagged.0.0 i.0, i.1)) (p, rest) tagged.2 in
    let name = tag_spelled s tagged.0.0 tagged.0.1 tagged.1 in
    let numbers = interval_spelled tagged.0.1 ranged.0.0 ranged.0.1 ranged.1 in
    let both = pair_of_ok (pieces.Numbers tagged.0.0 ranged.0.0) p ranged.0.1 rest ranged.2 in (
      tagged.0.0,
      ranged.0.0,
      name.0,
      numbers.0,
      name.1,
      numbers.1,
      two_parts s name.0 tagged.0.1 numbers.0 ranged.0.1 rest name.2 numbers.2 both.1,
      both.0,
    )

piece_from : (s : List ℕ) (p : Piece) (rest : List ℕ) (o q : Option (List ℕ)) → after 44 s ≡ o → after 58 s ≡ q → piece_by s o q ≡ Ok (p, rest) → (a : List ℕ) × IsPieceText a p × (s ≡ a ++ rest)
piece_from s p rest None None f g h = absurd cc
piece_from s p rest (Some next) q f g h =
    let comma = after_spelled 44 s next f in
    let source = source_spelled next p rest h in (
      comma.0 ++ source.1,
      subst (λ (p : Piece). IsPieceText (comma.0 ++ source.1) p) source.4 (comma.0, source.1, comma.1, source.2, refl),
      comma.2 ∙ ap (λ (t : List ℕ). comma.0 ++ t) source.3 ∙ sym (append_assoc comma.0 source.1 rest),
    )
piece_from s p rest None (Some next) f g h =
    let colon = after_spelled 58 s next g in
    let numbers = numbers_spelled next p rest h in
    let body = numbers.2 ++ numbers.3 in (
      colon.0 ++ body,
      subst (λ (p : Piece). IsPieceText (colon.0 ++ body) p) numbers.7 (colon.0, numbers.2, numbers.3, colon.1, numbers.4, numbers.5, refl),
      colon.2 ∙ ap (λ (t : List ℕ). colon.0 ++ t) numbers.6 ∙ sym (append_assoc colon.0 body rest),
    )

pub piece_spelled : (s : List ℕ) (p : Piece) (rest : List ℕ) → piece_at s ≡ Ok (p, rest) → (a : List ℕ) × IsPieceText a p × (s ≡ a ++ rest)
unfolding piece_at
piece_spelled s p rest h = piece_from s p rest (after 44 s) (after 58 s) refl refl h

pieces_spelled : (ps : List Piece) (s : List ℕ) → ArePieces s ps [] → ArePieceTexts s ps
pieces_spelled [] s h = h
pieces_spelled (p ∷ ps) s h = let first = piece_spelled s p h.0 h.1 in (first.0, h.0, first.1, pieces_spelled ps h.0 h.2, first.2)

text_from_source : (p : Piece) (ps : List Piece) (sid w uuid rest text : List ℕ) → pieces.Source sid ≡ p → AreSpaces w → IsUuidText uuid sid → ArePieceTexts rest ps → text ≡ w ++ (uuid ++ rest) → IsSpelled text (p ∷ ps)
text_from_source p ps sid w uuid rest text is spaces uuid_is rests whole = subst (λ (p : Piece). IsSpelled text (p ∷ ps)) is (w, uuid, rest, spaces, uuid_is, rests, whole)

-- what is read is spelled
pub text_spelled : (ps : List Piece) (text : List ℕ) → IsText text ps → IsSpelled text ps
text_spelled [] text h =
    let w = take (prefix_len is_space text) text in
    subst AreSpaces (sym (skipped text ∙ ap (λ (t : List ℕ). w ++ t) h ∙ append-nil w)) (spaces_front text)
text_spelled (p ∷ ps) text h =
    let w = take (prefix_len is_space text) text in
    let source = source_spelled (skip text) p h.0 h.1 in
    text_from_source p ps source.0 w source.1 h.0 text source.4 (spaces_front text) source.2 (pieces_spelled ps h.0 h.2) (skipped text ∙ ap (λ (t : List ℕ). w ++ t) source.3)
