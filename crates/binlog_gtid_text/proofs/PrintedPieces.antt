-- The pieces of a printed text, and what they name.
use Rattle.std.proofs.Common.{◌≡◌, ℕ, ◌-◌, ◌^◌, ◌<◌, ◌≤◌, Bool, true, false, cond, ltb, ◌&&◌, ◌||◌, inl, inr, List, [], ◌∷◌, ◌++◌, length, get_or, flat_map, Option, Some, None, Ok, refl, sym, ap, subst, ◌∙◌, arith, append_assoc, decimal}
use Rattle.std.specs.Option.{option_or}
use Rattle.std.specs.declared.cmp.Ordering.{Ordering}
use Rattle.std.specs.declared.cmp.Ordering.TheVariants.{Less, Equal, Greater}
use Rattle.std.specs.Ordering.{nat_cmp, is_eq}
use Rattle.std.specs.Cmp.Lexicographic.{slice_cmp}
use Rattle.std.proofs.lemmas.List.{take_at, drop_at}
use Rattle.std.proofs.lemmas.Bool.Decides.{nat_tests}
use Rattle.std.proofs.lemmas.Map.Lookups.{exact_bytes}
use Rattle.uuid.specs.Text.{hyphenated_text, lower, parsed_hyphenated, hex_digit, nibble, digit_place, is_hyphen_place}
use Rattle.uuid.proofs.TextLemmas.{by_index_length, by_index_at}
use Rattle.uuid.proofs.RoundTrips.{parses_hyphenated_text}
use Rattle.binlog_variable_fields.specs.Tags.{is_tag}
use Rattle.binlog_variable_fields.specs.declared.gno_interval.GnoInterval.{GnoInterval}
use Rattle.binlog_gtids.specs.GnoSets.{is_within, is_held, AreApart}
use Rattle.binlog_gtid_sets.specs.declared.gtid_group.GtidGroup.{GtidGroup}
use Rattle.binlog_gtid_sets.specs.GtidGroups.{Pair, pair_of, pair_in, tag_text, compare_pairs, is_same, intervals_of, is_tracked, AreGroups}
use Rattle.binlog_gtid_sets.proofs.GtidDifferences.{tail_groups, after_first}
use Rattle.binlog_gtid_text.specs.declared.piece.Piece.{Piece}
use Rattle.binlog_gtid_text.specs.declared.piece.Piece.TheVariants as pieces
use Rattle.binlog_gtid_text.specs.declared.piece.Under.{Under}
use Rattle.binlog_gtid_text.specs.Reading.{◌>>=◌, is_space, skip, uuid_by, uuid_at, source_at, numbers_at, piece_at, interval_at}
use Rattle.binlog_gtid_text.specs.Pieces.{ArePieces, IsText, are_naming, is_in_text}
use Rattle.binlog_gtid_text.specs.Printing.{interval_text, tag_part, sid_part, text_from, set_text}
use Rattle.binlog_gtid_text.specs.Laws.Printing.{IsSid, IsTagIfAny, IsWritable, AreWritable}
use Rattle.binlog_gtid_text.proofs.Fronts.{Fails, skip_none, Ends, ends_spaces, AreDigits, decimal_digits, digits_spaces, digits_tag, interval_read_by, tag_spaces, tag_read, no_tag_read}

-- ---- a UUID

hex_no_space : (d : ℕ) → is_space (hex_digit lower d) ≡ false
hex_no_space d = grind (arith, nat_tests)

pub fails_front : (p : ℕ → Bool) (a rest : List ℕ) → 0 < length a → p (get_or a 0 0) ≡ false → Fails p (a ++ rest)
fails_front p [] rest some f = absurd (omega arith)
fails_front p (b ∷ a) rest some f = f

uuid_length : (sid : List ℕ) → length (hyphenated_text lower sid) ≡ 36
uuid_length sid = by_index_length 36 _

uuid_spaces : (sid rest : List ℕ) → Fails is_space (hyphenated_text lower sid ++ rest)
uuid_spaces sid rest =
    fails_front is_space (hyphenated_text lower sid) rest (omega (arith, uuid_length sid))
    (ap is_space (by_index_at 36 (λ k. cond (is_hyphen_place k) 45 (hex_digit lower (nibble sid (digit_place k)))) 0 0 (omega arith)) ∙ hex_no_space (nibble sid 0))

uuid_read_from : (h sid rest : List ℕ) → length h ≡ 36 → parsed_hyphenated h ≡ Some sid → Fails is_space rest → uuid_at (h ++ rest) ≡ Ok (sid, rest)
unfolding uuid_at
uuid_read_from h sid rest long parsed f =
    ap (λ (t : List ℕ). uuid_by (h ++ rest) (parsed_hyphenated t)) (take_at h rest 36 long)
    ∙ ap (uuid_by (h ++ rest)) parsed
    ∙ ap (λ (t : List ℕ). Ok (sid, t)) (ap skip (drop_at h rest 36 long) ∙ skip_none rest f)

source_read : (sid rest : List ℕ) → IsSid sid → Fails is_space rest → source_at (hyphenated_text lower sid ++ rest) ≡ Ok (pieces.Source sid, rest)
unfolding source_at
source_read sid rest is f =
    ap (λ r. r >>= λ sid. Ok (pieces.Source sid.0, sid.1))
    (uuid_read_from (hyphenated_text lower sid) sid rest (uuid_length sid) (sym (parses_hyphenated_text lower sid (inl refl) is.long is.bytes)) f)

comma_read : (sid rest : List ℕ) → IsSid sid → Fails is_space rest → piece_at (44 ∷ (hyphenated_text lower sid ++ rest)) ≡ Ok (pieces.Source sid, rest)
unfolding piece_at
comma_read sid rest is f = ap source_at (skip_none (hyphenated_text lower sid ++ rest) (uuid_spaces sid rest)) ∙ source_read sid rest is f

-- ---- intervals

module _ (i : GnoInterval) (rest : List ℕ) (positive : 0 < i.start) (some : i.start < i.end) (small : i.end ≤ 2 ^ 63) (ends : Ends rest) where
  dash : List ℕ
  dash = cond (ltb i.start (i.end - 1)) (45 ∷ decimal (i.end - 1)) []

  digits : List ℕ
  digits = decimal i.start ++ (cond (ltb i.start (i.end - 1)) (45 ∷ decimal (i.end - 1)) [] ++ rest)

  first : AreDigits (decimal i.start) i.start
  first = decimal_digits i.start (omega arith)

  digits_read : interval_at (decimal i.start ++ (cond (ltb i.start (i.end - 1)) (45 ∷ decimal (i.end - 1)) [] ++ rest)) ≡ Ok (i, rest)
  digits_read = interval_read_by i (decimal i.start) (decimal (i.end - 1)) rest first (decimal_digits (i.end - 1) (omega arith)) positive some small ends (ltb i.start (i.end - 1)) refl

  regrouped : interval_text i ++ rest ≡ 58 ∷ (decimal i.start ++ (cond (ltb i.start (i.end - 1)) (45 ∷ decimal (i.end - 1)) [] ++ rest))
  regrouped = ap (λ (t : List ℕ). 58 ∷ t) (append_assoc (decimal i.start) (cond (ltb i.start (i.end - 1)) (45 ∷ decimal (i.end - 1)) []) rest)

  numbers_plain : piece_at (interval_text i ++ rest) ≡ Ok (pieces.Numbers None i, rest)
  unfolding piece_at numbers_at
  numbers_plain =
      let s = decimal i.start ++ (cond (ltb i.start (i.end - 1)) (45 ∷ decimal (i.end - 1)) [] ++ rest) in
      ap piece_at regrouped
      ∙ ap numbers_at (skip_none s (digits_spaces (decimal i.start) _ i.start first))
      ∙ ap (λ r. r >>= λ tag. interval_at tag.1 >>= λ i. Ok (pieces.Numbers tag.0 i.0, i.1)) (no_tag_read s (digits_tag (decimal i.start) _ i.start first))
      ∙ ap (λ r. r >>= λ i. Ok (pieces.Numbers None i.0, i.1)) digits_read

  numbers_tagged : (tag : List ℕ) → is_tag tag ≡ true → piece_at (58 ∷ (tag ++ (interval_text i ++ rest))) ≡ Ok (pieces.Numbers (Some tag) i, rest)
  unfolding piece_at numbers_at
  numbers_tagged tag is =
      let s = decimal i.start ++ (cond (ltb i.start (i.end - 1)) (45 ∷ decimal (i.end - 1)) [] ++ rest) in
      ap (λ (t : List ℕ). piece_at (58 ∷ (tag ++ t))) regrouped
      ∙ ap numbers_at (skip_none (tag ++ (58 ∷ s)) (tag_spaces tag (58 ∷ s) is))
      ∙ ap (λ r. r >>= λ tag. interval_at tag.1 >>= λ i. Ok (pieces.Numbers tag.0 i.0, i.1)) (tag_read tag s is (digits_spaces (decimal i.start) _ i.start first))
      ∙ ap (λ r. r >>= λ i. Ok (pieces.Numbers (Some tag) i.0, i.1)) digits_read

-- the pieces of intervals, of which the first is after a tag
abbrev pub numbered : Option (List ℕ) → List GnoInterval → List Piece
numbered tag [] = []
numbered tag (i ∷ is) = pieces.Numbers tag i ∷ numbered None is

ends_more : (is : List GnoInterval) (rest : List ℕ) → Ends rest → Ends (flat_map interval_text is ++ rest)
ends_more [] rest ends = ends
ends_more (i ∷ is) rest ends = inl refl

plain_pieces : (is : List GnoInterval) (low : ℕ) (rest : List ℕ) → AreApart low is → Ends rest → ArePieces (flat_map interval_text is ++ rest) (numbered None is) rest
plain_pieces [] low rest apart ends = refl
plain_pieces (i ∷ is) low rest apart ends = (
  flat_map interval_text is ++ rest,
  ap piece_at (append_assoc (interval_text i) (flat_map interval_text is) rest)
      ∙ numbers_plain i (flat_map interval_text is ++ rest) (omega (arith, apart.0)) apart.1 apart.2 (ends_more is rest ends),
  plain_pieces is i.end rest apart.3 ends,
)

tagged_pieces : (tag : List ℕ) (is : List GnoInterval) (rest : List ℕ) → is_tag tag ≡ true → 0 < length is → AreApart 0 is → Ends rest
    → ArePieces (58 ∷ (tag ++ (flat_map interval_text is ++ rest))) (numbered (Some tag) is) rest
tagged_pieces tag [] rest is_tagged some apart ends = absurd (omega arith)
tagged_pieces tag (i ∷ is) rest is_tagged some apart ends = (
  flat_map interval_text is ++ rest,
  ap (λ (t : List ℕ). piece_at (58 ∷ (tag ++ t))) (append_assoc (interval_text i) (flat_map interval_text is) rest)
      ∙ numbers_tagged i (flat_map interval_text is ++ rest) (omega (arith, apart.0)) apart.1 apart.2 (ends_more is rest ends) tag is_tagged,
  plain_pieces is i.end rest apart.3 ends,
)

numbers_pieces : (tag : Option (List ℕ)) (is : List GnoInterval) (rest : List ℕ) → IsTagIfAny tag → 0 < length is → AreApart 0 is → Ends rest
    → ArePieces (tag_part tag ++ (flat_map interval_text is ++ rest)) (numbered tag is) rest
numbers_pieces None is rest tagged some apart ends = plain_pieces is 0 rest apart ends
numbers_pieces (Some tag) is rest tagged some apart ends = tagged_pieces tag is rest tagged some apart ends

numbers_end : (tag : Option (List ℕ)) (is : List GnoInterval) (rest : List ℕ) → 0 < length is → Ends (tag_part tag ++ (flat_map interval_text is ++ rest))
numbers_end None [] rest some = absurd (omega arith)
numbers_end None (i ∷ is) rest some = inl refl
numbers_end (Some tag) is rest some = inl refl

-- ---- groups

joined : (ps qs : List Piece) (a mid rest : List ℕ) → ArePieces a ps mid → ArePieces mid qs rest → ArePieces a (ps ++ qs) rest
joined [] qs a mid rest h k = subst (λ (t : List ℕ). ArePieces t qs rest) (sym h) k
joined (p ∷ ps) qs a mid rest h k = (h.0, h.1, joined ps qs h.0 mid rest h.2 k)

abbrev pub source_pieces : List ℕ → List ℕ → List Piece
source_pieces last sid = cond (is_eq (slice_cmp nat_cmp last sid)) [] (pieces.Source sid ∷ [])

-- the pieces of groups after one of a source
abbrev pub pieces_from : List ℕ → List GtidGroup → List Piece
pieces_from last [] = []
pieces_from last (g ∷ groups) = source_pieces last g.sid ++ (numbered g.tag g.gnos ++ pieces_from g.sid groups)

abbrev pub pieces_of : List GtidGroup → List Piece
pieces_of [] = []
pieces_of (g ∷ groups) = pieces.Source g.sid ∷ (numbered g.tag g.gnos ++ pieces_from g.sid groups)

filled_first : (g : GtidGroup) (groups : List GtidGroup) → AreGroups (g ∷ groups) → 0 < length g.gnos
filled_first g groups are = are.filled 0 g (omega arith)

-- the text of the numbers of a group and of the groups after it
abbrev numbers_text : GtidGroup → List GtidGroup → List ℕ
numbers_text g groups = tag_part g.tag ++ (flat_map interval_text g.gnos ++ text_from (Some g.sid) groups)

ends_by : (b : Bool) (sid : List ℕ) (g : GtidGroup) (groups : List GtidGroup) → 0 < length g.gnos
    → Ends ((cond b [] (44 ∷ hyphenated_text lower sid) ++ (tag_part g.tag ++ flat_map interval_text g.gnos)) ++ text_from (Some g.sid) groups)
ends_by true sid g groups some = subst Ends (sym (append_assoc (tag_part g.tag) (flat_map interval_text g.gnos) (text_from (Some g.sid) groups))) (numbers_end g.tag g.gnos (text_from (Some g.sid) groups) some)
ends_by false sid g groups some = inr refl

from_ends : (last : List ℕ) (groups : List GtidGroup) → AreGroups groups → Ends (text_from (Some last) groups)
from_ends last [] are = tt
from_ends last (g ∷ groups) are = ends_by (is_eq (slice_cmp nat_cmp last g.sid)) g.sid g groups (filled_first g groups are)

-- the numbers of a group, and all after it
group_pieces : (g : GtidGroup) (groups : List GtidGroup) → AreGroups (g ∷ groups) → IsWritable g → ArePieces (text_from (Some g.sid) groups) (pieces_from g.sid groups) []
    → ArePieces (numbers_text g groups) (numbered g.tag g.gnos ++ pieces_from g.sid groups) []
group_pieces g groups are is rest =
    joined (numbered g.tag g.gnos) (pieces_from g.sid groups) (numbers_text g groups) (text_from (Some g.sid) groups) []
    (numbers_pieces g.tag g.gnos (text_from (Some g.sid) groups) is.tag (filled_first g groups are) is.gnos (from_ends g.sid groups (tail_groups g groups are))) rest

regroup_group : (a b c d : List ℕ) → (a ++ (b ++ c)) ++ d ≡ a ++ (b ++ (c ++ d))
regroup_group a b c d = simp append_assoc

from_pieces_by : (b : Bool) (g : GtidGroup) (groups : List GtidGroup) → AreGroups (g ∷ groups) → IsWritable g → ArePieces (numbers_text g groups) (numbered g.tag g.gnos ++ pieces_from g.sid groups) []
    → ArePieces (cond b [] (44 ∷ hyphenated_text lower g.sid) ++ numbers_text g groups) (cond b [] (pieces.Source g.sid ∷ []) ++ (numbered g.tag g.gnos ++ pieces_from g.sid groups)) []
from_pieces_by true g groups are is rest = rest
from_pieces_by false g groups are is rest = (
  numbers_text g groups,
  comma_read g.sid (numbers_text g groups) is.sid (ends_spaces (numbers_text g groups) (numbers_end g.tag g.gnos (text_from (Some g.sid) groups) (filled_first g groups are))),
  rest,
)

from_pieces : (last : List ℕ) (groups : List GtidGroup) → AreGroups groups → AreWritable groups → ArePieces (text_from (Some last) groups) (pieces_from last groups) []
from_pieces last [] are is = refl
from_pieces last (g ∷ groups) are is =
    let rest = group_pieces g groups are is.0 (from_pieces g.sid groups (tail_groups g groups are) is.1) in
    subst (λ (t : List ℕ). ArePieces t (pieces_from last (g ∷ groups)) []) (sym (regroup_group (sid_part (Some last) g.sid) (tag_part g.tag) (flat_map interval_text g.gnos) (text_from (Some g.sid) groups)))
    (from_pieces_by (is_eq (slice_cmp nat_cmp last g.sid)) g groups are is.0 rest)

-- the text of groups consists of these pieces
pub printed_pieces : (groups : List GtidGroup) → AreGroups groups → AreWritable groups → IsText (set_text groups) (pieces_of groups)
printed_pieces [] are is = refl
printed_pieces (g ∷ groups) are is =
    let numbers = numbers_text g groups in
    let whole = hyphenated_text lower g.sid ++ numbers in
    let regrouped : set_text (g ∷ groups) ≡ whole = regroup_group (hyphenated_text lower g.sid) (tag_part g.tag) (flat_map interval_text g.gnos) (text_from (Some g.sid) groups) in
    let spaces = ends_spaces numbers (numbers_end g.tag g.gnos (text_from (Some g.sid) groups) (filled_first g groups are)) in (
      numbers,
      ap (λ (t : List ℕ). source_at (skip t)) regrouped ∙ ap source_at (skip_none whole (uuid_spaces g.sid numbers)) ∙ source_read g.sid numbers is.0.sid spaces,
      group_pieces g groups are is.0 (from_pieces g.sid groups (tail_groups g groups are) is.1),
    )

-- ---- what they name

spread : (same within held rest : Bool) → ((same && within) || ((same && held) || rest)) ≡ ((same && (within || held)) || rest)
spread true true held rest = refl
spread true false held rest = refl
spread false within held rest = refl

no_more : (same rest : Bool) → rest ≡ ((same && false) || rest)
no_more true rest = refl
no_more false rest = refl

plain_named : (u : Under) (is : List GnoInterval) (ps : List Piece) (q : Pair) (n : ℕ) → are_naming u (numbered None is ++ ps) q n ≡ ((is_same (pair_of u.sid u.tag) q && is_held is n) || are_naming u ps q n)
plain_named u [] ps q n = no_more (is_same (pair_of u.sid u.tag) q) (are_naming u ps q n)
plain_named u (i ∷ is) ps q n =
    ap (λ (b : Bool). (is_same (pair_of u.sid u.tag) q && is_within i n) || b) (plain_named u is ps q n)
    ∙ spread (is_same (pair_of u.sid u.tag) q) (is_within i n) (is_held is n) (are_naming u ps q n)

numbers_named : (u : Under) (tag : Option (List ℕ)) (is : List GnoInterval) (ps : List Piece) (q : Pair) (n : ℕ) → 0 < length is
    → are_naming u (numbered tag is ++ ps) q n
    ≡ ((is_same (pair_of u.sid (option_or tag u.tag)) q && is_held is n) || are_naming (record { sid = u.sid; tag = option_or tag u.tag }) ps q n)
numbers_named u tag [] ps q n some = absurd (omega arith)
numbers_named u tag (i ∷ is) ps q n some =
    let v : Under = record { sid = u.sid; tag = option_or tag u.tag } in
    ap (λ (b : Bool). (is_same (pair_of v.sid v.tag) q && is_within i n) || b) (plain_named v is ps q n)
    ∙ spread (is_same (pair_of v.sid v.tag) q) (is_within i n) (is_held is n) (are_naming v ps q n)

-- the group's numbers and those of the groups after it
first_or_by : (g : GtidGroup) (groups : List GtidGroup) (q : Pair) (n : ℕ) → AreGroups (g ∷ groups) → (b : Bool) → is_same (pair_in g) q ≡ b
    → ((b && is_held g.gnos n) || is_tracked groups q n) ≡ is_held (cond b g.gnos (intervals_of groups q)) n
first_or_by g groups q n are true f =
    let none : intervals_of groups q ≡ [] = after_first g groups q are f in
    rw none (or_false (is_held g.gnos n))
  where
    or_false : (b : Bool) → (b || false) ≡ b
    or_false true = refl
    or_false false = refl
first_or_by g groups q n are false f = refl

first_or : (g : GtidGroup) (groups : List GtidGroup) (q : Pair) (n : ℕ) → AreGroups (g ∷ groups) → ((is_same (pair_in g) q && is_held g.gnos n) || is_tracked groups q n) ≡ is_tracked (g ∷ groups) q n
first_or g groups q n are = first_or_by g groups q n are (is_same (pair_in g) q) refl

or_none : (tag : Option (List ℕ)) → option_or tag None ≡ tag
or_none None = refl
or_none (Some t) = refl

never_less : (t : List ℕ) → slice_cmp nat_cmp t [] ≡ Less → ⊥
never_less [] h = absurd cc
never_less (b ∷ t) h = absurd cc

equal_by : (r : Ordering) → is_eq r ≡ true → r ≡ Equal
equal_by Less h = absurd cc
equal_by Equal h = refl
equal_by Greater h = absurd cc

-- a later group of the same source has a tag of its own
next_tag : (p g : GtidGroup) → is_eq (slice_cmp nat_cmp p.sid g.sid) ≡ true → compare_pairs (pair_in p) (pair_in g) ≡ Less → (tag : Option (List ℕ)) → g.tag ≡ tag → option_or tag p.tag ≡ tag
unfolding compare_pairs
next_tag p g same less None f =
    let tied = equal_by (slice_cmp nat_cmp p.sid g.sid) same in
    absurd (never_less (tag_text p.tag) (rw (tied, f) at less))
next_tag p g same less (Some t) f = refl

named_by : (p g : GtidGroup) (groups : List GtidGroup) (q : Pair) (n : ℕ) → AreGroups (p ∷ g ∷ groups) → (b : Bool) → is_eq (slice_cmp nat_cmp p.sid g.sid) ≡ b
    → are_naming (record { sid = g.sid; tag = g.tag }) (pieces_from g.sid groups) q n ≡ is_tracked groups q n
    → are_naming (record { sid = p.sid; tag = p.tag }) (cond b [] (pieces.Source g.sid ∷ []) ++ (numbered g.tag g.gnos ++ pieces_from g.sid groups)) q n ≡ is_tracked (g ∷ groups) q n
named_by p g groups q n are true f rest =
    let later = tail_groups p (g ∷ groups) are in
    let sids : p.sid ≡ g.sid = exact_bytes p.sid g.sid (equal_by (slice_cmp nat_cmp p.sid g.sid) f) in
    let tags : option_or g.tag p.tag ≡ g.tag = next_tag p g f (are.ascending 0 1 p (omega arith) (omega arith)) g.tag refl in
    numbers_named (record { sid = p.sid; tag = p.tag }) g.tag g.gnos (pieces_from g.sid groups) q n (filled_first g groups later)
    ∙ ap (λ (u : Under). (is_same (pair_of u.sid u.tag) q && is_held g.gnos n) || are_naming u (pieces_from g.sid groups) q n)
    (ap (λ (s : List ℕ). record { sid = s; tag = option_or g.tag p.tag }) sids ∙ ap (λ (t : Option (List ℕ)). record { sid = g.sid; tag = t }) tags)
    ∙ ap (λ (b : Bool). (is_same (pair_in g) q && is_held g.gnos n) || b) rest
    ∙ first_or g groups q n later
named_by p g groups q n are false f rest =
    let later = tail_groups p (g ∷ groups) are in
    numbers_named (record { sid = g.sid; tag = None }) g.tag g.gnos (pieces_from g.sid groups) q n (filled_first g groups later)
    ∙ ap (λ (t : Option (List ℕ)). (is_same (pair_of g.sid t) q && is_held g.gnos n) || are_naming (record { sid = g.sid; tag = t }) (pieces_from g.sid groups) q n) (or_none g.tag)
    ∙ ap (λ (b : Bool). (is_same (pair_in g) q && is_held g.gnos n) || b) rest
    ∙ first_or g groups q n later

-- what the groups after p name
named_from : (p : GtidGroup) (groups : List GtidGroup) (q : Pair) (n : ℕ) → AreGroups (p ∷ groups) → are_naming (record { sid = p.sid; tag = p.tag }) (pieces_from p.sid groups) q n ≡ is_tracked groups q n
named_from p [] q n are = refl
named_from p (g ∷ groups) q n are =
    named_by p g groups q n are (is_eq (slice_cmp nat_cmp p.sid g.sid)) refl (named_from g groups q n (tail_groups p (g ∷ groups) are))

-- the pieces name the GTIDs of the groups
pub printed_named : (groups : List GtidGroup) → AreGroups groups → (q : Pair) (n : ℕ) → is_in_text (pieces_of groups) q n ≡ is_tracked groups q n
printed_named [] are q n = refl
printed_named (g ∷ groups) are q n =
    numbers_named (record { sid = g.sid; tag = None }) g.tag g.gnos (pieces_from g.sid groups) q n (filled_first g groups are)
    ∙ ap (λ (t : Option (List ℕ)). (is_same (pair_of g.sid t) q && is_held g.gnos n) || are_naming (record { sid = g.sid; tag = t }) (pieces_from g.sid groups) q n) (or_none g.tag)
    ∙ ap (λ (b : Bool). (is_same (pair_in g) q && is_held g.gnos n) || b) (named_from g groups q n are)
    ∙ first_or g groups q n are
