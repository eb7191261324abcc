-- What is read of the text of a list of GTIDs, and the grammar of the text.
use Rattle.std.proofs.Common.{◌≡◌, ◌⊎◌, inl, inr, ℕ, zero, suc, ◌+◌, ◌^◌, ◌<◌, Bool, true, false, cond, ltb, List, [], ◌∷◌, ◌++◌, length, take, drop, get_or, map, Result, Ok, Err, refl, sym, ap, subst, ◌∙◌, arith}
use Rattle.std.specs.Char.{is_ascii_digit}
use Rattle.std.specs.List.{list_all, All, position_or_len, before_first, after_first}
use Rattle.std.specs.Str.Parse.{digits_value}
use Rattle.std.proofs.Math.Seq.{take-append_seam, drop-append-add}
use Rattle.std.proofs.lemmas.Bool.{cases_lt, ltb-true, lt-ltb, eqb-true}
use Rattle.std.proofs.lemmas.Bool.Decides.{nat_tests}
use Rattle.std.proofs.lemmas.List.{length-map, length-append}
use Rattle.std.proofs.lemmas.List.Elements.{All-nil, All-cons, All-append}
use Rattle.std.proofs.lemmas.List.Splits.{slice_split_none, slice_split_at, slice_split_first, length-slice_split}
use Rattle.std.proofs.lemmas.List.Sums.{fails_before_first, passes_at_first, split_at_first}
use Rattle.binlog_mariadb.specs.declared.maria_gtid.MariaGtid.{MariaGtid}
use Rattle.binlog_maria_gtids.specs.declared.gtid_text_error.MariaGtidFault.{MariaGtidFault}
use Rattle.binlog_maria_gtids.specs.declared.gtid_text_error.MariaGtidFault.TheVariants.{Hyphens, Number, Range}
use Rattle.binlog_maria_gtids.specs.declared.gtid_text_error.MariaGtidTextError.{MariaGtidTextError}
use Rattle.binlog_maria_gtids.specs.declared.gtid_text_error.MariaGtidTextError.TheVariants as errors
use Rattle.binlog_maria_gtids.specs.GtidReading.{has_digits_alone, value_in, number_in, is_hyphen, has_hyphen, gtid_of, gtid_by, gtid_in, is_comma, parts_of, AreRead, IsFaultIn, IsInvalid}
use Rattle.binlog_maria_gtids.specs.GtidTexts.{AreDigitsOf, IsGtidText, AreGtidTexts}
use Rattle.binlog_maria_gtids.proofs.GtidParts.{both_parts}

-- ---- numbers

value_by : (bits : ℕ) (ds : List ℕ) (n : ℕ) (small : Bool) → ltb (digits_value 10 ds) (2 ^ bits) ≡ small → (ltb 0 (length ds) ≡ true) × (list_all is_ascii_digit ds ≡ true)
    → cond small (Ok (digits_value 10 ds)) (Err Range) ≡ Ok n → AreDigitsOf bits ds n
value_by bits ds n false h alone is = absurd cc
value_by bits ds n true h alone is =
    let same : digits_value 10 ds ≡ n = cc in
    record { some = ltb-true 0 (length ds) alone.0; all = alone.1; value = same; fits = subst (λ (m : ℕ). m < 2 ^ bits) same (ltb-true (digits_value 10 ds) (2 ^ bits) h) }

digits_by : (bits : ℕ) (ds : List ℕ) (n : ℕ) (alone : Bool) → has_digits_alone ds ≡ alone → cond alone (value_in bits ds) (Err Number) ≡ Ok n → AreDigitsOf bits ds n
digits_by bits ds n false h is = absurd cc
digits_by bits ds n true h is = value_by bits ds n (ltb (digits_value 10 ds) (2 ^ bits)) refl (both_parts (ltb 0 (length ds)) (list_all is_ascii_digit ds) h) is

digits_from : (bits : ℕ) (ds : List ℕ) (n : ℕ) → number_in bits ds ≡ Ok n → AreDigitsOf bits ds n
digits_from bits ds n is = digits_by bits ds n (has_digits_alone ds) refl is

number_from : (bits : ℕ) (ds : List ℕ) (n : ℕ) → AreDigitsOf bits ds n → number_in bits ds ≡ Ok n
number_from bits ds n are =
    let small : ltb (digits_value 10 ds) (2 ^ bits) ≡ true = lt-ltb (digits_value 10 ds) (2 ^ bits) (subst (λ (m : ℕ). m < 2 ^ bits) (sym are.value) are.fits) in
    rw (lt-ltb 0 (length ds) are.some, are.all, small) (ap (λ (m : ℕ). Ok m) are.value)

-- ---- a GTID is read

split_hyphen : (text : List ℕ) → has_hyphen text ≡ true → text ≡ before_first is_hyphen text ++ (45 ∷ after_first is_hyphen text)
split_hyphen text has =
    let within = ltb-true (position_or_len is_hyphen text) (length text) has in
    let there : get_or text (position_or_len is_hyphen text) 0 ≡ 45 = eqb-true (get_or text (position_or_len is_hyphen text) 0) 45 (passes_at_first is_hyphen text 0 within) in
    split_at_first is_hyphen text 0 within ∙ ap (λ (b : ℕ). before_first is_hyphen text ++ (b ∷ after_first is_hyphen text)) there

module _ (text domain server_id sequence : List ℕ) (whole : text ≡ domain ++ (45 ∷ (server_id ++ (45 ∷ sequence)))) (gtid : MariaGtid) where
  numbers_by : (d s n : Result ℕ MariaGtidFault) → number_in 32 domain ≡ d → number_in 32 server_id ≡ s → number_in 64 sequence ≡ n → gtid_of d s n ≡ Ok gtid → IsGtidText text gtid
  numbers_by (Err f) s n dh sh nh is = absurd cc
  numbers_by (Ok d) (Err f) n dh sh nh is = absurd cc
  numbers_by (Ok d) (Ok s) (Err f) dh sh nh is = absurd cc
  numbers_by (Ok d) (Ok s) (Ok n) dh sh nh is =
      let same : ◌≡◌ {A = MariaGtid} (record { domain = d; server_id = s; sequence = n }) gtid = cc in
      subst (IsGtidText text) same (record {
        domain = domain;
        server_id = server_id;
        sequence = sequence;
        whole = whole;
        domain_is = digits_from 32 domain d dh;
        server_id_is = digits_from 32 server_id s sh;
        sequence_is = digits_from 64 sequence n nh;
      })

rest_by : (text domain rest : List ℕ) (gtid : MariaGtid) (b : Bool) → text ≡ domain ++ (45 ∷ rest) → has_hyphen rest ≡ b
    → cond b (gtid_of (number_in 32 domain) (number_in 32 (before_first is_hyphen rest)) (number_in 64 (after_first is_hyphen rest))) (Err Hyphens) ≡ Ok gtid → IsGtidText text gtid
rest_by text domain rest gtid false whole has is = absurd cc
rest_by text domain rest gtid true whole has is =
    numbers_by text domain (before_first is_hyphen rest) (after_first is_hyphen rest) (whole ∙ ap (λ (r : List ℕ). domain ++ (45 ∷ r)) (split_hyphen rest has)) gtid
    (number_in 32 domain) (number_in 32 (before_first is_hyphen rest)) (number_in 64 (after_first is_hyphen rest)) refl refl refl is

text_by : (text : List ℕ) (gtid : MariaGtid) (b : Bool) → has_hyphen text ≡ b → cond b (gtid_by (before_first is_hyphen text) (after_first is_hyphen text)) (Err Hyphens) ≡ Ok gtid → IsGtidText text gtid
text_by text gtid false has is = absurd cc
text_by text gtid true has is =
    rest_by text (before_first is_hyphen text) (after_first is_hyphen text) gtid (has_hyphen (after_first is_hyphen text)) (split_hyphen text has) refl is

pub text_from_gtid : (text : List ℕ) (gtid : MariaGtid) → gtid_in text ≡ Ok gtid → IsGtidText text gtid
unfolding gtid_in
text_from_gtid text gtid is = text_by text gtid (has_hyphen text) refl is

-- ---- the text of a GTID is read

digit_no_hyphen : (b : ℕ) → is_ascii_digit b ≡ true → is_hyphen b ≡ false
digit_no_hyphen b digit = grind (arith, nat_tests)

digit_no_comma : (b : ℕ) → is_ascii_digit b ≡ true → is_comma b ≡ false
digit_no_comma b digit = grind (arith, nat_tests)

first_step : (b : ℕ) (s : List ℕ) (n : ℕ) → is_hyphen b ≡ false → position_or_len is_hyphen s ≡ n → position_or_len is_hyphen (b ∷ s) ≡ suc n
first_step b s n other rest = rw other (omega (arith, rest))

first_at : (ds more : List ℕ) → list_all is_ascii_digit ds ≡ true → position_or_len is_hyphen (ds ++ (45 ∷ more)) ≡ length ds
first_at [] more h = refl
first_at (d ∷ ds) more h =
    let parts = both_parts (is_ascii_digit d) (list_all is_ascii_digit ds) h in
    first_step d (ds ++ (45 ∷ more)) (length ds) (digit_no_hyphen d parts.0) (first_at ds more parts.1)

module _ (ds more : List ℕ) (all : list_all is_ascii_digit ds ≡ true) where
  has_it : has_hyphen (ds ++ (45 ∷ more)) ≡ true
  has_it = lt-ltb (position_or_len is_hyphen (ds ++ (45 ∷ more))) (length (ds ++ (45 ∷ more))) (omega (arith, first_at ds more all, length-append ds (45 ∷ more)))

  before_it : before_first is_hyphen (ds ++ (45 ∷ more)) ≡ ds
  before_it = ap (λ (k : ℕ). take k (ds ++ (45 ∷ more))) (first_at ds more all) ∙ take-append_seam ds (45 ∷ more)

  after_it : after_first is_hyphen (ds ++ (45 ∷ more)) ≡ more
  after_it = ap (λ (k : ℕ). drop (k + 1) (ds ++ (45 ∷ more))) (first_at ds more all) ∙ drop-append-add ds (45 ∷ more) 1

rest_read : (domain server_id sequence : List ℕ) (gtid : MariaGtid) → AreDigitsOf 32 domain gtid.domain → AreDigitsOf 32 server_id gtid.server_id → AreDigitsOf 64 sequence gtid.sequence
    → gtid_by domain (server_id ++ (45 ∷ sequence)) ≡ Ok gtid
rest_read domain server_id sequence gtid d s n =
    rw (has_it server_id sequence s.all, before_it server_id sequence s.all, after_it server_id sequence s.all, number_from 32 domain gtid.domain d, number_from 32 server_id gtid.server_id s, number_from 64 sequence gtid.sequence n) refl

whole_read : (domain rest : List ℕ) (gtid : MariaGtid) → list_all is_ascii_digit domain ≡ true → gtid_by domain rest ≡ Ok gtid → gtid_in (domain ++ (45 ∷ rest)) ≡ Ok gtid
unfolding gtid_in
whole_read domain rest gtid all is = rw (has_it domain rest all, before_it domain rest all, after_it domain rest all) is

pub gtid_from_text : (text : List ℕ) (gtid : MariaGtid) → IsGtidText text gtid → gtid_in text ≡ Ok gtid
gtid_from_text text gtid is =
    ap gtid_in is.whole
    ∙ whole_read is.domain (is.server_id ++ (45 ∷ is.sequence)) gtid is.domain_is.all (rest_read is.domain is.server_id is.sequence gtid is.domain_is is.server_id_is is.sequence_is)

-- ---- a list is read

abbrev Comma : ℕ → Type 0
Comma b = is_comma b ≡ false

no_comma : (ds : List ℕ) → list_all is_ascii_digit ds ≡ true → All Comma ds
no_comma [] h = All-nil Comma
no_comma (d ∷ ds) h =
    let parts = both_parts (is_ascii_digit d) (list_all is_ascii_digit ds) h in
    All-cons Comma d ds (digit_no_comma d parts.0) (no_comma ds parts.1)

gtid_no_comma : (text : List ℕ) (gtid : MariaGtid) → IsGtidText text gtid → All Comma text
gtid_no_comma text gtid is =
    let sequence = All-cons Comma 45 is.sequence refl (no_comma is.sequence is.sequence_is.all) in
    let rest = All-append Comma is.server_id (45 ∷ is.sequence) (no_comma is.server_id is.server_id_is.all) sequence in
    let all = All-append Comma is.domain (45 ∷ (is.server_id ++ (45 ∷ is.sequence))) (no_comma is.domain is.domain_is.all) (All-cons Comma 45 (is.server_id ++ (45 ∷ is.sequence)) refl rest) in
    subst (All Comma) (sym is.whole) all

pub read_from_texts : (gtids : List MariaGtid) (text : List ℕ) → AreGtidTexts text gtids → AreRead (parts_of text) gtids
read_from_texts [] text texts = absurd texts
read_from_texts (g ∷ []) text is = ap (map gtid_in) (slice_split_none is_comma text (gtid_no_comma text g is)) ∙ ap (λ (r : Result MariaGtid MariaGtidFault). r ∷ []) (gtid_from_text text g is)
read_from_texts (g ∷ h ∷ gs) text (first, rest, whole, is, texts) =
    let split : parts_of text ≡ first ∷ parts_of rest = ap parts_of whole ∙ slice_split_at is_comma first 44 rest (gtid_no_comma first g is) refl in
    ap (map gtid_in) split
    ∙ ap (λ (r : Result MariaGtid MariaGtidFault). r ∷ map gtid_in (parts_of rest)) (gtid_from_text first g is)
    ∙ ap (λ (rs : List (Result MariaGtid MariaGtidFault)). Ok g ∷ rs) (read_from_texts (h ∷ gs) rest texts)

-- ---- what is read is a list of texts

abbrev Read : Type 0
Read = Result MariaGtid MariaGtidFault

one_text : (text : List ℕ) (g : MariaGtid) (gs : List MariaGtid) → IsGtidText text g → ◌≡◌ {A = List Read} [] (map Ok gs) → AreGtidTexts text (g ∷ gs)
one_text text g [] is none = is
one_text text g (h ∷ gs) is none = absurd cc

more_texts : (text first rest : List ℕ) (g : MariaGtid) (gs : List MariaGtid) → text ≡ first ++ (44 ∷ rest) → IsGtidText first g → AreGtidTexts rest gs → AreGtidTexts text (g ∷ gs)
more_texts text first rest g [] whole is texts = absurd texts
more_texts text first rest g (h ∷ gs) whole is texts = (first, rest, whole, is, texts)

heads : (r s : Read) (rs ss : List Read) → r ∷ rs ≡ s ∷ ss → (r ≡ s) × (rs ≡ ss)
heads r s rs ss h = (cc, cc)

split_comma : (text : List ℕ) → position_or_len is_comma text < length text → text ≡ before_first is_comma text ++ (44 ∷ after_first is_comma text)
split_comma text within =
    let there : get_or text (position_or_len is_comma text) 0 ≡ 44 = eqb-true (get_or text (position_or_len is_comma text) 0) 44 (passes_at_first is_comma text 0 within) in
    split_at_first is_comma text 0 within ∙ ap (λ (b : ℕ). before_first is_comma text ++ (b ∷ after_first is_comma text)) there

pub texts_from_read : (gtids : List MariaGtid) (text : List ℕ) → AreRead (parts_of text) gtids → AreGtidTexts text gtids
texts_from_read [] text read = absurd (omega (arith, length-slice_split is_comma text, length-map (parts_of text) gtid_in, ap length read))
texts_from_read (g ∷ gs) text read = elim (cases_lt (position_or_len is_comma text) (length text)) [
  | inl within ↦ (
      let first = before_first is_comma text in
      let rest = after_first is_comma text in
      let both = heads (gtid_in first) (Ok g) (map gtid_in (parts_of rest)) (map Ok gs) (ap (map gtid_in) (sym (slice_split_first is_comma text 0 within)) ∙ read) in
      more_texts text first rest g gs (split_comma text within) (text_from_gtid first g both.0) (texts_from_read gs rest both.1)
      )
  | inr none ↦ (
      let alone : parts_of text ≡ text ∷ [] = slice_split_none is_comma text (λ k d less. fails_before_first is_comma text k d (omega arith)) in
      let both = heads (gtid_in text) (Ok g) [] (map Ok gs) (ap (map gtid_in) (sym alone) ∙ read) in
      one_text text g gs (text_from_gtid text g both.0) both.1
      )
]

-- ---- laws

same_gtids : (gs hs : List MariaGtid) → ◌≡◌ {A = List Read} (map Ok gs) (map Ok hs) → gs ≡ hs
same_gtids [] [] same = refl
same_gtids [] (h ∷ hs) same = absurd cc
same_gtids (g ∷ gs) [] same = absurd cc
same_gtids (g ∷ gs) (h ∷ hs) same =
    let both = heads (Ok g) (Ok h) (map Ok gs) (map Ok hs) same in
    let first : g ≡ h = let e = both.0 in cc in
    ap (λ (x : MariaGtid). x ∷ gs) first ∙ ap (λ (xs : List MariaGtid). h ∷ xs) (same_gtids gs hs both.1)

pub one_list : (text : List ℕ) (gs hs : List MariaGtid) → AreGtidTexts text gs → AreGtidTexts text hs → gs ≡ hs
one_list text gs hs first second = same_gtids gs hs (sym (read_from_texts gs text first) ∙ read_from_texts hs text second)

all_read : (parts : List (List ℕ)) (gs : List MariaGtid) (i : ℕ) (f : MariaGtidFault) → AreRead parts gs → i < length parts → gtid_in (get_or parts i []) ≡ Err f → ⊥
all_read [] gs i f read within wrong = absurd (omega arith)
all_read (p ∷ ps) [] i f read within wrong = absurd cc
all_read (p ∷ ps) (g ∷ gs) zero f read within wrong =
    let both = heads (gtid_in p) (Ok g) (map gtid_in ps) (map Ok gs) read in
    let clash : ◌≡◌ {A = Read} (Ok g) (Err f) = sym both.0 ∙ wrong in
    cc
all_read (p ∷ ps) (g ∷ gs) (suc i) f read within wrong =
    let both = heads (gtid_in p) (Ok g) (map gtid_in ps) (map Ok gs) read in
    all_read ps gs i f both.1 (omega arith) wrong

pub no_fault : (text : List ℕ) (gs : List MariaGtid) (e : MariaGtidTextError) → AreGtidTexts text gs → IsInvalid text e → ⊥
no_fault text gs (errors.Invalid fault number) texts at = all_read (parts_of text) gs at.index fault (read_from_texts gs text texts) at.within at.wrong
no_fault text gs errors.Memory texts at = at

abbrev IsReadOrNot : List (List ℕ) → Type 0
IsReadOrNot parts = ((gs : List MariaGtid) × AreRead parts gs) ⊎ ((f : MariaGtidFault) × (n : ℕ) × IsFaultIn parts f n)

read_or_not_by : (p : List ℕ) (ps : List (List ℕ)) (r : Read) → gtid_in p ≡ r → IsReadOrNot ps → IsReadOrNot (p ∷ ps)
read_or_not_by p ps (Err f) is rest = inr (f, 1, record { index = 0; within = omega arith; gtids = []; before = refl; wrong = is; counted = refl })
read_or_not_by p ps (Ok g) is (inl (gs, read)) =
    inl (g ∷ gs, ap (λ (r : Read). r ∷ map gtid_in ps) is ∙ ap (λ (rs : List Read). Ok g ∷ rs) read)
read_or_not_by p ps (Ok g) is (inr (f, n, at)) = inr (
  f,
  n + 1,
  record {
    index = suc at.index;
    within = omega (arith, at.within);
    gtids = g ∷ at.gtids;
    before = ap (λ (r : Read). r ∷ map gtid_in (take at.index ps)) is ∙ ap (λ (rs : List Read). Ok g ∷ rs) at.before;
    wrong = at.wrong;
    counted = omega (arith, at.counted);
  },
)

read_or_not : (parts : List (List ℕ)) → IsReadOrNot parts
read_or_not [] = inl ([], refl)
read_or_not (p ∷ ps) = read_or_not_by p ps (gtid_in p) refl (read_or_not ps)

reading_of : (text : List ℕ) → IsReadOrNot (parts_of text) → ((gs : List MariaGtid) × AreGtidTexts text gs) ⊎ ((e : MariaGtidTextError) × IsInvalid text e)
reading_of text (inl (gs, read)) = inl (gs, texts_from_read gs text read)
reading_of text (inr (f, n, at)) = inr (errors.Invalid f n, at)

pub some_reading : (text : List ℕ) → ((gs : List MariaGtid) × AreGtidTexts text gs) ⊎ ((e : MariaGtidTextError) × IsInvalid text e)
some_reading text = reading_of text (read_or_not (parts_of text))
