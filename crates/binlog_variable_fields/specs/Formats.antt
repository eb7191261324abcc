-- The formats of this crate, with the laws that a format has as members.
use Rattle.std.proofs.Common.{ℕ, ◌^◌, ◌<◌, refl, Result, ◌≡◌, Bool, true, ◌+◌, ◌*◌, ◌≤◌, List, length, subst, ◌∙◌, sym, ap, ◌-◌, [], ◌++◌, append_assoc, arith, Option}
use Rattle.std.specs.Prelude.{ℤ}
use Rattle.std.proofs.lemmas.List.{append-nil, length-append}
use Rattle.binlog_wire.specs.Formats.{Place, Format, seen_as, anywhere, then, made, last}
use Rattle.binlog_wire.specs.declared.error.Invalid.{Invalid}
use Rattle.binlog_wire.specs.Fields.{read_decoded}
use Rattle.binlog_variable_fields.specs.LenEnc.{lenenc_at, lenenc_written, IsLenEnc}
use Rattle.binlog_variable_fields.specs.Laws.LenEnc.{keeps_lenenc, lenenc_writes, lenenc_long}
use Rattle.binlog_variable_fields.specs.Varlen.{IsVarlen, varlen_at, varlen_written}
use Rattle.binlog_variable_fields.specs.Laws.Varlen.{keeps_varlen}
use Rattle.binlog_variable_fields.specs.Laws.VarlenWriting.{varlen_long, varlen_writes}
use Rattle.binlog_variable_fields.specs.Laws.Signed.{zigzag_forth, zigzag_back}
use Rattle.binlog_variable_fields.specs.Signed.{unzigzag, zigzag}
use Rattle.binlog_variable_fields.specs.Chosen.{IsChosen, IsChoice, passes}
use Rattle.binlog_variable_fields.specs.Laws.Chosen.{keeps_chosen, passes_choice}
use Rattle.binlog_variable_fields.specs.Laws.Repeated.{keeps_times, each_writes, each_again, each_twice, each_settled, length-each_normal, each_long}
use Rattle.binlog_variable_fields.specs.Repeated.{IsTimes, EachFits, each_normal, each_written, times_at}
use Rattle.binlog_variable_fields.specs.Within.{IsWithin, within_at, IsUntil, IsEnd, until_at}
use Rattle.binlog_variable_fields.specs.Laws.Within.{within_sound, within_complete, keeps_until}
use Rattle.binlog_variable_fields.specs.Laws.Announced.{announced_choice, announced_same, behind_again, keeps_behind, behind_twice, behind_settled, behind_long, behind_writes}
use Rattle.binlog_variable_fields.specs.Announced.{announced_code, announced_fields, announced_of, FitsAnnounced, announced_written, behind_normal, behind_at, FitsBehind, IsBehind, behind_written}

-- The format of a length-encoded integer.
abbrev pub lenenc : {place : Place} → Format place ℕ
lenenc = record {
  spells = IsLenEnc;
  reads = lenenc_at;
  written = lenenc_written;
  normal = λ n. n;
  Fits = λ n. n < 256 ^ 8;
  least = 1;
  keeps = keeps_lenenc;
  writes = λ n r fits follows. lenenc_writes n r fits;
  settled = λ s n r h. refl;
  twice = λ n. refl;
  again = λ n fits. refl;
  long = lenenc_long;
}

-- The format of a variable-length integer.
abbrev pub varlen : {place : Place} → Format place ℕ
varlen = record {
  spells = IsVarlen;
  reads = varlen_at;
  written = varlen_written;
  normal = λ n. n;
  Fits = λ n. n < 256 ^ 8;
  least = 1;
  keeps = keeps_varlen;
  writes = λ n r fits follows. varlen_writes n r fits;
  settled = λ s n r h. refl;
  twice = λ n. refl;
  again = λ n fits. refl;
  long = varlen_long;
}

-- The format of a signed variable-length integer.
abbrev pub varlen_signed : {place : Place} → Format place ℤ
varlen_signed = seen_as unzigzag zigzag zigzag_back zigzag_forth varlen

-- The format of a value that is decoded from fields; `code` chooses the fields to be written.
abbrev pub chosen : {place : Place} {A B : Type 0} (decode : A → Result B Invalid) (code : B → A) (normal : B → B) (Fits : B → Type 0) (f : Format place A)
    → IsChoice f decode code normal Fits → Format place B
chosen {place} {A} {B} decode code normal Fits f law = record {
  spells = IsChosen decode f.spells;
  reads = λ s. read_decoded decode (f.reads s);
  written = λ b. f.written (code b);
  normal = normal;
  Fits = Fits;
  least = f.least;
  keeps = keeps_chosen decode f.keeps;
  writes = λ b r fits follows. (f.normal (code b), law.shows b fits, f.writes (code b) r (law.fits b fits) follows);
  settled = λ s b r h. law.settled s h.0 r b h.2 h.1;
  twice = law.twice;
  again = law.again;
  long = λ s b r h. f.long s h.0 r h.2;
}

-- ---- a value that has to pass a test

-- A value that has to pass a test, in a format whose normal form is the value itself.
abbrev pub tested : {place : Place} {V : Type 0} (f : Format place V) → ((v : V) → f.normal v ≡ v) → (V → Bool) → Invalid → Format place V
tested f same test why = chosen (passes test why) (λ v. v) (λ v. v) (λ v. f.Fits v × (test v ≡ true)) f (passes_choice f same test why)

-- n values of a format in sequence. By `long`, no more values are read than there are bytes for.
abbrev pub times : {place : Place} {V : Type 0} → ℕ → Format anywhere V → Format place (List V)
times n f = record {
  spells = IsTimes n f.spells;
  reads = times_at n f.reads;
  written = each_written f.written;
  normal = each_normal f.normal;
  Fits = λ vs. (length vs ≡ n) × EachFits f.Fits vs;
  least = n * f.least;
  keeps = keeps_times f.keeps n;
  writes = λ vs r fits follows. (length-each_normal f.normal vs ∙ fits.0, each_writes f vs r fits.1);
  settled = λ s vs r h. each_settled f s vs r h.1;
  twice = each_twice f;
  again = λ vs fits. each_again f vs fits.1;
  long = λ s vs r h. subst (λ (k : ℕ). k * f.least + length r ≤ length s) h.0 (each_long f s vs r h.1);
}

-- A count, whose format keeps it unchanged, and then as many values.
abbrev pub counted : {place : Place} {V : Type 0} (count : Format anywhere ℕ) → ((n : ℕ) → count.normal n ≡ n) → Format anywhere V → Format place (List V)
counted {place} {V} count same f = made {A = ℕ × List V} (λ x. x.1) (λ vs. (length vs, vs)) (then count (λ n. times n f))
    (λ s x r h. ap (λ (n : ℕ). (n, x.1)) h.2.0)
    (λ vs. ap (λ (n : ℕ). (n, each_normal f.normal vs)) (length-each_normal f.normal vs ∙ sym (same (length vs))))

-- ---- a size that counts the whole that it is in

-- The format of a head that states the size of the whole, and a part that ends with that size.
abbrev pub within : {place : Place} {H V : Type 0} (head : Format anywhere H) (size : H → ℕ) (why : ℕ → Invalid) (f : H → Format last V)
    → ((h : H) (s : List ℕ) (v : V) (r : List ℕ) → (f h).spells s v r → r ≡ []) → Format place (H × V)
within {place} {H} {V} head size why f whole = record {
  spells = IsWithin head.spells size (λ h. (f h).spells);
  reads = within_at head.reads size why (λ h. (f h).reads);
  written = λ x. head.written x.0 ++ (f x.0).written x.1;
  normal = λ x. (x.0, (f x.0).normal x.1);
  Fits = λ x. head.Fits x.0 × (head.normal x.0 ≡ x.0) × (f x.0).Fits x.1 × (size x.0 ≡ length (head.written x.0) + length ((f x.0).written x.1));
  least = head.least;
  keeps = record { sound = within_sound head size why f whole; complete = within_complete head size why f };
  writes = λ x r fits follows.
      let first : List ℕ = head.written x.0 in
      let m : List ℕ = (f x.0).written x.1 in
      let spelled : head.spells ((first ++ m) ++ r) (head.normal x.0) (m ++ r) =
      subst (λ (s : List ℕ). head.spells s (head.normal x.0) (m ++ r)) (sym (append_assoc first m r)) (head.writes x.0 (m ++ r) fits.0 tt) in (
        m,
        subst (λ (h : H). head.spells ((first ++ m) ++ r) h (m ++ r)) fits.1 spelled,
        omega (arith, fits.3, length-append (first ++ m) r, length-append first m),
        subst (λ (s : List ℕ). (f x.0).spells s ((f x.0).normal x.1) []) (append-nil m) ((f x.0).writes x.1 [] fits.2 refl),
      );
  settled = λ s x r h. ap (λ (v : V). (x.0, v)) ((f x.0).settled h.0 x.1 [] h.3);
  twice = λ x. ap (λ (v : V). (x.0, v)) ((f x.0).twice x.1);
  again = λ x fits. ap (λ (s : List ℕ). head.written x.0 ++ s) ((f x.0).again x.1 fits.2);
  long = λ s x r h. omega (arith, head.long s x.0 (h.0 ++ r) h.1, length-append h.0 r);
}

-- ---- values up to the end of the bytes, or up to bytes that end them

-- Values in sequence, until no bytes are left or bytes end them; such bytes aren't written.
abbrev pub until : {V : Type 0} (f : Format anywhere V) (End : List ℕ → Type 0) (test : List ℕ → Bool) → IsEnd f End test → Format last (List V)
until f End test law = record {
  spells = IsUntil f.spells End;
  reads = until_at test f.reads;
  written = each_written f.written;
  normal = each_normal f.normal;
  Fits = EachFits f.Fits;
  least = 0;
  keeps = keeps_until f End test law;
  writes = λ vs r fits follows. (r, each_writes f vs r fits, subst End (sym follows) law.nothing, follows);
  settled = λ s vs r h. each_settled f s vs h.0 h.1;
  twice = each_twice f;
  again = λ vs fits. each_again f vs fits;
  long = λ s vs r h. rw h.3 (omega arith);
}

-- ---- a top bit that announces an original value

-- The same as `announced`, with its written bytes as `chosen` states them.
abbrev pub announced_plain : {place : Place} (k half : ℕ) → half + half ≡ 256 ^ k → Format place (ℕ × ℕ)
announced_plain {place} k half e = chosen (announced_of half) (announced_code half) (λ v. v) (FitsAnnounced k half) (announced_fields k half) (announced_choice {place = place} k half e)

-- An immediate and an original value of k bytes each. The original follows exactly where the top bit of the first is
-- set; where it is absent, it equals the immediate one. It is written only where it differs.
abbrev pub announced : {place : Place} (k half : ℕ) → half + half ≡ 256 ^ k → Format place (ℕ × ℕ)
announced {place} k half e = record (announced_plain {place = place} k half e) {
  written = announced_written k half;
  writes = λ v r fits follows.
      subst (λ (s : List ℕ). (announced_plain {place = place} k half e).spells (s ++ r) v r) (announced_same place k half v fits)
      ((announced_plain {place = place} k half e).writes v r fits follows);
  again = λ v fits. refl;
}

-- ---- a part after a mark byte

-- A format after a mark byte, present where the next byte is that mark. It has to be at the end, since an absent part
-- couldn't be told from bytes after it.
abbrev pub behind : {V : Type 0} → ℕ → Format last V → Format last (Option V)
behind mark f = record {
  spells = IsBehind mark f.spells;
  reads = behind_at mark f.reads;
  written = behind_written mark f.written;
  normal = behind_normal f.normal;
  Fits = FitsBehind f.Fits;
  least = 0;
  keeps = keeps_behind mark f.keeps;
  writes = behind_writes mark f;
  settled = behind_settled mark f;
  twice = behind_twice f;
  again = behind_again mark f;
  long = behind_long mark f;
}
