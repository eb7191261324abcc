-- A GTID without a tag, written part by part: its bytes are those of its parts, and so is their number.
use Rattle.std.proofs.Common.{◌≡◌, ℕ, ◌+◌, List, length, ◌++◌, arith, Bool, true, false, cond, [], ◌∷◌, subst, ◌∙◌, append_assoc, ap}
use Rattle.std.proofs.lemmas.List.{length-append}
use Rattle.binlog_wire.specs.Fields.{little_bytes}
use Rattle.binlog_wire.specs.Laws.Numbers.{length-little_bytes}
use Rattle.binlog_variable_fields.specs.LenEnc.{lenenc_written}
use Rattle.binlog_variable_fields.specs.Announced.{announced_written, behind_written}
use Rattle.binlog_gtids.specs.Untagged.{Clock, clock, head, clock_of, clock_if, head_of, logical_in, times_in, length_in, versions_in, logical_times}
use Rattle.binlog_gtids.specs.declared.gtid_event.GtidEvent.{GtidEvent}
use Rattle.binlog_gtids.specs.Formats.{untagged}

-- ---- the length of the written bytes

-- The logical timestamps have 16 bytes.
pub length-logical_times : (a b : ℕ) → length (logical_times.written (a, b)) ≡ 16
length-logical_times a b = omega (arith, length-append (little_bytes 8 a) (little_bytes 8 b), length-little_bytes 8 a, length-little_bytes 8 b)

pub clock_length : (c : Clock) → length (clock.written c)
    ≡ 16 + length (announced_written 7 36028797018963968 (times_in c)) + length (lenenc_written (length_in c)) + length (announced_written 4 2147483648 (versions_in c))
clock_length c =
    let a : List ℕ = little_bytes 8 (logical_in c).0 in
    let b : List ℕ = little_bytes 8 (logical_in c).1 in
    let x : List ℕ = announced_written 7 36028797018963968 (times_in c) in
    let y : List ℕ = lenenc_written (length_in c) in
    let z : List ℕ = announced_written 4 2147483648 (versions_in c) in
    omega (arith, length-append (a ++ b) (x ++ (y ++ z)), length-append a b, length-append x (y ++ z), length-append y z, length-little_bytes 8 (logical_in c).0, length-little_bytes 8 (logical_in c).1)

-- The encoding of an event, with a clock or without.
abbrev pub written_by : GtidEvent → Bool → List ℕ
written_by g b = head.written (head_of g) ++ behind_written 2 clock.written (clock_if b (clock_of g))

pub head_length : (g : GtidEvent) → length g.sid ≡ 16 → length (head.written (head_of g)) ≡ 25
head_length g sid =
    omega (arith, length-append (little_bytes 1 g.flags) (g.sid ++ little_bytes 8 g.gno), length-append g.sid (little_bytes 8 g.gno), length-little_bytes 1 g.flags, length-little_bytes 8 g.gno, sid)

length_by : (g : GtidEvent) (b : Bool) → length g.sid ≡ 16 → length (written_by g b) ≡ cond b (26 + length (clock.written (clock_of g))) 25
length_by g true sid =
    omega (arith, head_length g sid, length-append (head.written (head_of g)) (2 ∷ clock.written (clock_of g)))
length_by g false sid =
    omega (arith, head_length g sid, length-append (head.written (head_of g)) [])

-- With a clock if b is true, else without one.
pub untagged_length : (g : GtidEvent) (b : Bool) → g.has_clock ≡ b → length g.sid ≡ 16 → length (untagged.written g) ≡ cond b (26 + length (clock.written (clock_of g))) 25
untagged_length g b e sid = subst (λ (x : Bool). length (written_by g g.has_clock) ≡ cond x (26 + length (clock.written (clock_of g))) 25) e (length_by g g.has_clock sid)

-- Parts appended one after the other.
pub put_four : (s a x y z p q r t : List ℕ) → p ≡ s ++ a → q ≡ p ++ x → r ≡ q ++ y → t ≡ r ++ z → t ≡ s ++ (a ++ (x ++ (y ++ z)))
put_four s a x y z p q r t e f g h =
    rw (h, g, f, e) (append_assoc ((s ++ a) ++ x) y z ∙ append_assoc (s ++ a) x (y ++ z) ∙ append_assoc s a (x ++ (y ++ z)))

pub put_marked : (s h k p q r : List ℕ) (mark : ℕ) → p ≡ s ++ h → q ≡ p ++ mark ∷ [] → r ≡ q ++ k → r ≡ s ++ (h ++ mark ∷ k)
put_marked s h k p q r mark e f g = rw (g, f, e) (append_assoc (s ++ h) (mark ∷ []) k ∙ append_assoc s h (mark ∷ k))

pub untagged_bytes : (g : GtidEvent) (b : Bool) → g.has_clock ≡ b → untagged.written g ≡ written_by g b
untagged_bytes g b e = ap (written_by g) e
