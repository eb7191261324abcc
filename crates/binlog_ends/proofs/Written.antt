-- What was written of some bytes.
use Rattle.std.proofs.Common.{◌≡◌, ℕ, List, [], ◌++◌, ◌-◌, length, take, drop, Option, Some, None, refl, sym, ap, subst, ◌∙◌, arith, append_assoc, append-nil}
use Rattle.std.proofs.lemmas.List.{take-append-drop, nil_from_length, take_all, length-drop}
use Rattle.std.specs.Io.KnownBytes.{Appends, Keeps}
use Rattle.std.proofs.KnownBytes.{Appends-nil, Appends-trans}
use Rattle.binlog_ends.specs.Counts.{AppendsFront}

-- All of the bytes but the rest are written.
pub record IsWritten (old new : Option (List ℕ)) (bytes rest : List ℕ) : Type 0 where
  pub front : List ℕ
  pub whole : bytes ≡ front ++ rest
  pub written : Appends old new front

pub written_none : (old : Option (List ℕ)) (bytes : List ℕ) → IsWritten old old bytes bytes
written_none old bytes = record { front = []; whole = refl; written = Appends-nil old }

-- One write wrote some of them.
pub written_more : (old mid new : Option (List ℕ)) (bytes rest after : List ℕ) (count : ℕ) → IsWritten old mid bytes rest → Appends mid new (take count rest) → after ≡ drop count rest → IsWritten old new bytes after
written_more old mid new bytes rest after count so_far more e = record {
  front = so_far.front ++ take count rest;
  whole = so_far.whole ∙ ap (λ s. so_far.front ++ s) (sym (take-append-drop count rest) ∙ ap (λ s. take count rest ++ s) (sym e)) ∙ sym (append_assoc so_far.front (take count rest) after);
  written = Appends-trans old mid new _ _ so_far.written more;
}

pub rest_behind : (rest : List ℕ) (count : ℕ) → take (length rest - count) (drop count rest) ≡ drop count rest
rest_behind rest count = take_all (length rest - count) (drop count rest) (omega (arith, length-drop count rest))

pub written_all : (old new : Option (List ℕ)) (bytes rest : List ℕ) → IsWritten old new bytes rest → length rest ≡ 0 → Appends old new bytes
written_all old new bytes rest so_far none =
    subst (Appends old new) (sym (so_far.whole ∙ ap (λ s. so_far.front ++ s) (nil_from_length rest none) ∙ append-nil so_far.front)) so_far.written

appends_nothing : (old new : Option (List ℕ)) → Keeps old new → Appends old new []
appends_nothing None new kept = tt
appends_nothing (Some xs) None kept = absurd kept
appends_nothing (Some xs) (Some ys) kept = kept ∙ sym (append-nil xs)

-- One write wrote none of them.
pub written_kept : (old mid new : Option (List ℕ)) (bytes rest : List ℕ) → IsWritten old mid bytes rest → Keeps mid new → IsWritten old new bytes rest
written_kept old mid new bytes rest so_far kept = written_more old mid new bytes rest rest 0 so_far (appends_nothing mid new kept) refl

-- A prefix of them is written.
pub written_front : (old new : Option (List ℕ)) (bytes rest : List ℕ) → IsWritten old new bytes rest → AppendsFront old new bytes
written_front old new bytes rest so_far = record { front = so_far.front; cut = rest; whole = so_far.whole; written = so_far.written }

-- A write that failed leaves a prefix of them written.
pub written_failed : (old mid new : Option (List ℕ)) (bytes rest : List ℕ) → IsWritten old mid bytes rest → Keeps mid new → AppendsFront old new bytes
written_failed old mid new bytes rest so_far kept = written_front old new bytes rest (written_kept old mid new bytes rest so_far kept)
