-- A body of fixed length is refused as `ends` exactly where there are fewer bytes.
use Rattle.std.specs.Prelude.{◌≡◌, ◌↔◌, ℕ, ◌+◌, ◌<◌, List, length}
use Rattle.std.proofs.Common.{[], Err}
use Rattle.binlog_consts.specs.Codes.{subtype_of}
use Rattle.binlog_wire.specs.Fields.{number_at, coded_at, rest_at, then_at, unit_at, skipped_at}
use Rattle.binlog_wire.specs.Reading.{ends}
use Rattle.binlog_wire.specs.Laws.Lengths.{takes_number, takes_coded, takes_then, seen_ends, unit_ends, number_ends, skipped_ends}
use Rattle.binlog_bodies.specs.Intvar.{intvar, intvar_of}
use Rattle.binlog_bodies.specs.Rand.{rand, rand_of}
use Rattle.binlog_bodies.specs.Rotate.{rotate, rotate_of}
use Rattle.binlog_bodies.specs.Xid.{xid}

pub rotate_ends : (s : List ℕ) → (rotate.reads s ≡ Err ends) ↔ (length s < 8)
rotate_ends s =
    let number = number_ends 8 s in
    let rest = seen_ends (number_at 8 s) (λ a. ((a.0, a.1), [])) in
    let seen = seen_ends (then_at (number_at 8) (λ _. rest_at) s) (λ y. (rotate_of y.0, y.1)) in
    (λ e. number.0 (rest.0 (seen.0 e)), λ short. seen.1 (rest.1 (number.1 short)))

pub rand_ends : (s : List ℕ) → (rand.reads s ≡ Err ends) ↔ (length s < 16)
rand_ends s =
    let fields = unit_ends (takes_then (takes_number 8) (λ _. takes_number 8)) s in
    let seen = seen_ends (unit_at 16 (then_at (number_at 8) (λ _. number_at 8)) s) (λ y. (rand_of y.0, y.1)) in
    (λ e. fields.0 (seen.0 e), λ short. seen.1 (fields.1 short))

pub intvar_ends : (s : List ℕ) → (intvar.reads s ≡ Err ends) ↔ (length s < 9)
intvar_ends s =
    let fields = unit_ends (takes_then (takes_coded 1 subtype_of) (λ _. takes_number 8)) s in
    let seen = seen_ends (unit_at 9 (then_at (coded_at 1 subtype_of) (λ _. number_at 8)) s) (λ y. (intvar_of y.0, y.1)) in
    (λ e. fields.0 (seen.0 e), λ short. seen.1 (fields.1 short))

pub xid_ends : (post_header : ℕ) (s : List ℕ) → ((xid post_header).reads s ≡ Err ends) ↔ (length s < post_header + 8)
xid_ends post_header s =
    let fields = skipped_ends post_header 8 (number_at 8) (number_ends 8) s in
    let seen = seen_ends (skipped_at post_header (number_at 8) s) (λ y. (record { xid = y.0 }, y.1)) in
    (λ e. fields.0 (seen.0 e), λ short. seen.1 (fields.1 short))
