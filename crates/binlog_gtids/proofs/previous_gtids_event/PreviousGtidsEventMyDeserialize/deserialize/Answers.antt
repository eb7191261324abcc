use Rattle.std.specs.Prelude.{⊤}
use Rattle.std.proofs.Common.{◌≡◌, ℕ, Bool, List, Ok, sym, ap, ◌∙◌}
use Rattle.std.proofs.lemmas.Result.{err_from_is_err_and}
use Rattle.binlog_wire.specs.Reading.{Read, ◌>>=◌, read_as}
use Rattle.binlog_wire.specs.Fields.{number_at, read_decoded}
use Rattle.binlog_variable_fields.specs.Laws.Refusing.{refused_as}
use Rattle.binlog_variable_fields.specs.Repeated.{times_at}
use Rattle.binlog_gtids.specs.declared.previous_gtids_event.PreviousGtidsEvent.{PreviousGtidsEvent}
use Rattle.binlog_gtids.specs.declared.previous_gtids_sid.PreviousGtidsSid.{PreviousGtidsSid}
use Rattle.binlog_gtids.specs.Formats.{previous_gtids, event_of}
use Rattle.binlog_gtids.specs.PreviousGtids.{has_tags, count_in, sid_in}
use Rattle.binlog_gtids.proofs.previous_gtids_event.PreviousGtidsEventMyDeserialize.deserialize.Goals as goal

-- the event with the entries after the first number
abbrev behind_head : ℕ → Read (List PreviousGtidsSid) → Read PreviousGtidsEvent
behind_head head x = read_as event_of (read_decoded {P = ℕ × List PreviousGtidsSid} (λ x. Ok x.1) (x >>= λ b. Ok ((head, b.0), b.1)))

abbrev whole : Read ℕ → Read PreviousGtidsEvent
whole x =
    read_as event_of (read_decoded {P = ℕ × List PreviousGtidsSid} (λ x. Ok x.1)
    (x >>= λ a. times_at (count_in a.0) (sid_in (has_tags a.0)).reads a.1 >>= λ b. Ok ((a.0, b.0), b.1)))

step : (s m : List ℕ) (head n : ℕ) (b : Bool) → number_at 8 s ≡ Ok (head, m) → n ≡ count_in head → b ≡ has_tags head
    → previous_gtids.reads s ≡ behind_head head (times_at n (sid_in b).reads m)
step s m head n b e f g =
    ap whole e
    ∙ ap (λ (k : ℕ). behind_head head (times_at k (sid_in (has_tags head)).reads m)) (sym f)
    ∙ ap (λ (c : Bool). behind_head head (times_at n (sid_in c).reads m)) (sym g)

pub returns-in_err-sids : goal.returns-in_err-sids
returns-in_err-sids c =
    let read = times_at c.count_in.result (sid_in c.has_tags.result).reads c.read.new.buf in
    let here = step c.args.buf.now c.read.new.buf c.in_ok-head.head c.count_in.result c.has_tags.result c.in_ok-head.ensures c.count_in.ensures c.has_tags.ensures in
    let p = err_from_is_err_and c.from_residual-in_err-sids.result c.from_residual-in_err-sids.ensures.1 in
    rw (p.1, p.2)
    (refused_as ⊤ ⊤ (λ x. x) _ read (previous_gtids.reads c.args.buf.now) (λ d e. here ∙ ap (behind_head c.in_ok-head.head) e) c.in_err-sids.ensures)

pub returns : goal.returns
returns c =
    step c.args.buf.now c.read.new.buf c.in_ok-head.head c.count_in.result c.has_tags.result c.in_ok-head.ensures c.count_in.ensures c.has_tags.ensures
    ∙ ap (behind_head c.in_ok-head.head) c.in_ok-sids.ensures
