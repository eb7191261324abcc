use Rattle.std.proofs.Common.{◌≡◌, ◌∷◌, ℕ, List, Some, Ok, Err, refl, sym, ap, subst, ◌∙◌}
use Rattle.binlog_wire.specs.Fields.{read_decoded}
use Rattle.binlog_wire.specs.Laws.{bind_ok}
use Rattle.binlog_wire.specs.Reading.{Gives, Read, ◌>>=◌, read_as}
use Rattle.binlog_variable_fields.specs.Announced.{behind_at}
use Rattle.binlog_gtids.specs.declared.gtid_event.GtidEvent.{GtidEvent}
use Rattle.binlog_gtids.specs.Untagged.{Head, Clock, head, clock, untagged_of, with_clock, without_clock}
use Rattle.binlog_gtids.specs.Formats.{untagged}
use Rattle.binlog_gtids.proofs.gtid_event.GtidEvent.read_untagged.Goals as goal

-- the bytes after the head
abbrev whole : Read Head → Read GtidEvent
whole x = read_decoded untagged_of (x >>= λ a. behind_at 2 clock.reads a.1 >>= λ b. Ok ((a.0, b.0), b.1))

clock_at : (h : Head) (x : Read Clock) → read_decoded untagged_of (read_as (λ c. Some c) x >>= λ b. Ok ((h, b.0), b.1)) ≡ read_as (with_clock (without_clock h)) x
clock_at h (Ok x) = refl
clock_at h (Err d) = refl

behind_code : (s m rest : List ℕ) (event : GtidEvent) → read_as without_clock (head.reads s) ≡ Ok (event, m) → m ≡ 2 ∷ rest → untagged.reads s ≡ read_as (with_clock event) (clock.reads rest)
behind_code s m rest event e f =
    let a = bind_ok (head.reads s) (λ x. Ok (without_clock x.0, x.1)) (event, m) e in
    let same : ◌≡◌ {A = GtidEvent × List ℕ} (without_clock a.0.0, a.0.1) (event, m) = cc in
    let left : a.0.1 ≡ 2 ∷ rest = ap (λ (x : GtidEvent × List ℕ). x.1) same ∙ f in
    let is : without_clock a.0.0 ≡ event = ap (λ (x : GtidEvent × List ℕ). x.0) same in
    ap whole a.1
    ∙ ap (λ (t : List ℕ). read_decoded untagged_of (behind_at 2 clock.reads t >>= λ b. Ok ((a.0.0, b.0), b.1))) left
    ∙ clock_at a.0.0 (clock.reads rest)
    ∙ ap (λ (g : GtidEvent). read_as (with_clock g) (clock.reads rest)) is

pub returns-in-Some-eq2-default : goal.returns-in-Some-eq2-default
returns-in-Some-eq2-default c =
    let s : List ℕ = c.args.buf.now in
    let m : List ℕ = c.read_head.new.buf in
    let rest : List ℕ = c.in-Some-eq2-default.rest.now in
    let code : m ≡ 2 ∷ rest = sym c.buf.view_is ∙ c.in-Some-eq2-default.ensures.cases.0 ∙ ap (λ (b : ℕ). b ∷ rest) c.in-Some-eq2-default.field-0-0-test in
    subst (λ (x : Read GtidEvent). Gives ⊥ c.read_clock.new.buf c.read_clock.result x) (sym (behind_code s m rest c.in_ok-event.event c.in_ok-event.ensures code)) c.read_clock.ensures
