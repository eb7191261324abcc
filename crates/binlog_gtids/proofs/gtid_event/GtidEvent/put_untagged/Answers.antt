use Rattle.std.proofs.Common.{rules, arith, ◌≡◌, ◌++◌, ℕ, List, length, true, false, sym, ap, subst, ◌∙◌}
use Rattle.std.proofs.lemmas.List.{append-nil}
use Rattle.binlog_wire.specs.Putting.{Puts}
use Rattle.binlog_gtids.specs.Untagged.{head, head_of, clock, clock_of}
use Rattle.binlog_gtids.specs.Laws.UntaggedWriting.{head_length, untagged_length, untagged_bytes, put_marked}
use Rattle.binlog_gtids.proofs.gtid_event.GtidEvent.put_untagged.Goals as goal

pub put_clock-requires-clause-room : goal.put_clock-requires-clause-room
put_clock-requires-clause-room c =
    let g = c.args.self.now in
    let sid : length g.sid ≡ 16 = search rules in
    omega (arith, c.requires.room, untagged_length g true c.if-self.true sid, head_length g sid, c.put_head.ensures.len, c.put_head.ensures.capacity, c.put.ensures.len, c.put.ensures.capacity)

pub returns-then-self : goal.returns-then-self
returns-then-self c =
    let g = c.args.self.now in
    let sid : length g.sid ≡ 16 = search rules in
    record {
      items = put_marked c.args.buf.now.items (head.written (head_of g)) (clock.written (clock_of g)) c.put_head.new.buf.items c.put.new.buf.items c.put_clock.new.buf.items 2
          c.put_head.ensures.items c.put.ensures.items c.put_clock.ensures.items
          ∙ ap (λ (s : List ℕ). c.args.buf.now.items ++ s) (sym (untagged_bytes g true c.if-self.true));
      len = omega (arith, untagged_length g true c.if-self.true sid, head_length g sid, c.put_head.ensures.len, c.put.ensures.len, c.put_clock.ensures.len);
      capacity = omega (arith, c.put_head.ensures.capacity, c.put.ensures.capacity, c.put_clock.ensures.capacity);
    }

pub returns-else-self : goal.returns-else-self
returns-else-self c =
    let g = c.args.self.now in
    let first : List ℕ = head.written (head_of g) in
    subst (λ (s : List ℕ). Puts c.args.buf.now c.put_head.new.buf s) (sym (append-nil first) ∙ sym (untagged_bytes g false c.if-self.false)) c.put_head.ensures
