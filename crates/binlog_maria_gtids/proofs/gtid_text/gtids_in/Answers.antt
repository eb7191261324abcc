use Rattle.std.proofs.Common.{◌+◌, ◌∙◌, Bor, List, ℕ, ap, map, subst, sym, take}
use Rattle.binlog_maria_gtids.specs.GtidReading.{AreRead}
use Rattle.binlog_maria_gtids.proofs.GtidParts.{read_part}
use Rattle.binlog_maria_gtids.proofs.gtid_text.gtids_in.Goals as goal

pub loop-part-preserved : goal.loop-part-preserved
loop-part-preserved c = record {
  read = subst (AreRead (take (c.loop-part.part-index + 1) (map (λ (part : Bor (List ℕ)). part.now) c.args.parts.now))) (sym c.in_ok-push-in-Ok.ensures.ok)
      (read_part c.args.parts.now c.loop-part.gtids.items c.loop-part.part-index _ c.in-Ok.gtid c.loop-part-test.true c.loop-part.invariant.read (sym c.in-Ok.ensures));
  count = c.in_ok-push-in-Ok.ensures.len ∙ ap (λ (n : ℕ). n + 1) c.loop-part.invariant.count;
}
