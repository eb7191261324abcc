use Rattle.std.proofs.Common.{◌≡◌, ◌++◌, ◌+◌, ℕ, List, false, eqb, append_assoc, ap, subst, refl, ◌∙◌, arith}
use Rattle.std.specs.Global.{Vec}
use Rattle.std.proofs.lemmas.Bool.{ne_eqb}
use Rattle.std.proofs.lemmas.List.{length-append}
use Rattle.binlog_wire.specs.Fields.{little_bytes}
use Rattle.binlog_wire.specs.Putting.{Puts}
use Rattle.binlog_variable_fields.specs.Announced.{announced_written}
use Rattle.binlog_gtids.proofs.clock.put_times.Goals as goal

puts_then : (old mid new : Vec ℕ) (a b : List ℕ) → Puts old mid a → Puts mid new b → Puts old new (a ++ b)
puts_then old mid new a b first second = record {
  items = second.items ∙ ap (λ (s : List ℕ). s ++ b) first.items ∙ append_assoc old.items a b;
  len = omega (arith, length-append a b, first.len, second.len);
  capacity = omega (arith, first.capacity, second.capacity);
}

pub returns-else-immediate-original : goal.returns-else-immediate-original
returns-else-immediate-original c =
    let i : ℕ = c.args.immediate in
    let o : ℕ = c.args.original in
    let old = c.args.buf.now in
    let mid = c.put-else-immediate-original.new.buf in
    let new = c.put-else-immediate-original-2.new.buf in
    let differ : eqb i o ≡ false = ne_eqb i o c.if-immediate-original.false in
    let first : List ℕ = little_bytes 7 (i + 36028797018963968) in
    let second : List ℕ = little_bytes 7 o in
    let bytes : first ++ second ≡ announced_written 7 36028797018963968 (i, o) = rw differ refl in
    subst (λ (s : List ℕ). Puts old new s) bytes
    (puts_then old mid new first second c.put-else-immediate-original.ensures c.put-else-immediate-original-2.ensures)
