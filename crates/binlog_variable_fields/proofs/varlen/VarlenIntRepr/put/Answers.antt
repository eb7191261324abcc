use Rattle.std.proofs.Common.{◌≡◌, ℕ, ◌++◌, List, [], ◌∷◌, length, append_assoc, ap, subst, refl, arith}
use Rattle.byteorder.specs.Endian.{little_bytes}
use Rattle.binlog_wire.specs.Putting.{Puts}
use Rattle.binlog_wire.specs.Laws.Numbers.{length-little_bytes}
use Rattle.binlog_variable_fields.specs.Laws.VarlenWriting.{varlen_few, varlen_many, varlen_room}
use Rattle.binlog_variable_fields.specs.Varlen.{varlen_written}
use Rattle.binlog_variable_fields.proofs.varlen.VarlenIntRepr.put.Goals as goal

pub marked-requires-clause-some : goal.marked-requires-clause-some
marked-requires-clause-some c = (varlen_few c.args.number c.written_len-width.result c.written_len-width.ensures.count c.if-width-lt9.true).0

pub marked-requires-clause-fits : goal.marked-requires-clause-fits
marked-requires-clause-fits c =
    let few = varlen_few c.args.number c.written_len-width.result c.written_len-width.ensures.count c.if-width-lt9.true in
    varlen_room c.args.number c.written_len-width.result few.0 few.1 few.2

pub returns-then-width-lt9 : goal.returns-then-width-lt9
returns-then-width-lt9 c =
    let few = varlen_few c.args.number c.written_len-width.result c.written_len-width.ensures.count c.if-width-lt9.true in
    let bytes : little_bytes c.written_len-width.result c.marked.result ≡ varlen_written c.args.number = rw (few.3, c.marked.ensures) refl in
    subst (λ (s : List ℕ). Puts c.args.buf.now c.put_low_bytes.new.buf s) bytes c.put_low_bytes.ensures

behind_mark : (items mid out s : List ℕ) (n : ℕ) → s ≡ 255 ∷ little_bytes 8 n → mid ≡ items ++ 255 ∷ [] → out ≡ mid ++ little_bytes 8 n → out ≡ items ++ s
behind_mark items mid out s n e f g = rw (e, g, f) (append_assoc items (255 ∷ []) (little_bytes 8 n))

pub returns-else-width-lt9 : goal.returns-else-width-lt9
returns-else-width-lt9 c =
    let many = varlen_many c.args.number c.written_len-width.result c.written_len-width.ensures.count c.if-width-lt9.false in
    let mark : c.push.new.self.items ≡ c.args.buf.now.items ++ 255 ∷ [] = rw c.unwrap.ensures at c.push.ensures.items in
    record {
      items = behind_mark c.args.buf.now.items c.push.new.self.items c.put.new.buf.items (varlen_written c.args.number) c.args.number many mark c.put.ensures.items;
      len = grind (arith, ap length many, length-little_bytes 8 c.args.number);
      capacity = grind arith;
    }
