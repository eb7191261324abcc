use Rattle.std.proofs.Common.{◌≡◌, ℕ, ◌-◌, ◌+◌, List, Option, Some, None, Ok, Err, length, take, drop, subst, refl}
use Rattle.memchr.specs.Find.{IsFirstByte, is_byte}
use Rattle.binlog_file.specs.Reading.{ends}
use Rattle.binlog_file.specs.Fields.{terminated_at}
use Rattle.binlog_file.specs.Terminated.{terminated_search}
use Rattle.binlog_json_bodies.proofs.bodies.before_zero.Goals as goal

pub returns-in-None : goal.returns-in-None
returns-in-None c =
    let text : List ℕ = c.args.text.now in
    let nowhere = subst (λ (r : Option ℕ). IsFirstByte (is_byte 0) text r) c.in-None.is c.memchr.ensures in
    let e : terminated_at text ≡ Err ends = terminated_search text None nowhere in
    rw e refl

pub returns-in-Some : goal.returns-in-Some
returns-in-Some c =
    let text : List ℕ = c.args.text.now in
    let end : ℕ = c.in-Some.end in
    let first = subst (λ (r : Option ℕ). IsFirstByte (is_byte 0) text r) c.in-Some.is c.memchr.ensures in
    let e : terminated_at text ≡ Ok (take end text, take (length text - (end + 1)) (drop (end + 1) text)) = terminated_search text (Some end) first in
    rw e refl
