-- What the object owns is a box, which crosses threads as its value does.
use mathlib.Core.Bool.{Bool, true, false}
use mir.Raw.{raw}
use base.Fraction.{full_share}
use base.Shift.{Keyless}
use denote.Memory.{lone}
use denote.RattleType.{RattleType}
use denote.RawPtr.{Ptr, block_ptr, null_ptr, lies_at}
use denote.Param.Send.{IsSend, part_keyless}
use Rattle.std.proofs.Crossing.{frees}
use Rattle.binlog_json_lines.specs.contracts.lines.JsonLines as lines
use Rattle.binlog_json_lines.proofs.lines.JsonLines.TheSendSync as lines_cross
use Rattle.binlog_line_cache.specs.Caches.{boxed_if}
use Rattle.binlog_line_cache.specs.contracts.line_cache.BinlogCache.{the_row}

lies : (R : RattleType) → IsSend R → (p : Ptr) (x : R.Denot) → Keyless (lies_at R full_share p x)
lies R s (block_ptr b o) x = part_keyless R s full_share x b o
lies R s null_ptr x = tt

owned : (R : RattleType) → IsSend R → (is_kept : Bool) (p : Ptr) → Keyless (boxed_if R is_kept p)
owned R s true p = λ heap x. (lies R s p x, frees.frees heap (raw (lone R.mir)) p)
owned R s false p = tt

pub send : IsSend the_row
send = record { owned = λ d vs. ((λ vss. (tt, (tt, (tt, tt)))), owned lines.the_row lines_cross.the_send d.is_kept d.at); leaving = λ k d w. tt }
