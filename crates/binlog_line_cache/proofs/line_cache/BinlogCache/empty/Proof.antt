-- `empty` makes an object that owns nothing.
use Rattle.std.proofs.Common.{◌≡◌, [], ◌∷◌, false, refl, lit<}
use mir.Val.{Val, vbool}
use base.Logic.{SProp, emp}
use types.Kit.{raw, ◌$◌, ◌∵◌, !, qed, by, keep, use0}
use types.Run.{lit, false_lit, no_more, and_then, returns, enter}
use types.ByLocal.{alloc_all, pass_all, free_all, look_at, sets}
use types.Part.{agg}
use contract.Monad.{fact, fact_i}
use contract.Running.{tables}
use denote.RawPtr.{null_ptr, ptr_val}
use denote.Steps.{nothing}
use denote.Triple.Entry.{on_entry}
use denote.Triple.Walked.{walk_of}
use Rattle.std.proofs.raw_atomic.Walks.{proved_at, leaves}
use Rattle.binlog_line_cache.proofs.BoxParts.{both}
use Rattle.binlog_line_cache.proofs.Caches.{cache_in}
use Rattle.binlog_line_cache.specs.contracts.line_cache.BinlogCache.empty.{ended, clauses}
use Rattle.binlog_line_cache.specs.contracts.line_cache.BinlogCache.empty.Key.{name as #self}
use Rattle.binlog_line_cache.proofs.line_cache.BinlogCache.empty.Statement.{statement}
use Rattle.binlog_line_cache.proofs.line_cache.BinlogCache.empty.Code as code

pub empty_spec : {M : Type 1} → statement M
empty_spec 𝓤 𝓛 𝓜 𝓡 wired =
    let H = 𝓛.H in let 𝓣 = tables 𝓤 H 𝓜 𝓡 𝓡.env in let c = clauses 𝓛 𝓜.mem 𝓡.returns in let fn = code.function in
    proved_at 𝓛 ended tt c 𝓜 𝓡 tt #self fn (code.unfolded 𝓤 H 𝓜 𝓡 wired) (λ z are.
    let κs = z.0.0 in let Post : Val → SProp 𝓤 = (walk_of 𝓛 ended tt c).post z in let w : Val = both (ptr_val null_ptr) (vbool false) in
    qed 𝓛 (raw (on_entry 𝓛 ended.signature κs z.0.1 z.0.3 z.0.4) ∷ raw ((c κs z.0.3).requires z.1) ∷ []) ∵
    enter ! 𝓣.C 𝓣.Λ fn [] Post $ alloc_all ! (λ l. pass_all ! refl tt $
    sets ! (agg ! (and_then ! (lit ! tt) (and_then ! (false_lit !) (no_more !)))) refl (tt, (record { fits = lit< tt }, (tt, tt))) $
    nothing ! $ cache_in ! null_ptr false $ use0 𝓛 (raw (fact 𝓤 (false ≡ false))) (fact_i 𝓤 (false ≡ false) (emp 𝓤) refl) $ nothing ! $ nothing ! $
    returns ! (look_at ! 0 refl) $ free_all ! refl $ keep ! (0 ∷ 1 ∷ 3 ∷ 2 ∷ []) $ by ! (leaves 𝓛 ended tt c z w (record { at = null_ptr; is_kept = false }) tt tt)))
