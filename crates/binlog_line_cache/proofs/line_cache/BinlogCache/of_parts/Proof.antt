-- `of_parts` keeps what the parts own.
use Rattle.std.proofs.Common.{◌≡◌, List, [], ◌∷◌, ◌++◌, true, refl, sym, subst}
use mir.Val.{Val, vbool, vptr}
use base.Logic.{SProp, ent, emp, id⊢}
use base.Fml.{ftrue}
use prog.Wp.{WpFn}
use types.Kit.{‵, raw, ◌⊛◌, ◌$◌, ◌∵◌, !, qed, by, move, keep, split, fsplit, fjoin, suffices, use0}
use types.Run.{stop, fld, of_opd, true_lit, no_more, and_then, returns, enter}
use types.ByLocal.{alloc_all, pass_all, free_all, look_at, get, get_in, sets}
use types.Part.{agg, sub, whole}
use contract.Monad.{fact, fact_i}
use contract.Running.{tables}
use denote.Exit.{yes}
use denote.RattleType.{RattleType, owns}
use denote.Signature.{types_at, plain}
use denote.RawPtr.{block_ptr}
use denote.Steps.{nothing}
use denote.Triple.Walked.{Stays, stay_dropped, walk_of, Goes-dropped}
use Rattle.std.specs.contracts.alloc.Global as heap
use Rattle.std.proofs.alloc.Global.TheLaws as heap_laws
use Rattle.std.specs.contracts.impls.GlobalAllocator.TheImpl.{ghosts}
use Rattle.std.proofs.raw_atomic.Walks.{proved_at, leaves}
use Rattle.binlog_json_lines.specs.contracts.lines.JsonLines as kept
use Rattle.binlog_line_cache.proofs.BoxParts.{both, BoxParts, parts_good, parts_out}
use Rattle.binlog_line_cache.proofs.Caches.{cache_in, kept_in}
use Rattle.binlog_line_cache.specs.contracts.line_cache.BinlogCache.of_parts.{ended, clauses}
use Rattle.binlog_line_cache.specs.contracts.line_cache.BinlogCache.of_parts.Key.{name as #self}
use Rattle.binlog_line_cache.proofs.line_cache.BinlogCache.of_parts.Statement.{statement}
use Rattle.binlog_line_cache.proofs.line_cache.BinlogCache.of_parts.Code as code

pub of_parts_spec : {M : Type 1} → statement M
of_parts_spec 𝓤 𝓛 𝓜 𝓡 wired =
    let H = 𝓛.H in let 𝓣 = tables 𝓤 H 𝓜 𝓡 𝓡.env in let R : RattleType = kept.the_row in let Z : RattleType = heap.the_row in let LZ = heap_laws.the_row_laws in let P : RattleType = BoxParts R Z LZ ghosts in
    let c = clauses 𝓛 𝓜.mem 𝓡.returns in let fn = code.function in let hs : Stays ended.signature.params ended.kept = (stay_dropped (plain (λ _. P)) yes, tt) in
    proved_at 𝓛 ended hs c 𝓜 𝓡 (Goes-dropped 𝓛 0 (plain (λ _. P)) yes (λ κs x f. refl), tt) #self fn (code.unfolded 𝓤 H 𝓜 𝓡 wired) (λ z are.
    let κs = z.0.0 in let v = z.0.3.0 in let Post : Val → SProp 𝓤 = (walk_of 𝓛 ended hs c).post z in let Run : List Val → SProp 𝓤 = λ ws. WpFn 𝓤 H 𝓣.C 𝓣.Λ fn ws Post in
    qed 𝓛 ((‵ ftrue ⊛ ‵ (owns (types_at ended.signature.params κs) z.0.3 z.0.4)) ∷ raw ((c κs z.0.3).requires z.1) ∷ []) ∵ split ! $ move ! (1 ∷ []) $ fsplit ! $
    parts_out R Z LZ ghosts ! v z.0.4.0 (λ b o h e ws fits. let w : Val = both (vptr b o) h in
    suffices ! (Run (w ∷ [])) (subst (λ (us : List Val). ent 𝓤 (Run (w ∷ [])) (Run us)) (sym (λ i. ws i ++ [])) (id⊢ 𝓤 (Run (w ∷ [])))) $
    enter ! 𝓣.C 𝓣.Λ fn (w ∷ []) Post $ alloc_all ! (λ l. pass_all ! refl (parts_good R Z LZ ghosts b o h fits, tt) $
    sets ! (of_opd ! (get_in ! (fld ! refl (stop !)) (sub ! 0 refl (whole !)))) refl (tt, tt) $ sets ! (of_opd ! (get ! refl)) refl (tt, tt) $
    sets ! (agg ! (and_then ! (get ! refl) (and_then ! (true_lit !) (no_more !)))) refl (tt, (tt, (tt, tt))) $
    kept_in ! (block_ptr b o) v.alloc v.value $ cache_in ! (block_ptr b o) true $ use0 𝓛 (raw (fact 𝓤 (true ≡ true))) (fact_i 𝓤 (true ≡ true) (emp 𝓤) refl) $ nothing ! $ nothing ! $ nothing ! $ fjoin ! $
    returns ! (look_at ! 0 refl) $ free_all ! refl $ keep ! (1 ∷ 0 ∷ 3 ∷ 2 ∷ []) $ by ! (leaves 𝓛 ended hs c z (both (vptr b o) (vbool true)) (record { at = block_ptr b o; is_kept = true }) (tt, tt) (tt, tt)))))
