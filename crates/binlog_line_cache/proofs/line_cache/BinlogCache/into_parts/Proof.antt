-- `into_parts` gives what the object owns to the parts.
use Rattle.std.proofs.Common.{◌≡◌, Bool, true, false, List, [], ◌∷◌, ◌++◌, refl, sym, subst, lit<}
use mir.Val.{Val, vbool, vptr, vcons, vnil}
use base.Logic.{SProp, ent, emp, id⊢}
use base.Fml.{ftrue}
use prog.Wp.{WpFn}
use types.Kit.{‵, raw, ◌⊛◌, at_ret, ◌$◌, ◌∵◌, !, qed, by, move, keep, split, fsplit, fjoin, suffices, use0, use1}
use types.Run.{stop, fld, lit, of_opd, no_more, and_then, first, branches, exec, returns, enter}
use types.ByLocal.{alloc_all, pass_all, free_all, look_at, get, get_in, sets, sets_last, env}
use types.Part.{agg, sub, whole}
use types.Match.{live}
use contract.Monad.{fact, fact_i}
use contract.Running.{tables}
use denote.Exit.{yes}
use denote.RattleType.{RattleType, owns}
use denote.Signature.{types_at, type_at, plain}
use denote.Builtin.{RawPtr}
use denote.RawPtr.{Ptr, block_ptr, ptr_val, rawptr_Lawful}
use denote.Steps.{nothing}
use denote.Param.{layout}
use denote.Triple.Walked.{Stays, stay_dropped, walk_of, Goes-dropped}
use Rattle.std.specs.declared.option.Option.TheVariants.{None, Some}
use Rattle.std.proofs.option.Made.{Some-of, none_of}
use mir.Syntax.{impl, tnil, dnil}
use Rattle.std.proofs.alloc.Calls.{Al, handle_tells}
use Rattle.std.proofs.alloc.Shapes.{after}
use Rattle.std.proofs.cell.Inside.{Good}
use Rattle.std.proofs.ResultValues.{and_tt}
use Rattle.std.specs.contracts.alloc.Global as heap
use Rattle.std.proofs.alloc.Global.TheLaws as heap_laws
use Rattle.std.specs.contracts.impls.GlobalAllocator.TheImpl.{ghosts}
use Rattle.std.proofs.raw_atomic.Walks.{proved_at, leaves}
use Rattle.binlog_json_lines.specs.contracts.lines.JsonLines as kept
use Rattle.binlog_line_cache.proofs.BoxParts.{both, BoxParts, parts_good, parts_in}
use Rattle.binlog_line_cache.specs.contracts.line_cache.BinlogCache as cache
use Rattle.binlog_line_cache.proofs.Caches.{cache_out, kept_cases}
use Rattle.binlog_line_cache.specs.contracts.line_cache.BinlogCache.into_parts.{ended, clauses}
use Rattle.binlog_line_cache.specs.contracts.line_cache.BinlogCache.into_parts.Key.{name as #self}
use Rattle.binlog_line_cache.proofs.line_cache.BinlogCache.into_parts.Statement.{statement}
use Rattle.binlog_line_cache.proofs.line_cache.BinlogCache.into_parts.Code as code

pub into_parts_spec : {M : Type 1} → statement M
into_parts_spec 𝓤 𝓛 𝓜 𝓡 wired =
    let H = 𝓛.H in let 𝓣 = tables 𝓤 H 𝓜 𝓡 𝓡.env in let R : RattleType = kept.the_row in let Z : RattleType = heap.the_row in let LZ = heap_laws.the_row_laws in let P : RattleType = BoxParts R Z LZ ghosts in
    let c = clauses 𝓛 𝓜.mem 𝓡.returns in let fn = code.function in let hs : Stays ended.signature.params ended.kept = (stay_dropped (plain (λ _. cache.the_row)) yes, (stay_dropped (plain (λ _. Z)) yes, tt)) in
    proved_at 𝓛 ended hs c 𝓜 𝓡 (Goes-dropped 𝓛 0 (plain (λ _. cache.the_row)) yes (λ κs x f. refl), (Goes-dropped 𝓛 0 (plain (λ _. Z)) yes (λ κs x f. refl), tt)) #self fn (code.unfolded 𝓤 H 𝓜 𝓡 wired) (λ z are.
    let κs = z.0.0 in let d = z.0.3.0 in let a = z.0.3.1.0 in let Post : Val → SProp 𝓤 = (walk_of 𝓛 ended hs c).post z in let Run : List Val → SProp 𝓤 = λ ws. WpFn 𝓤 H 𝓣.C 𝓣.Λ fn ws Post in let Out : RattleType = type_at ended.signature.result κs in
    qed 𝓛 ((‵ ftrue ⊛ ‵ (owns (types_at ended.signature.params κs) z.0.3 z.0.4)) ∷ raw ((c κs z.0.3).requires z.1) ∷ []) ∵ split ! $ move ! (1 ∷ []) $ fsplit ! $ move ! (1 ∷ []) $ fsplit ! $
    let alloc : Al = record { row = Z; laws = LZ; g = ghosts; d = impl [] tnil dnil; drops = impl [] tnil dnil } in handle_tells alloc ! a z.0.4.1.0 (λ h eh fits. move ! (2 ∷ []) $ cache_out ! d z.0.4.0 (λ ws.
    -- [what is kept; the allocator; nothing; nothing; what is required]
    let told : (p : Ptr) (k : Bool) → d.at ≡ p → d.is_kept ≡ k → z.0.4.0 ++ (z.0.4.1.0 ++ []) ≡ both (ptr_val p) (vbool k) ∷ h ∷ [] = λ p k ep ek. subst (λ (q : Ptr). z.0.4.0 ++ (z.0.4.1.0 ++ []) ≡ both (ptr_val q) (vbool k) ∷ h ∷ []) ep (subst (λ (j : Bool). z.0.4.0 ++ (z.0.4.1.0 ++ []) ≡ both (ptr_val d.at) (vbool j) ∷ h ∷ []) ek (λ i. ws i ++ (eh i ++ []))) in
    kept_cases ! d.is_kept d.at
    (λ b o g x is at. let w : Val = both (vptr b o) (vbool true) in let made : Val = both (vptr b o) h in let typed = parts_good R Z LZ ghosts b o h fits in let v₁ : Val = live 1 (vcons made vnil) in let r : P.Denot = record { at = block_ptr b o; alloc = a; value = x } in
    let good : Good (layout Out) v₁ = (and_tt _ typed.0, (record { fits = lit< tt }, (typed.1, tt))) in
    suffices ! (Run (w ∷ h ∷ [])) (subst (λ (us : List Val). ent 𝓤 (Run (w ∷ h ∷ [])) (Run us)) (sym (told (block_ptr b o) true at is)) (id⊢ 𝓤 (Run (w ∷ h ∷ [])))) $
    enter ! 𝓣.C 𝓣.Λ fn (w ∷ h ∷ []) Post $ alloc_all ! (λ l. let Ev = env fn.locals l in pass_all ! refl ((tt, (tt, (tt, tt))), (fits, tt)) $
    sets ! (of_opd ! (get_in ! (fld ! refl (stop !)) (sub ! 0 refl (whole !)))) refl (tt, tt) $ sets ! (of_opd ! (get_in ! (fld ! refl (stop !)) (sub ! 1 refl (whole !)))) refl (tt, tt) $ sets ! (of_opd ! (get ! refl)) refl (tt, tt) $
    first ! $ branches ! (get ! refl) (λ _. sets ! (of_opd ! (get ! refl)) refl (tt, tt) $ sets ! (agg ! (and_then ! (get ! refl) (and_then ! (get ! refl) (no_more !)))) refl typed $
    sets_last ! (agg ! (and_then ! (lit ! tt) (and_then ! (get ! refl) (no_more !)))) refl good $ exec ! 𝓣.C 𝓣.Λ Ev (after 4 fn.body) (at_ret Ev Post) $ sets ! (of_opd ! (get ! refl)) refl good $
    parts_in R Z LZ ghosts ! b o h a x $ use1 𝓛 (‵ (Out.own_val (Some r) (v₁ ∷ []))) (Some-of 𝓛 P r made) $ use0 𝓛 (raw (fact 𝓤 (true ≡ d.is_kept))) (fact_i 𝓤 (true ≡ d.is_kept) (emp 𝓤) (sym is)) $ nothing ! $ nothing ! $ fjoin ! $ nothing ! $ fjoin ! $ nothing ! $
    returns ! (look_at ! 0 refl) $ free_all ! refl $ keep ! (0 ∷ 1 ∷ 3 ∷ 2 ∷ []) $ by ! (leaves 𝓛 ended hs c z v₁ (Some r) (tt, (tt, tt)) (tt, (tt, tt)))) (λ wrong. absurd wrong)))
    (λ is. let w : Val = both (ptr_val d.at) (vbool false) in let v₀ : Val = live 0 vnil in let addr : Good (layout RawPtr) (ptr_val d.at) = ((rawptr_Lawful 𝓛).typed d.at _ refl).0 in
    suffices ! (Run (w ∷ h ∷ [])) (subst (λ (us : List Val). ent 𝓤 (Run (w ∷ h ∷ [])) (Run us)) (sym (told d.at false refl is)) (id⊢ 𝓤 (Run (w ∷ h ∷ [])))) $
    enter ! 𝓣.C 𝓣.Λ fn (w ∷ h ∷ []) Post $ alloc_all ! (λ l. let Ev = env fn.locals l in pass_all ! refl ((and_tt _ addr.0, (addr.1, (tt, tt))), (fits, tt)) $
    sets ! (of_opd ! (get_in ! (fld ! refl (stop !)) (sub ! 0 refl (whole !)))) refl addr $ sets ! (of_opd ! (get_in ! (fld ! refl (stop !)) (sub ! 1 refl (whole !)))) refl (tt, tt) $ sets ! (of_opd ! (get ! refl)) refl (tt, tt) $
    first ! $ branches ! (get ! refl) (λ wrong. absurd wrong) (λ _. sets_last ! (agg ! (and_then ! (lit ! tt) (no_more !))) refl (tt, (record { fits = lit< tt }, tt)) $
    exec ! 𝓣.C 𝓣.Λ Ev (after 4 fn.body) (at_ret Ev Post) $ sets ! (of_opd ! (get ! refl)) refl (tt, (record { fits = lit< tt }, tt)) $
    use0 𝓛 (‵ (Out.own_val None (v₀ ∷ []))) (none_of 𝓛 P) $ use0 𝓛 (raw (fact 𝓤 (false ≡ d.is_kept))) (fact_i 𝓤 (false ≡ d.is_kept) (emp 𝓤) (sym is)) $ nothing ! $ nothing ! $ fjoin ! $ nothing ! $ fjoin ! $ nothing ! $
    returns ! (look_at ! 0 refl) $ free_all ! refl $ keep ! (0 ∷ 1 ∷ 3 ∷ 2 ∷ []) $ by ! (leaves 𝓛 ended hs c z v₀ None (tt, (tt, tt)) (tt, (tt, tt)))))))))
