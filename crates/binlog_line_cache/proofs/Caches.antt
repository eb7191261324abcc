-- The machine values of an object that a C program holds, and what it owns. Assumes `Logic`.
use Rattle.std.proofs.Common.{◌≡◌, ℕ, Bool, true, false, List, [], ◌∷◌, ◌++◌, refl, subst}
use seplogic.Ra.Ura.{Ura}
use mir.Val.{Val, vbool, vstruct, of_list}
use mir.Raw.{raw as bare}
use base.Logic.{never, fst∗}
use base.Fml.{ftrue, fex}
use types.Logic.{Logic, sem}
use types.Kit.{Item, Goal, Seq, Step, step, ‵, ◌$◌, drop, fsplit, fjoin, fpick, fpack, feq_i, feq_l}
use denote.RattleType.{Valss}
use denote.Builtin.{RawPtr, bool}
use denote.Memory.{lone}
use denote.RawPtr.{Ptr, block_ptr, null_ptr, ptr_val, in_a_block}
use denote.Steps.{nothing}
use denote.Struct.Struct.{within}
use denote.Struct.Owning.{shape}
use Rattle.std.specs.declared.alloc.Global.{Global}
use Rattle.std.specs.contracts.impls.GlobalAllocator.TheImpl.{ghosts}
use Rattle.std.specs.Box.Ownership.{box_owns}
use Rattle.binlog_json_lines.specs.contracts.lines.JsonLines.{the_row as R}
use Rattle.binlog_line_cache.proofs.BoxParts.{both}
use Rattle.binlog_line_cache.specs.Caches.{boxed_if}
use Rattle.binlog_line_cache.specs.declared.line_cache.BinlogCache.{BinlogCache}
use Rattle.binlog_line_cache.specs.contracts.line_cache.BinlogCache as cache

module _ {M : Type 1} {𝓤 : Ura M} {𝓛 : Logic 𝓤} {K : Type 0} {Γ : List (Item 𝓤)} {G : Goal 𝓤 𝓛.H} where
  pub cache_out : K → (d : BinlogCache) (vs : List Val)
      → (vs ≡ both (ptr_val d.at) (vbool d.is_kept) ∷ [] → Seq K 𝓛 (‵ (boxed_if R d.is_kept d.at) ∷ Γ) G)
      → Seq K 𝓛 (‵ (cache.the_row.own_val d vs) ∷ Γ) G
  cache_out t d vs k =
      fsplit t $ fpick t (λ vss. fsplit t $ feq_l t (λ ev. fsplit t $ feq_l t (λ ep. fsplit t $ feq_l t (λ eb. drop t $ k
      (subst (λ (bs : List Val). vs ≡ vstruct (of_list (ptr_val d.at ∷ (bs ++ []))) ∷ []) eb (subst (λ (ps : List Val). vs ≡ vstruct (of_list (ps ++ (vss.1.0 ++ []))) ∷ []) ep ev))))))

  pub cache_in : K → (p : Ptr) (is_kept : Bool)
      → Step K 𝓛 (‵ (cache.the_row.own_val (record { at = p; is_kept = is_kept }) (both (ptr_val p) (vbool is_kept) ∷ [])) ∷ Γ) G (‵ (boxed_if R is_kept p) ∷ Γ) G
  cache_in t p is_kept = step (λ s. let v : Val = both (ptr_val p) (vbool is_kept) in
      nothing t $ feq_i t (List Val) (vbool is_kept ∷ []) (vbool is_kept ∷ []) refl $ fjoin t $ feq_i t (List Val) (ptr_val p ∷ []) (ptr_val p ∷ []) refl $ fjoin t $
      feq_i t (List Val) (v ∷ []) (v ∷ []) refl $ fjoin t $
      fpack t (Valss (RawPtr ∷ bool ∷ [])) (within (shape cache.the_type) (p, (is_kept, tt)) (v ∷ [])) (ptr_val p ∷ [], (vbool is_kept ∷ [], tt)) $ fjoin t $ s)

  -- what is kept has a value behind its pointer
  pub kept_cases : K → (is_kept : Bool) (p : Ptr)
      → ((b o : ℕ) (heap : Global) (x : R.Denot) → is_kept ≡ true → p ≡ block_ptr b o → Seq K 𝓛 (‵ (box_owns (ghosts.dealloc_token heap) R (block_ptr b o) x) ∷ Γ) G)
      → (is_kept ≡ false → Seq K 𝓛 (‵ ftrue ∷ Γ) G)
      → Seq K 𝓛 (‵ (boxed_if R is_kept p) ∷ Γ) G
  kept_cases t true p kept empty =
      fpick t (λ heap. fpick t (λ x. in_a_block t p (λ q. box_owns (ghosts.dealloc_token heap) R q x) (fst∗ 𝓤 (never 𝓤) (sem 𝓛 (ghosts.dealloc_token heap (bare (lone R.mir)) null_ptr))) (λ b o e. kept b o heap x refl e)))
  kept_cases t false p kept empty = empty refl

  pub kept_in : K → (p : Ptr) (heap : Global) (x : R.Denot)
      → Step K 𝓛 (‵ (boxed_if R true p) ∷ Γ) G (‵ (box_owns (ghosts.dealloc_token heap) R p x) ∷ Γ) G
  kept_in t p heap x = step (λ s.
      fpack t R.Denot (λ y. box_owns (ghosts.dealloc_token heap) R p y) x $ fpack t Global (λ a. fex R.Denot (λ y. box_owns (ghosts.dealloc_token a) R p y)) heap $ s)
