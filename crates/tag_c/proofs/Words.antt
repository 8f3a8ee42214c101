-- The machine values of a `BoxParts` and of an `ErasedPointer`: a pointer and an allocator, in this order. Assumes `Logic`.
use Rattle.std.specs.Prelude.{◌++◌, ◌∷◌, ◌≡◌}
use Rattle.tag_c.proofs.Uses.{[], Al, and_tt, bare, block_ptr, box_owns, dnil, drop, ent, feq_i, feq_l, fjoin, fpack, fpick, fsplit, fst∗, ghosts, Goal, Good, handle_tells, has_ty, held, id⊢, impl, in_a_block, Item, Laws, layout, List, Logic, lone, move, never, nothing, null_ptr, Object, of_list}
use Rattle.tag_c.proofs.Uses.{one, Option, Ptr, ptr_val, RattleType, RawPtr, refl, rewrite, sem, Seq, Some, SProp, Step, step, subst, sym, T, the_row_laws, tnil, Ura, Val, Valss, vcons, vnil, vptr, vstruct, WT, ‵, ℕ, ◌$◌}
use mathlib.Core.Bool.{true, ◌&&◌}
use denote.Struct.Struct.{within}
use denote.Struct.Owning.{shape}
use Rattle.core.specs.declared.alloc.Allocator.{Ghosts}
use Rattle.std_heap.specs.contracts.Global as heap
use Rattle.std_heap.specs.declared.Global.{Global}
use Rattle.tag_c.specs.contracts.object.Object as obj
use Rattle.tag_c.specs.contracts.erased.ErasedPointer as erased
use Rattle.tag_c.specs.contracts.box_parts.BoxParts as parts

abbrev pub both : Val → Val → Val
both v w = vstruct (vcons v (vcons w vnil))

-- a run on words is one on words that equal them
pub run_on : {M : Type 1} (𝓤 : Ura M) (Run : List Val → SProp 𝓤) (vs ws : List Val) → vs ≡ ws
    → ent 𝓤 (Run (ws ++ [])) (Run (vs ++ []))
run_on 𝓤 Run vs ws same = subst (λ (us : List Val). ent 𝓤 (Run (ws ++ [])) (Run (us ++ []))) (sym same)
    (id⊢ 𝓤 (Run (ws ++ [])))

module _ (R Z : RattleType) (L : Laws Z) (g : Ghosts Z.Denot) where
  abbrev pub BoxParts : RattleType
  BoxParts = parts.the_row R Z g

  abbrev al : Al
  al = record { row = Z; laws = L; g = g; d = impl [] tnil dnil; drops = impl [] tnil dnil }

  pub parts_good : (b o : ℕ) (h : Val) → Good (layout Z) h → T (has_ty (layout Z) h && true) × WT (both (vptr b o) h)
  parts_good b o h fits = (and_tt (has_ty (layout Z) h) fits.0, (tt, (fits.1, tt)))

  module _ {M : Type 1} {𝓤 : Ura M} {𝓛 : Logic 𝓤} {K : Type 0} {Γ : List (Item 𝓤)} {G : Goal 𝓤 𝓛.H} where
    pub parts_out : K → (d : BoxParts.Denot) (vs : List Val)
        → ((b o : ℕ) (h : Val) → d.at ≡ block_ptr b o → vs ≡ both (vptr b o) h ∷ [] → Good (layout Z) h
        → Seq K 𝓛 (‵ (box_owns (g.dealloc_token d.alloc) R (block_ptr b o) d.value) ∷ ‵ (Z.own_val d.alloc (h ∷ []))
        ∷ Γ) G)
        → Seq K 𝓛 (‵ (BoxParts.own_val d vs) ∷ Γ) G
    parts_out t d vs k =
        fsplit t $ fpick t (λ vss. fsplit t $ feq_l t
        (λ ev. fsplit t $ feq_l t (λ ep. fsplit t
        $ handle_tells al t d.alloc vss.1.0 (λ h ea fits. move t (1 ∷ []) $ drop t $ move t (1 ∷ []) $
        in_a_block t d.at (λ p. box_owns (g.dealloc_token d.alloc) R p d.value)
        (fst∗ 𝓤 (never 𝓤) (sem 𝓛 (g.dealloc_token d.alloc (bare (lone R.mir)) null_ptr))) (λ b o e. k b o h e
        (subst (λ (p : Ptr). vs ≡ vstruct (of_list (ptr_val p ∷ h ∷ [])) ∷ []) e
        (subst (λ (ws : List Val). vs ≡ vstruct (of_list (ptr_val d.at ∷ (ws ++ []))) ∷ []) ea
        (subst (λ (ps : List Val). vs ≡ vstruct (of_list (ps ++ (vss.1.0 ++ []))) ∷ []) ep ev))) fits)))))

    pub parts_in : K → (b o : ℕ) (h : Val) (a : Z.Denot) (x : R.Denot)
        → Step K 𝓛 (‵ (BoxParts.own_val (record { at = block_ptr b o; alloc = a; value = x }) (both (vptr b o) h ∷ []))
        ∷ Γ) G (‵ (box_owns (g.dealloc_token a) R (block_ptr b o) x) ∷ ‵ (Z.own_val a (h ∷ [])) ∷ Γ) G
    parts_in t b o h a x = step (λ s. let v : Val = both (vptr b o) h in
        nothing t $ move t (2 ∷ 0 ∷ []) $ fjoin t $ feq_i t (List Val) (vptr b o ∷ []) (vptr b o ∷ []) refl $ fjoin t
        $ feq_i t (List Val) (v ∷ []) (v ∷ []) refl $ fjoin t $
        fpack t (Valss (RawPtr ∷ Z ∷ [])) (within (shape (parts.the_type R Z g)) (block_ptr b o, (a, tt)) (v ∷ []))
        (vptr b o ∷ [], (h ∷ [], tt)) $ fjoin t $ s)

abbrev pub heap_al : Al
heap_al = record {
  row = heap.the_row;
  laws = the_row_laws;
  g = ghosts;
  d = impl [] tnil dnil;
  drops =
      impl [] tnil dnil;
}

module _ {M : Type 1} {𝓤 : Ura M} {𝓛 : Logic 𝓤} {K : Type 0} {Γ : List (Item 𝓤)} {G : Goal 𝓤 𝓛.H} where
  pub erased_out : K → (d : erased.the_row.Denot) (vs : List Val) (x : Object) → d.value ≡ Some x
      → ((b o : ℕ) (h : Val) → d.at ≡ block_ptr b o → vs ≡ both (vptr b o) h ∷ [] → Good (layout heap.the_row) h
      → Seq K 𝓛 (‵ (box_owns (ghosts.dealloc_token d.alloc) obj.the_row (block_ptr b o) x)
      ∷ ‵ (heap.the_row.own_val d.alloc (h ∷ [])) ∷ Γ) G)
      → Seq K 𝓛 (‵ (erased.the_row.own_val d vs) ∷ Γ) G
  erased_out t d vs x one k =
      fsplit t $ fpick t (λ vss. fsplit t $ feq_l t
      (λ ev. fsplit t $ feq_l t (λ ep. fsplit t
      $ handle_tells heap_al t d.alloc vss.1.0 (λ h ea fits. move t (1 ∷ []) $ drop t $ move t (1 ∷ []) $
      rewrite t 0 (λ (xs : Option Object). ‵ (held d.alloc d.at xs)) one refl $
      in_a_block t d.at (λ p. box_owns (ghosts.dealloc_token d.alloc) obj.the_row p x)
      (fst∗ 𝓤 (never 𝓤) (sem 𝓛 (ghosts.dealloc_token d.alloc (bare (lone obj.the_row.mir)) null_ptr)))
      (λ b o e. k b o h e
      (subst (λ (p : Ptr). vs ≡ vstruct (of_list (ptr_val p ∷ h ∷ [])) ∷ []) e
      (subst (λ (ws : List Val). vs ≡ vstruct (of_list (ptr_val d.at ∷ (ws ++ []))) ∷ []) ea
      (subst (λ (ps : List Val). vs ≡ vstruct (of_list (ps ++ (vss.1.0 ++ []))) ∷ []) ep ev))) fits)))))

  pub erased_in : K → (p : Ptr) (h : Val) (a : Global) (xs : Option Object)
      → Step K 𝓛 (‵ (erased.the_row.own_val (record { at = p; alloc = a; value = xs }) (both (ptr_val p) h ∷ [])) ∷ Γ) G
      (‵ (held a p xs) ∷ ‵ (heap.the_row.own_val a (h ∷ [])) ∷ Γ) G
  erased_in t p h a xs = step (λ s. let v : Val = both (ptr_val p) h in
      nothing t $ move t (2 ∷ 0 ∷ []) $ fjoin t $ feq_i t (List Val) (ptr_val p ∷ []) (ptr_val p ∷ []) refl $ fjoin t
      $ feq_i t (List Val) (v ∷ []) (v ∷ []) refl $ fjoin t $
      fpack t (Valss (RawPtr ∷ heap.the_field.row ∷ []))
      (within (shape erased.the_type) (p, (((tt, tt), tt), tt)) (v ∷ [])) (ptr_val p ∷ [], (h ∷ [], tt)) $ fjoin t
      $ s)
