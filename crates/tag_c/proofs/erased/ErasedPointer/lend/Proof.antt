-- The object is lent where it is, and whatever is left behind the reference is the object that the `ErasedPointer` then owns.
use Rattle.std.specs.Prelude.{◌∷◌, ◌≡◌}
use Rattle.tag_c.proofs.Uses.{ !, [], addr, alloc_all, at_ret, await, bare, block_ptr, blocks, box_owns, cell_at, done, drop, ends_at, ent, enter, Env, env, ErasedPointer, exec, fact, first, fjoin, fjoin3, fld, flft, Fml, fpack, frame, free_all, fsep, fsplit, fsplit3, ftrue, get, ghosts, GName}
use Rattle.tag_c.proofs.Uses.{Goes-spent_ref, group, heard, id⊢, join, keep, later, List, load, Logic, lone, look_at, look_in, mem, move, mut_ref_to, MutBor, named, no, nothing, Object, of_opd, opens, part_at, pass_all, pick, plain, proved, Ptr, ptr_val, qed, raw, refl, returns, rewrite, says, sem}
use Rattle.tag_c.proofs.Uses.{sep, sets, sets_last, Some, some, split, split3, SProp, stay_dropped, Stays, stop, sub, suffices, sym, tables, through, Ura, use1, Val, vptr, walk_of, whole, with_object, ‵, ℕ, ◌$◌, ◌∵◌, ◌⊛◌}
use base.Fraction.{full_share}
use denote.Follow.{follows, Part, lends_Part}
use denote.Memory.{part_of}
use denote.Ref.{MutRef, mut_vals, mut_Tells}
use Rattle.std_alloc.proofs.VecSteps.Shapes.{after}
use Rattle.std_heap.specs.contracts.Global as heap
use Rattle.tag_c.specs.contracts.object.Object.{the_row as O}
use Rattle.tag_c.specs.contracts.erased.ErasedPointer.{the_row as R}
use Rattle.tag_c.specs.contracts.erased.ErasedPointer.lend as f
use Rattle.tag_c.specs.contracts.erased.ErasedPointer.lend.Key.{name as #self}
use Rattle.tag_c.proofs.Words.{both, erased_out, erased_in}
use Rattle.tag_c.proofs.erased.ErasedPointer.lend.Statement.{statement}
use Rattle.tag_c.proofs.erased.ErasedPointer.lend.Code as code

abbrev stayed : Stays f.ended.signature.params f.ended.kept
stayed = (stay_dropped (mut_ref_to (0 ∷ []) tt (plain (λ _. R))) no, tt)

module _ {M : Type 1} {𝓤 : Ura M} (𝓛 : Logic 𝓤) (d : ErasedPointer) (b o b' o' : ℕ) (h : Val) where
  -- all that the `ErasedPointer` owns but its object
  abbrev Rest : Fml
  Rest = fsep (ghosts.dealloc_token d.alloc (bare (lone O.mir)) (block_ptr b' o'))
      (fsep (heap.the_row.own_val d.alloc (h ∷ [])) (cell_at full_share R.mir (both (vptr b' o') h ∷ []) b o))

  back : d.at ≡ block_ptr b' o' → (x : Object)
      → ent 𝓤 (sep 𝓤 (sem 𝓛 ((mem O).own_at x b' o')) (sem 𝓛 Rest)) (sem 𝓛 ((mem R).own_at (with_object d x) b o))
  unfolding part_of
  back e x =
      qed 𝓛 (‵ (part_at O full_share x b' o') ∷ ‵ Rest ∷ []) ∵ move ! (1 ∷ []) $ fsplit3 ! $ move ! (3 ∷ 0 ∷ [])
      $ fjoin ! $ rewrite ! 0 (λ (p : Ptr). ‵ (box_owns (ghosts.dealloc_token d.alloc) O p x)) (sym e) refl $
      rewrite ! 2 (λ (p : Ptr). ‵ (cell_at full_share R.mir (both (ptr_val p) h ∷ []) b o)) (sym e) refl
      $ erased_in ! d.at h d.alloc (Some x) $ move ! (1 ∷ 0 ∷ []) $ fjoin ! $
      fpack ! (List Val) (λ us. fsep (cell_at full_share R.mir us b o) (R.own_val (with_object d x) us))
      (both (ptr_val d.at) h ∷ []) $ done !

pub lend_spec : {M : Type 1} → statement M
lend_spec 𝓤 𝓛 𝓜 𝓡 wired =
    let 𝓣 = tables 𝓤 𝓛.H 𝓜 𝓡 𝓡.env in let c = f.clauses 𝓛 𝓜.mem 𝓡.returns in let fn = code.function in
    proved 𝓛 f.ended stayed c 𝓜 𝓡 (Goes-spent_ref 𝓛 1 (0 ∷ []) tt (plain (λ _. R)), tt) #self fn
    (code.unfolded 𝓤 𝓛.H 𝓜 𝓡 wired) (λ κs. (mut_vals, tt)) (λ κs. (mut_Tells (named 0) κs.0 R, tt))
    (λ κs qs bounds a _ are.
    let κ = κs.0 in let q = qs.0 in let s = a.0 in let b = s.ref_ptr.0 in let o = s.ref_ptr.1 in
    let γ = s.ghost_name in let d = s.now in let vs = mut_vals s in
    let y : (walk_of 𝓛 f.ended stayed c).Ghost = ((κs, qs, bounds, a, (vs, tt)), tt) in
    let Post : Val → SProp 𝓤 = (walk_of 𝓛 f.ended stayed c).post y in
    let Asked : Type 0 = (x : Object) × (d.value ≡ Some x) in
    qed 𝓛 (((‵ (flft κ q) ⊛ ‵ ftrue) ⊛ ‵ ((MutRef (named 0) κ R).own_val s vs) ⊛ ‵ ftrue) ∷ raw (fact 𝓤 Asked) ∷ [])
    ∵ move ! (1 ∷ []) $ heard ! Asked (λ one. let x = one.0 in
    split ! $ split ! $ move ! (2 ∷ []) $ split ! $ keep ! (0 ∷ 2 ∷ []) $
    enter ! 𝓣.C 𝓣.Λ fn (vptr b o ∷ []) Post $ alloc_all ! (λ l. pass_all ! refl ((tt, tt), tt) $
    let E : Env 𝓤 𝓛.H = env fn.locals l in
    fsplit3 ! $ drop ! $ opens ! tt R {h = d} b o (λ us. move ! (1 ∷ [])
    $ erased_out ! d us x one.1 (λ b' o' h e words fits. rewrite ! 2 (λ (zs : List Val). ‵ (cell_at full_share R.mir zs b o)) words refl $ fsplit ! $
    -- [the object; the right to free it; the allocator; the words; the open borrow, in three entries]
    first ! $ blocks !
    $ sets ! (of_opd ! (load ! (through ! refl (fld ! refl (stop !))) (look_in ! 3 (sub ! 0 refl (whole !))))) refl
    (tt, tt) $ sets ! (of_opd ! (get ! refl)) refl (tt, tt)
    $ sets_last ! (addr ! (through ! refl (stop !))) refl (tt, tt) $ exec ! 𝓣.C 𝓣.Λ E (after 1 fn.body) (at_ret E Post)
    $ sets ! (of_opd ! (get ! refl)) refl (tt, tt) $ move ! (1 ∷ 2 ∷ 3 ∷ []) $ fjoin3 ! $
    move ! (2 ∷ 3 ∷ 4 ∷ 1 ∷ 0 ∷ []) $ group ! 5 $
    let rest = sem 𝓛 (Rest 𝓛 d b o b' o' h) in let again = back 𝓛 d b o b' o' h e in let k = R.coded.code d in
    use1 𝓛 (later (some (λ (δ : GName). raw (Part 𝓛 R O (with_object d) (named 0) κ q b o b' o' γ rest again x δ))))
    (lends_Part 𝓛 R O (with_object d) (named 0) κ q b o b' o' γ rest again k k x) $ await ! tt $ pick ! (λ δ.
    let r : MutBor Object = record { ref_ptr = (b', o'); ghost_name = δ; now = x } in
    returns ! (look_at ! 0 refl) $ free_all ! refl $ keep ! (0 ∷ []) $
    use1 𝓛 (‵ ((MutRef (named 0) κ O).own_val r (vptr b' o' ∷ [])) ⊛ ‵ (flft κ q) ⊛ ‵ (follows R O γ δ (with_object d)))
    (id⊢ 𝓤 _) $ split3 ! $
    suffices ! _ (ends_at 𝓛 f.ended stayed c y (vptr b' o') r (tt, tt) (tt, tt)) $
    nothing ! $ nothing ! $ fjoin ! $ join ! $ nothing ! $ move ! (2 ∷ 0 ∷ []) $ join ! $ join ! $ frame ! $ says ! one.1
    $ done !))))))
