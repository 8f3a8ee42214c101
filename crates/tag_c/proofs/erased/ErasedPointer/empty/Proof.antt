-- A `ErasedPointer` without an object owns nothing, so a null pointer will do.
use Rattle.std.specs.Prelude.{◌++◌, ◌∷◌, ◌≡◌}
use Rattle.tag_c.proofs.Uses.{ !, [], agg, alloc_all, and_then, and_tt, by, emp, ent, enter, fact, fact_i, fjoin, free_all, fsplit, ftrue, get, Goes-dropped, handle_tells, has_ty, id⊢, keep, layout, leaves, List, lit, lit<, look_at, move, no_more, None, nothing, null_ptr, Object, Option, owns}
use Rattle.tag_c.proofs.Uses.{pass_all, plain, proved_at, ptr_val, qed, raw, refl, returns, sets, split, SProp, stay_dropped, Stays, subst, suffices, sym, tables, types_at, use0, Val, walk_of, WpFn, yes, ‵, ◌$◌, ◌∵◌, ◌⊛◌}
use Rattle.std_heap.specs.contracts.Global as heap
use Rattle.tag_c.proofs.Words.{both, heap_al, erased_in}
use Rattle.tag_c.specs.contracts.erased.ErasedPointer.empty.{ended, clauses}
use Rattle.tag_c.specs.contracts.erased.ErasedPointer.empty.Key.{name as #self}
use Rattle.tag_c.proofs.erased.ErasedPointer.empty.Statement.{statement}
use Rattle.tag_c.proofs.erased.ErasedPointer.empty.Code as code

abbrev the_none : Option Object
the_none = None

pub empty_spec : {M : Type 1} → statement M
empty_spec 𝓤 𝓛 𝓜 𝓡 wired =
    let H = 𝓛.H in let 𝓣 = tables 𝓤 H 𝓜 𝓡 𝓡.env in let c = clauses 𝓛 𝓜.mem 𝓡.returns in let fn = code.function in
    let hs : Stays ended.signature.params ended.kept = (stay_dropped (plain (λ _. heap.the_row)) yes, tt) in
    proved_at 𝓛 ended hs c 𝓜 𝓡 (Goes-dropped 𝓛 0 (plain (λ _. heap.the_row)) yes (λ κs x f. refl), tt) #self fn
    (code.unfolded 𝓤 H 𝓜 𝓡 wired) (λ z are.
    let κs = z.0.0 in let a = z.0.3.0 in let Post : Val → SProp 𝓤 = (walk_of 𝓛 ended hs c).post z in
    let Run : List Val → SProp 𝓤 = λ ws. WpFn 𝓤 H 𝓣.C 𝓣.Λ fn ws Post in
    let asked = raw ((c κs z.0.3).requires z.1) in
    qed 𝓛 ((‵ ftrue ⊛ ‵ (owns (types_at ended.signature.params κs) z.0.3 z.0.4)) ∷ asked ∷ []) ∵ split !
    $ move ! (1 ∷ []) $ fsplit ! $ handle_tells heap_al ! a z.0.4.0 (λ h ws fits.
    let w : Val = both (ptr_val null_ptr) h in
    suffices ! (Run (h ∷ [])) (subst (λ (us : List Val). ent 𝓤 (Run (h ∷ [])) (Run us)) (sym (λ i. ws i ++ []))
    (id⊢ 𝓤 (Run (h ∷ [])))) $
    enter ! 𝓣.C 𝓣.Λ fn (h ∷ []) Post $ alloc_all ! (λ l. pass_all ! refl (fits, tt) $
    sets ! (agg ! (and_then ! (lit ! tt) (and_then ! (get ! refl) (no_more !)))) refl
    (and_tt (has_ty (layout heap.the_row) h) fits.0, (record { fits = lit< tt }, (fits.1, tt))) $
    nothing ! $ erased_in ! null_ptr h a None
    $ use0 𝓛 (raw (fact 𝓤 (the_none ≡ None))) (fact_i 𝓤 (the_none ≡ None) (emp 𝓤) refl) $ nothing ! $ nothing !
    $ fjoin ! $
    returns ! (look_at ! 0 refl) $ free_all ! refl $ keep ! (4 ∷ 0 ∷ 2 ∷ 1 ∷ [])
    $ by ! (leaves 𝓛 ended hs c z w (record { at = null_ptr; alloc = a; value = None }) (tt, tt) (tt, tt)))))
