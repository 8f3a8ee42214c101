-- A `BoxParts` and an `ErasedPointer` have the same words and own the same memory, so only the type of the pointer changes.
use Rattle.std.specs.Prelude.{◌∷◌, ◌≡◌}
use Rattle.tag_c.proofs.Uses.{ !, [], agg, alloc_all, and_then, block_ptr, by, emp, enter, fact, fact_i, fjoin, fld, free_all, fsplit, ftrue, get, get_in, ghosts, Goes-dropped, keep, leaves, List, look_at, move, no_more, nothing, of_opd, owns, pass_all, plain, proved_at, qed, RattleType, raw, refl}
use Rattle.tag_c.proofs.Uses.{returns, sets, Some, split, SProp, stay_dropped, Stays, stop, sub, suffices, tables, the_row_laws, types_at, use0, Val, vptr, walk_of, whole, WpFn, yes, ‵, ◌$◌, ◌∵◌, ◌⊛◌}
use Rattle.std_heap.specs.contracts.Global as heap
use Rattle.tag_c.specs.contracts.object.Object as obj
use Rattle.tag_c.proofs.Words.{both, run_on, BoxParts, parts_good, parts_out, erased_in}
use Rattle.tag_c.specs.contracts.erased.ErasedPointer.erase.{ended, clauses}
use Rattle.tag_c.specs.contracts.erased.ErasedPointer.erase.Key.{name as #self}
use Rattle.tag_c.proofs.erased.ErasedPointer.erase.Statement.{statement}
use Rattle.tag_c.proofs.erased.ErasedPointer.erase.Code as code

pub erase_spec : {M : Type 1} → statement M
erase_spec 𝓤 𝓛 𝓜 𝓡 wired =
    let H = 𝓛.H in let 𝓣 = tables 𝓤 H 𝓜 𝓡 𝓡.env in
    let From : RattleType = BoxParts obj.the_row heap.the_row the_row_laws ghosts in let c = clauses 𝓛 𝓜.mem 𝓡.returns in
    let fn = code.function in
    let hs : Stays ended.signature.params ended.kept = (stay_dropped (plain (λ _. From)) yes, tt) in
    proved_at 𝓛 ended hs c 𝓜 𝓡 (Goes-dropped 𝓛 0 (plain (λ _. From)) yes (λ κs x f. refl), tt) #self fn
    (code.unfolded 𝓤 H 𝓜 𝓡 wired) (λ z are.
    let κs = z.0.0 in let v = z.0.3.0 in let a = v.alloc in let Post : Val → SProp 𝓤 = (walk_of 𝓛 ended hs c).post z in
    let Run : List Val → SProp 𝓤 = λ ws. WpFn 𝓤 H 𝓣.C 𝓣.Λ fn ws Post in
    let asked = raw ((c κs z.0.3).requires z.1) in
    qed 𝓛 ((‵ ftrue ⊛ ‵ (owns (types_at ended.signature.params κs) z.0.3 z.0.4)) ∷ asked ∷ []) ∵ split !
    $ move ! (1 ∷ []) $ fsplit ! $ parts_out obj.the_row heap.the_row the_row_laws ghosts ! v z.0.4.0
    (λ b o h e ws fits.
    let w : Val = both (vptr b o) h in let typed = parts_good obj.the_row heap.the_row the_row_laws ghosts b o h fits in
    suffices ! (Run (w ∷ [])) (run_on 𝓤 Run _ (w ∷ []) ws)
    $ enter ! 𝓣.C 𝓣.Λ fn (w ∷ []) Post $ alloc_all ! (λ l. pass_all ! refl (typed, tt) $
    sets ! (of_opd ! (get_in ! (fld ! refl (stop !)) (sub ! 0 refl (whole !)))) refl (tt, tt)
    $ sets ! (of_opd ! (get_in ! (fld ! refl (stop !)) (sub ! 1 refl (whole !)))) refl fits $
    sets ! (of_opd ! (get ! refl)) refl (tt, tt)
    $ sets ! (agg ! (and_then ! (get ! refl) (and_then ! (get ! refl) (no_more !)))) refl typed $
    erased_in ! (block_ptr b o) h a (Some v.value)
    $ use0 𝓛 (raw (fact 𝓤 (Some v.value ≡ Some v.value))) (fact_i 𝓤 (Some v.value ≡ Some v.value) (emp 𝓤) refl)
    $ nothing ! $ nothing ! $ fjoin ! $
    returns ! (look_at ! 0 refl) $ free_all ! refl $ keep ! (4 ∷ 0 ∷ 2 ∷ 1 ∷ [])
    $ by ! (leaves 𝓛 ended hs c z w (record { at = block_ptr b o; alloc = a; value = Some v.value }) (tt, tt)
    (tt, tt)))))
