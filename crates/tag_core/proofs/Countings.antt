-- A seat counts the records that it has.
use Rattle.std.specs.Prelude.{◌∷◌, ◌≡◌, ◌≤◌}
use Rattle.tag_core.proofs.Uses.{Allows, ap, counted, get_elem?, length, Me, none, refl, Shape, Shown, some, step, subst, sym, View, viewing, ℕ, ◌∙◌}
use Rattle.tag_core.proofs.Fronts.{idle_allowed}
use Rattle.tag_core.proofs.Ends.{few_records}

-- the table allows a load by which a seat counts its records
pub count_allowed : (R : Type 0) (k : Shape) (d id : ℕ) (me : Me R (View R))
    → Allows (Shown k) d id me 0 (λ n. n) (counted (step d 0 0 0 none) me)
count_allowed R k d id me = idle_allowed R k d id me _
    (λ s sh at r rs e.
    let here : get_elem? s.views id ≡ some (viewing (r ∷ rs)) = at ∙ ap some e in
    let known = sh.records id (viewing (r ∷ rs)) here 0 r refl in
    subst (λ (z : Shape). length (r ∷ rs) ≤ z.callers) (sym known.0.shape)
    (few_records k s sh id (viewing (r ∷ rs)) here))
