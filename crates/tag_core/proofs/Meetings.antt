-- Two callers whose records stand in one view hold no tag in common.
use Rattle.std.specs.Prelude.{◌∷◌, ◌≡◌, ◌≢◌}
use Rattle.tag_core.proofs.Uses.{[], Allows, ap, AreApart, arith, get_elem?, held_bit, IsKnown, Me, met, ne_eqb, none, Place, Record, refl, Shape, ShareHistory, Shown, some, State, step, subst, sym, View, viewing, world_of, ℕ, ◌∙◌}
use Rattle.tag_core.proofs.Fronts.{idle_allowed}

-- one place has one holder
one_holder : (place : Place) (a b : ℕ) → a ≢ b → held_bit a place ≡ 1 → held_bit b place ≢ 1
one_holder place a b differ held_by_a held_by_b = grind (arith, ne_eqb)

module _ {R : Type 0} (k : Shape) (s : State R (View R)) (sh : Shown k s) (id : ℕ) (first second : Record R)
    (at : get_elem? s.views id ≡ some (viewing (first ∷ second ∷ []))) where
  abbrev Stands : ℕ → Record R → Type 0
  Stands position r = IsKnown k sh.history r × (sh.seat r.number ≡ id) × (sh.position r.number ≡ position)

  first_stands : Stands 0 first
  first_stands = sh.records id (viewing (first ∷ second ∷ [])) at 0 first refl

  second_stands : Stands 1 second
  second_stands = sh.records id (viewing (first ∷ second ∷ [])) at 1 second refl

  -- one number has one position
  pub two_numbers : first.number ≢ second.number
  two_numbers same =
      let one : ◌≡◌ {A = ℕ} 0 1 = sym first_stands.2 ∙ ap sh.position same ∙ second_stands.2 in absurd (omega arith)

  -- no tag is in both held sets
  pub no_common_tag : AreApart k first second
  no_common_tag tag low in_first in_second =
      one_holder ((world_of k sh.history).place tag) first.number second.number two_numbers
      (first_stands.0.held tag low ∙ in_first)
      (second_stands.0.held tag low ∙ in_second)

  -- one history shows both
  pub one_history : ShareHistory k first second
  one_history = record {
    history = sh.history;
    lawful = sh.lawful;
    first_known = first_stands.0;
    second_known = second_stands.0;
  }

  -- the first record knows the shape
  pub shape_of_first : k ≡ first.shape
  shape_of_first = sym first_stands.0.shape

-- the table allows a load by which two callers meet
pub meet_allowed : (R : Type 0) (k : Shape) (slots id : ℕ) (me : Me R (View R))
    → Allows (Shown k) slots id me 0 (λ n. n) (met (step slots 0 0 0 none) me)
meet_allowed R k slots id me = idle_allowed R k slots id me _
    (λ s sh at first second e.
    let here : get_elem? s.views id ≡ some (viewing (first ∷ second ∷ [])) = at ∙ ap some e in
    subst (λ (z : Shape). (first.number ≢ second.number) × AreApart z first second × ShareHistory z first second)
    (shape_of_first k s sh id first second here) (
      two_numbers k s sh id first second here,
      no_common_tag k s sh id first second here,
      one_history k s sh id first second here,
    ))
