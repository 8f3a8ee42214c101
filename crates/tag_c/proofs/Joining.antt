-- Where the gets of a hand that joins begin.
use Rattle.std.specs.Prelude.{◌*◌, ◌/◌, ◌≡◌}
use Rattle.tag_c.proofs.Uses.{ap, arc_value, BeginsInPart, Bool, false, Gives, Hand, hint_of, OpenPool, Pool, refl, subst, sym, Takes, true, ℕ, ◌∙◌}
use Rattle.tag_core.specs.Callers as core
use Rattle.tag_core.specs.declared.map.Map.{Map}
use Rattle.tag_search.specs.declared.hint.Hint.{Hint}
use Rattle.tag_pool.specs.Hands.{map_of}
use Rattle.tag_pool.specs.Lending.{side_of}
use Rattle.tag_pool.specs.Placing.{IsPlaced}
use Rattle.tag_pool.specs.Sides as side
use Rattle.tag_pool.specs.declared.side.Side.{Side}
use Rattle.tag_c.specs.Joins.{SameButHint}

-- `false` is not `true`
false_true : false ≡ true → ⊥
false_true is = cc

-- the hint at the first tag of the part of the hand with this number
abbrev hint_of_part : Map ℕ → ℕ → Bool → Hint
hint_of_part map number round = record {
  at = (number * (core.layout_of map).depth) / map.shape.callers;
  round_robin = round;
}

-- a side with the same number and the same way of going round has the same part
same_part : (map : Map ℕ) (old new : Side ℕ) → side.number_of new ≡ side.number_of old
    → (side.hint_of new).round_robin ≡ (side.hint_of old).round_robin → side.hint_in_part map old ≡ side.hint_in_part map new
same_part map old new number round =
    ap (λ (n : ℕ). hint_of_part map n (side.hint_of old).round_robin) (sym number)
    ∙ ap (λ (r : Bool). hint_of_part map (side.number_of new) r) (sym round)

-- a hand whose hints were moved begins in its own part
begins : (tags seen : Pool ℕ) (old new : Hand ℕ) → seen ≡ tags → IsPlaced seen old new → BeginsInPart tags new
begins tags seen old new same placed = λ kind. let there = placed.sides kind in
    let part : hint_of new kind ≡ side.hint_in_part (map_of tags kind) (side_of old kind) =
    there.hint ∙ ap (λ (t : Pool ℕ). side.hint_in_part (map_of t kind) (side_of old kind)) same in
    part ∙ same_part (map_of tags kind) (side_of old kind) (side_of new kind) there.number
    (ap (λ (h : Hint). h.round_robin) part)

module _ (placed : Bool) (old new : OpenPool) (found hand : Hand ℕ) (takes : Takes old found new) where
  -- a hand that stays is given as it was
  pub gives_as_it_was : placed ≡ false → hand ≡ found → Gives placed old new hand
  gives_as_it_was stays is = record {
    found = found;
    takes = takes;
    stays = λ _. is;
    begins = λ moves. absurd (false_true (sym stays ∙ moves));
    same = subst (λ (h : Hand ℕ). SameButHint found h) (sym is) (λ kind. refl);
  }

  -- a hand whose hints were moved is given placed
  pub gives_placed : placed ≡ true → (moved : Hand ℕ) → hand ≡ moved → (seen : Pool ℕ) → seen ≡ (arc_value old.shared).tags
      → IsPlaced seen found moved → Gives placed old new hand
  gives_placed moves moved is seen here there = record {
    found = found;
    takes = takes;
    stays = λ stays. absurd (false_true (sym stays ∙ moves));
    begins = λ _. subst (λ (h : Hand ℕ). BeginsInPart (arc_value old.shared).tags h) (sym is)
        (begins (arc_value old.shared).tags seen found moved here there);
    same = subst (λ (h : Hand ℕ). SameButHint found h) (sym is) (λ kind. (there.sides kind).caller);
  }
