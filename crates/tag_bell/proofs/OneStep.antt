-- What is known of all callers together, and which steps keep it.
use Rattle.std.specs.Prelude.{◌<◌, ◌∷◌, ◌≡◌, ◌≢◌, ◌⊎◌}
use Rattle.tag_bell.proofs.Uses.{ap, Berth, berth_after, Bool, cond, dite, eq-eqb, History, inl, inr, IsFreeAt, IsListed, IsListedAs, IsTold, List, ne_eqb, Owes, refl, Saw, Spot, Step, steps_by, subst, sym, Tried, Waiter, ℕ, ℕ_discrete}

-- what the steps and the berth of one caller say: it is on the way to this spot for the sake of e, whose berth is
-- still as it found it
abbrev pub WayOf : {R : Type 0} → (Waiter → Bool) → List (Step R) → Berth → Spot → ℕ → Berth → Type 0
WayOf kinds own b spot e theirs =
    (Owes kinds own spot e × ((w : Waiter) (t : ℕ) → Saw kinds own spot e w t → IsListedAs w t theirs)) ⊎ IsTold kinds b

-- some caller is
abbrev pub Someone : {R : Type 0} → ℕ → (Waiter → Bool) → History R → Spot → ℕ → Berth → Type 0
Someone n kinds h spot e theirs = (d : ℕ) × (d < n) × WayOf kinds (steps_by d h) (berth_after h d) spot e theirs

-- if somebody is listed and has tried a spot in vain where a tag is free, some caller is on the way to it for its sake
abbrev pub Covered : {R : Type 0} → ℕ → (Waiter → Bool) → History R → Type 0
Covered n kinds h = (e : ℕ) → IsListed kinds (berth_after h e) → (spot : Spot) → Tried (steps_by e h) spot
    → IsFreeAt h spot → Someone n kinds h spot e (berth_after h e)

module _ {R : Type 0} (n : ℕ) (kinds : Waiter → Bool) (c : ℕ) (in_range : c < n) (x : Step R) (h : History R)
    (k : Covered n kinds h) where
  abbrev pub next : History R
  next = (c, x) ∷ h

  -- the caller's own steps with this one
  abbrev own : List (Step R)
  own = x ∷ steps_by c h

  own_here : steps_by c next ≡ x ∷ steps_by c h
  own_here = ap (λ (b : Bool). cond b (x ∷ steps_by c h) (steps_by c h)) (eq-eqb c c refl)

  own_else : (d : ℕ) → d ≢ c → steps_by d next ≡ steps_by d h
  own_else d ne = ap (λ (b : Bool). cond b (x ∷ steps_by d h) (steps_by d h)) (ne_eqb c d (λ e. ne (sym e)))

  -- the caller itself is on the way after the step
  itself : (spot : Spot) (e : ℕ) → WayOf kinds own (berth_after next c) spot e (berth_after next e)
      → Someone n kinds next spot e (berth_after next e)
  itself spot e w = (
    c,
    in_range,
    subst (λ (s : List (Step R)). WayOf kinds s (berth_after next c) spot e (berth_after next e)) (sym own_here) w,
  )

  -- of the others, whoever is listed was so before, and whoever was told still is; where a tag is free, one was before,
  -- or the caller is on the way to it; and the caller has no duty less to one whose berth is as it was
  pub carries : ((e : ℕ) → e ≢ c → IsListed kinds (berth_after next e) → berth_after next e ≡ berth_after h e)
      → ((d : ℕ) → d ≢ c → IsTold kinds (berth_after h d) → IsTold kinds (berth_after next d))
      → ((spot : Spot) (e : ℕ) → IsFreeAt next spot
      → IsFreeAt h spot ⊎ WayOf kinds own (berth_after next c) spot e (berth_after next e))
      → ((spot : Spot) → IsFreeAt next spot → IsListed kinds (berth_after next c) → Tried own spot
      → (berth_after next c ≡ berth_after h c) × Tried (steps_by c h) spot)
      → ((spot : Spot) (e : ℕ) → IsFreeAt next spot → IsListed kinds (berth_after next e)
      → WayOf kinds (steps_by c h) (berth_after h c) spot e (berth_after next e)
      → WayOf kinds own (berth_after next c) spot e (berth_after next e))
      → Covered n kinds next
  carries held told tags tried ways e listed spot seen free = covers (tags spot e free)
    where
      -- whoever was on the way is still
      moved : Someone n kinds h spot e (berth_after next e) → Someone n kinds next spot e (berth_after next e)
      moved w = dite (ℕ_discrete w.0 c)
          (λ (same : w.0 ≡ c). itself spot e (ways spot e free listed (subst
          (λ (d : ℕ). WayOf kinds (steps_by d h) (berth_after h d) spot e (berth_after next e)) same w.2)))
          (λ (ne : w.0 ≢ c). (
            w.0,
            w.1,
            subst (λ (s : List (Step R)). WayOf kinds s (berth_after next w.0) spot e (berth_after next e))
                (sym (own_else w.0 ne)) (later ne w.2),
          ))
        where
          later : w.0 ≢ c → WayOf kinds (steps_by w.0 h) (berth_after h w.0) spot e (berth_after next e)
              → WayOf kinds (steps_by w.0 h) (berth_after next w.0) spot e (berth_after next e)
          later ne (inl owes) = inl owes
          later ne (inr was) = inr (told w.0 ne was)

      before : berth_after next e ≡ berth_after h e → Tried (steps_by e h) spot → IsFreeAt h spot
          → Someone n kinds next spot e (berth_after next e)
      before same saw was = moved (subst (Someone n kinds h spot e) (sym same)
          (k e (subst (IsListed kinds) same listed) spot saw was))

      covers : IsFreeAt h spot ⊎ WayOf kinds own (berth_after next c) spot e (berth_after next e)
          → Someone n kinds next spot e (berth_after next e)
      covers (inr way) = itself spot e way
      covers (inl was) = dite (ℕ_discrete e c)
          (λ (it : e ≡ c). let back = tried spot free (subst (λ (z : ℕ). IsListed kinds (berth_after next z)) it listed)
          (subst (λ (s : List (Step R)). Tried s spot) own_here
          (subst (λ (z : ℕ). Tried (steps_by z next) spot) it seen)) in
          before (subst (λ (z : ℕ). berth_after next z ≡ berth_after h z) (sym it) back.0)
          (subst (λ (z : ℕ). Tried (steps_by z h) spot) (sym it) back.1) was)
          (λ (ne : e ≢ c). before (held e ne listed)
          (subst (λ (s : List (Step R)). Tried s spot) (own_else e ne) seen) was)
