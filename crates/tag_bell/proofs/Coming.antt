-- Sleepers that were told and are not up yet: each of them comes to every tag.
use Rattle.std.specs.Prelude.{◌∷◌, ◌-◌, ◌≡◌, ◌≢◌, ◌⊎◌, count_ones, min}
use Rattle.tag_bell.proofs.Uses.{[], ap, arith, Bell, Berth, bit_or, Caller, dite, inl, inr, IsCallerOf, IsDoneWith, IsTold, List, Listed, Listener, LookAt, or_zero_l, Owes, OwesNothing, Record, record_of, refl, same_waiter, Shape, Sleeper, Spot, Step, subst, sym, Tell, TellsMost, Told, Up, Waiter, ℕ, ℕ_discrete, ◌∙◌, ⊎_elim}
use Rattle.tag_core.proofs.OneBit.{count_ones-zero}
use Rattle.tag_core.specs.declared.map.Map.{Map}
use Rattle.tag_bell.specs.Callers.{layout_of}
use Rattle.tag_bell.specs.Coming.{coming_bit, coming_in, room_of}
use Rattle.tag_bell.specs.Lines.{GoesOn}
use Rattle.tag_bell.specs.Telling.{TellsSleepers}
use Rattle.tag_bell.proofs.Lines.{done_on}
use Rattle.tag_bell.proofs.Rung.{steps_added}

-- whoever has a bit was told
told_by_bit : (whom : ℕ) (b : Berth) → coming_bit whom b ≢ 0 → IsTold (same_waiter Sleeper) b
told_by_bit whom Up some = absurd (some refl)
told_by_bit whom (Listed w t) some = absurd (some refl)
told_by_bit whom (Told Sleeper t) some = refl
told_by_bit whom (Told Listener t) some = absurd (some refl)

module _ {R : Type 0} where
  -- whoever finds one that comes has to see to nothing for the sake of sleepers
  coming_owes : (own : List (Step R)) (spot : Spot) (e : ℕ) → coming_in own ≢ 0
      → ¬ Owes (same_waiter Sleeper) own spot e
  coming_owes [] spot e some owes = some refl
  coming_owes (Bell (LookAt whom b) ∷ older) spot e some owes = dite (ℕ_discrete (coming_in older) 0)
      (λ (none : coming_in older ≡ 0). owes.0.0 (told_by_bit whom b (λ no_bit.
      some (ap (λ (n : ℕ). bit_or n (coming_bit whom b)) none ∙ or_zero_l (coming_bit whom b) ∙ no_bit))))
      (λ (before : coming_in older ≢ 0). coming_owes older spot e before owes.1)
  coming_owes (Bell (Tell whom w t b) ∷ older) spot e some owes = coming_owes older spot e some owes.2
  coming_owes (step ∷ older) spot e some owes = some refl

  -- if there is room for nobody, there is nothing to see to
  pub no_room : (caller : Caller R) → room_of caller ≡ 0 → OwesNothing Sleeper caller
  no_room caller none tag low e owes = let own = (record_of caller).steps in
      let some : coming_in own ≢ 0 =
      λ nobody. let no_ones = count_ones-zero in let same = ap count_ones nobody in absurd (omega arith) in
      ⊎_elim (coming_owes own _ e some) (coming_owes own _ e some) owes

  -- how much room a map has is how much its caller has
  pub room_is : (m : Map R) (caller : Caller R) → IsCallerOf m caller → (coming : ℕ)
      → coming ≡ coming_in (record_of caller).steps → m.shape.layout.depth - count_ones coming ≡ room_of caller
  room_is m caller own coming come = let depth : m.shape.layout.depth ≡ (layout_of caller).depth =
      sym (ap (λ (k : Shape). k.layout.depth) own.1) in λ j. depth j - count_ones (come j)

  -- nobody was told, as there is room for nobody, or the caller is done with each
  pub tells_nobody : (most told : ℕ) (kind : Waiter) (caller : Caller R) → told ≡ 0
      → (most ≡ 0) ⊎ ((e : ℕ) → IsDoneWith (same_waiter kind) (record_of caller).steps e)
      → TellsMost most kind told caller
  tells_nobody most told kind caller none why = let no_ones = ap count_ones none ∙ count_ones-zero in
      record { few = omega arith; enough = ⊎_elim (λ no. inl (no_ones ∙ sym no)) (λ done. inr done) why }

  module _ (m : ℕ) (told : Waiter → ℕ) (a b : Caller R) (goes : GoesOn m told a b)
      (same : coming_in (record_of b).steps ≡ coming_in (record_of a).steps) where
    -- a part of a round that finds no others coming leaves as much room
    pub same_room : room_of b ≡ room_of a
    same_room = let depth : (layout_of b).depth ≡ (layout_of a).depth =
        ap (λ (r : Record R). r.shape.layout.depth) goes.only.known in λ j. depth j - count_ones (same j)

    pub goes_sleepers : (most those : ℕ) → TellsSleepers most those a → TellsSleepers most those b
    goes_sleepers most those tells = subst (λ (room : ℕ). TellsMost (min most room) Sleeper those b) (sym same_room)
        (record {
          few = tells.few;
          enough = ⊎_elim (λ all. inl all) (λ done. inr (λ e.
              subst (λ (s : List (Step R)). IsDoneWith (same_waiter Sleeper) s e)
              (sym (steps_added goes.steps a b goes.only))
              (done_on (same_waiter Sleeper) e goes.steps (record_of a).steps goes.are (done e)))) tells.enough;
        })
