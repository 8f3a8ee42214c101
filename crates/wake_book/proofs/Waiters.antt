-- What a waiter is after steps of its own.
use Rattle.std.specs.Prelude.{◌<◌, ◌^◌, ◌∷◌, ◌≡◌, ◌≤◌}
use Rattle.wake_book.proofs.Uses.{[], ap, arith, GroupStep, Me, moved_by, Option, own_view, pushed, Record, Records, settled, StandsSo, Stepped, steps_of, subst, sym, total, with_step, ℕ, ◌∙◌}
use Rattle.wake_book.specs.declared.groups.Groups.{Groups}

-- what a waiter with this number and these fields promises of its seat
abbrev pub Promises : ℕ → Option ℕ → ℕ → ℕ → Me (Unit {0}) (Records GroupStep) → Type 0
Promises number standing next moved me = record {
  knows : me ≡ (own_view (record { number = number; steps = steps_of me.0 }), []);
  stands : StandsSo standing (steps_of me.0);
  within : next < 8;
  moves : (moved ≡ total moved_by (steps_of me.0)) × (moved ≤ 2 ^ 56);
}

module _ (r : Record GroupStep) (me me' : Me (Unit {0}) (Records GroupStep)) (is : me ≡ (own_view r, [])) (x : GroupStep)
    (did : Stepped x me me') where
  -- the seat knows the step
  pub made : me' ≡ (own_view (with_step x r), [])
  made = pushed me me' r x is did

  -- the list begins with it
  pub made_steps : steps_of me'.0 ≡ x ∷ r.steps
  made_steps = ap (λ (z : Me (Unit {0}) (Records GroupStep)). steps_of z.0) made

  -- so what holds of that list holds of the waiter
  pub after : (standing : Option ℕ) (next moved : ℕ) → StandsSo standing (x ∷ r.steps) → next < 8
      → moved ≡ total moved_by (x ∷ r.steps) → moved ≤ 2 ^ 56 → Promises r.number standing next moved me'
  after standing next moved stands within moves most = record {
    knows = settled me' (with_step x r) made;
    stands = subst (StandsSo standing) (sym made_steps) stands;
    within = within;
    moves = (moves ∙ sym (ap (total moved_by) made_steps), most);
  }

-- groups have at most 64 waiters
pub few : (g : Groups) → g.table.shared.key ≤ 64
few g = let told = g.told in let small = g.small in omega arith
