-- The steps by which a caller begins to wait, and those by which it ends its wait.
use Rattle.std.specs.Prelude.{◌∷◌, ◌≡◌, None, Option, Some}
use Rattle.tag_bell.proofs.Uses.{[], Adds, ap, Bell, Berth, Caller, Enlist, Enter, GetUp, Leave, List, LookAt, OnlyAdds, Record, record_of, refl, Step, subst, sym, TakeTurn, Waiter, waits_as, ℕ}
use mathlib.Core.Option as maybe
use Rattle.tag_bell.specs.declared.waiting.Turn.{Turn}
use Rattle.tag_bell.specs.declared.waiting.Turn.TheVariants.{Next, Same}
use Rattle.tag_bell.specs.Entering.{FindsTurn, IsListing, ListsSelf, LooksFirst}
use Rattle.tag_bell.proofs.Rung.{added_after, rung, steps_added}

-- the look that a caller made if it was to keep its turn
record HasLooked {R : Type 0} (turn : Turn) (kept : Option ℕ) (old new : Caller R) : Type 0 where
  pub look : List (Step R)
  pub looks : LooksFirst turn (record_of old).number kept look
  pub only : OnlyAdds look old new

has_looked : {R : Type 0} (turn : Turn) (kept : Option ℕ) (old new : Caller R) → FindsTurn turn kept old new
    → HasLooked turn kept old new
has_looked Next kept old new finds = record {
  look = [];
  looks = (finds.0, refl);
  only = record {
    known = ap (λ (w : Caller _). record_of w) finds.1;
    same_map = ap (λ (w : Caller _). w.seat.table_id) finds.1;
  };
}
has_looked Same kept old new finds =
    record { look = Bell (LookAt (record_of old).number finds.0) ∷ []; looks = (finds.0, refl, finds.2); only = finds.1 }

module _ {R : Type 0} (waiter : Waiter) (turn : Turn) (kept : Option ℕ) (old mid new : Caller R)
    (finds : FindsTurn turn kept old mid) where
  -- it listed itself by these steps after that look
  lists : (listing : List (Step R)) → OnlyAdds listing mid new → IsListing {R = R} (record_of mid).number waiter kept listing
      → ListsSelf waiter turn old new
  lists listing only is = let first = has_looked turn kept old mid finds in record {
    kept = kept;
    look = first.look;
    listing = listing;
    looks = first.looks;
    lists = subst (λ (n : ℕ). IsListing {R = R} n waiter kept listing) (ap (λ (r : Record R). r.number) first.only.known) is;
    only = added_after first.look listing old mid new first.only only;
  }

  -- with the turn that it kept
  pub lists_again : (t : ℕ) (found : Berth) → kept ≡ Some t
      → Adds (Bell (Enlist (record_of mid).number waiter t found)) mid new → ListsSelf waiter turn old new
  lists_again t found is did = let steps : List (Step R) = Bell (Enlist (record_of mid).number waiter t found) ∷ [] in
      lists steps (rung (Enlist (record_of mid).number waiter t found) mid new did)
      (subst (λ (k : Option ℕ). IsListing {R = R} (record_of mid).number waiter k steps) (sym is) (found, refl))

  -- with the next one
  pub lists_anew : (t all : ℕ) (found : Berth) (a b : Caller R) → kept ≡ None → Adds (Bell (TakeTurn t)) mid a
      → Adds (Bell (Enter (record_of a).number all)) a b → Adds (Bell (Enlist (record_of b).number waiter t found)) b new
      → ListsSelf waiter turn old new
  lists_anew t all found a b none took joined did = lists steps only
      (subst (λ (k : Option ℕ). IsListing {R = R} who waiter k steps) (sym none) (t, all, found, refl))
    where
      who : ℕ
      who = (record_of mid).number

      steps : List (Step R)
      steps = Bell (Enlist who waiter t found) ∷ Bell (Enter who all) ∷ Bell (TakeTurn t) ∷ []

      first : OnlyAdds (Bell (TakeTurn t) ∷ []) mid a
      first = rung (TakeTurn t) mid a took

      next : OnlyAdds (Bell (Enter who all) ∷ Bell (TakeTurn t) ∷ []) mid b
      next = added_after (Bell (TakeTurn t) ∷ []) (Bell (Enter who all) ∷ []) mid a b first
          (subst (λ (n : ℕ). OnlyAdds (Bell (Enter n all) ∷ []) a b) (ap (λ (r : Record R). r.number) first.known)
          (rung (Enter (record_of a).number all) a b joined))

      only : OnlyAdds steps mid new
      only = added_after (Bell (Enter who all) ∷ Bell (TakeTurn t) ∷ []) (Bell (Enlist who waiter t found) ∷ []) mid b new
          next (subst (λ (n : ℕ). OnlyAdds (Bell (Enlist n waiter t found) ∷ []) b new)
          (ap (λ (r : Record R). r.number) next.known) (rung (Enlist (record_of b).number waiter t found) b new did))

-- the caller got up, and left all who wait
module _ {R : Type 0} (all : ℕ) (found : Berth) (old mid new : Caller R)
    (first : Adds (Bell (GetUp (record_of old).number found)) old mid) where
  up : OnlyAdds (Bell (GetUp (record_of old).number found) ∷ []) old mid
  up = rung (GetUp (record_of old).number found) old mid first

  pub has_got_up : waits_as (record_of mid).steps ≡ maybe.none
  has_got_up = ap waits_as (steps_added (Bell (GetUp (record_of old).number found) ∷ []) old mid up)

  pub has_left : Adds (Bell (Leave (record_of mid).number all)) mid new
      → OnlyAdds (Bell (Leave (record_of old).number all) ∷ Bell (GetUp (record_of old).number found) ∷ []) old new
  has_left next = added_after (Bell (GetUp (record_of old).number found) ∷ [])
      (Bell (Leave (record_of old).number all) ∷ []) old mid new up
      (subst (λ (n : ℕ). OnlyAdds (Bell (Leave n all) ∷ []) mid new) (ap (λ (r : Record R). r.number) up.known)
      (rung (Leave (record_of mid).number all) mid new next))
