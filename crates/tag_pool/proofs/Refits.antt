-- Hands whose ordinary callers were taken out, and were returned or moved to the next map.
use Rattle.std.specs.Prelude.{◌∷◌, ◌≡◌}
use Rattle.std.proofs.lemmas.List.Elements.{All-map}
use Rattle.tag_pool.proofs.Uses.{[], All, ap, arith, at_map, Caller, entry_or, get_elem?, get_or, Hand, IsHandOf, Kind, length, length-map, List, Map, map, Ordinary, Pool, Record, record_of, refl, Reserved, reserved_of, Side, side_of, some, subst, suc, sym, ℕ, ◌∙◌}
use mathlib.Core.Option.{some-injective}
use Rattle.step_ledger.specs.Gather.{HasAll}
use Rattle.tag_core.proofs.Entries.{all_at}
use Rattle.tag_core.proofs.Numbers.{numbers-records}
use Rattle.tag_core.specs.Callers as core
use Rattle.tag_core.specs.Gathering as tags
use Rattle.tag_core.specs.Reopening.{AreReopened}
use Rattle.tag_layout.specs.Layout.{Layout}
use Rattle.tag_pool.specs.Gathering.{callers_of, numbers_of}
use Rattle.tag_pool.specs.Opening.{ordinary_part}
use Rattle.tag_pool.specs.Resizing.{hints_of, IsResized, KeepsRest, layout_at, MoveOn}
use Rattle.tag_pool.specs.Shells.{FitShells, shell_of}
use Rattle.tag_pool.specs.Sides as side
use Rattle.tag_pool.specs.Using.{AreUnchanged}
use Rattle.tag_pool.specs.declared.resizes.shells.Shell.{Shell}
use Rattle.tag_pool.proofs.Gathered.{record_numbers}
use Rattle.tag_pool.proofs.StillSame.{unchanged_hand, unchanged_side}

module _ {R : Type 0} where
  -- each caller has the number of its hand
  abbrev pub AllServe : List (Hand R) → List (Caller R) → Type 0
  AllServe hands callers = (n : ℕ) (a : Hand R) (c : Caller R) → get_elem? hands n ≡ some a
      → get_elem? callers n ≡ some c → (record_of c).number ≡ side.number_of a.ordinary

  -- such callers fit the hands' shells
  pub fit_shells : (hands : List (Hand R)) (callers : List (Caller R)) → length callers ≡ length hands
      → AllServe hands callers → FitShells callers (map shell_of hands)
  fit_shells [] [] long serve = tt
  fit_shells [] (c ∷ callers) long serve = absurd (omega arith)
  fit_shells (a ∷ hands) [] long serve = absurd (omega arith)
  fit_shells (a ∷ hands) (c ∷ callers) long serve =
      (serve 0 a c refl refl, fit_shells hands callers (omega arith) (λ n x y p q. serve (suc n) x y p q))

  -- unchanged callers can replace the hands' own
  pub same_serve : (hands : List (Hand R)) (callers : List (Caller R))
      → core.AreUnchanged (map ordinary_part hands) callers → AllServe hands callers
  same_serve hands callers same n a c p q =
      ap (λ (r : Record R). r.number) (same.each n a.ordinary.caller c (at_map ordinary_part hands n a p) q).known
      ∙ a.ordinary.numbers

  -- and so can callers that moved to the next map
  pub moved_serve : (next : Map R) (hands : List (Hand R)) (callers : List (Caller R))
      → AreReopened next (map ordinary_part hands) callers → AllServe hands callers
  moved_serve next hands callers on n a c p q =
      ap (λ (r : Record R). r.number) (on.each n a.ordinary.caller c (at_map ordinary_part hands n a p) q).1
      ∙ a.ordinary.numbers

  -- a caller is unchanged from itself
  pub caller_refl : (c : Caller R) → core.IsUnchanged c c
  caller_refl c = record { known = refl; slots = λ tag. refl; same_map = refl }

  pub callers_refl : (callers : List (Caller R)) → core.AreUnchanged callers callers
  callers_refl callers = record {
    count = refl;
    each = λ n a b p q. subst (core.IsUnchanged a) (some-injective a b (sym p ∙ q)) (caller_refl a);
  }

  of_shells : {B : Type 0} (f : Shell R → B) (hands : List (Hand R))
      → map f (map shell_of hands) ≡ map (λ (a : Hand R). f (shell_of a)) hands
  of_shells f [] = refl
  of_shells {B} f (a ∷ hands) = ap (λ (l : List B). f (shell_of a) ∷ l) (of_shells f hands)

  module _ (hands news : List (Hand R)) (shells : map shell_of news ≡ map shell_of hands) where
    -- there are as many hands as before
    count_same : length news ≡ length hands
    count_same = sym (length-map news shell_of) ∙ ap length shells ∙ length-map hands shell_of

    -- each hand's shell is unchanged
    shell_same : (n : ℕ) (a b : Hand R) → get_elem? hands n ≡ some a → get_elem? news n ≡ some b
        → shell_of b ≡ shell_of a
    shell_same n a b p q = some-injective (shell_of b) (shell_of a)
        (sym (at_map shell_of news n b q) ∙ ap (λ (l : List (Shell R)). get_elem? l n) shells
        ∙ at_map shell_of hands n a p)

    -- hands whose ordinary callers are unchanged are unchanged
    pub hands_same : (callers : List (Caller R)) → map ordinary_part news ≡ callers
        → core.AreUnchanged (map ordinary_part hands) callers → AreUnchanged hands news
    hands_same callers is same = record {
      count = count_same;
      each = λ n a b p q.
          let one = same.each n a.ordinary.caller b.ordinary.caller (at_map ordinary_part hands n a p)
          (subst (λ (l : List (Caller R)). get_elem? l n ≡ some b.ordinary.caller) is (at_map ordinary_part news n b q)) in
          let shell = shell_same n a b p q in
          unchanged_hand a b (sides a b one shell) (ap (λ (s : Shell R). s.reserved_count) shell);
    }
      where
        sides : (a b : Hand R) → core.IsUnchanged a.ordinary.caller b.ordinary.caller → shell_of b ≡ shell_of a
            → (kind : Kind) → side.IsUnchanged (side_of a kind) (side_of b kind)
        sides a b one shell Ordinary = unchanged_side a.ordinary b.ordinary one (ap (λ (s : Shell R). s.hint) shell)
        sides a b one shell Reserved = subst (side.IsUnchanged a.reserved) (ap (λ (s : Shell R). s.reserved) (sym shell))
            (unchanged_side a.reserved a.reserved (caller_refl a.reserved.caller) refl)

    part_same : {B : Type 0} (f : Shell R → B)
        → map (λ (a : Hand R). f (shell_of a)) news ≡ map (λ (a : Hand R). f (shell_of a)) hands
    part_same f = sym (of_shells f news) ∙ ap (map f) shells ∙ of_shells f hands

    hints_same : (kind : Kind) → hints_of news kind ≡ hints_of hands kind
    hints_same Ordinary = part_same (λ (s : Shell R). s.hint)
    hints_same Reserved = part_same (λ (s : Shell R). s.reserved.hint)

    reserved_same : callers_of news Reserved ≡ callers_of hands Reserved
    reserved_same = part_same (λ (s : Shell R). s.reserved.caller)

    -- the hands belong to a pool with the same reserved set if their ordinary callers belong to its ordinary map
    pub own_again : (old new : Pool R) (callers : List (Caller R)) → All (IsHandOf old) hands
        → map ordinary_part news ≡ callers → All (core.IsCallerOf new.ordinary) callers → new.reserved ≡ old.reserved
        → reserved_of new ≡ reserved_of old → All (IsHandOf new) news
    own_again old new callers own is mine reserved split = λ k d l.
        let long = count_same in let b = get_or news k d in let a = get_or hands k d in
        let q = entry_or news k d l in let p = entry_or hands k d (omega arith) in let shell = shell_same k a b p q in
        let was = own k d (omega arith) in (
          subst (λ (z : Map R × Side R). side.IsSideOf z.0 z.1)
              (λ j. (sym reserved j, ap (λ (s : Shell R). s.reserved) (sym shell) j)) was.0,
          all_at (core.IsCallerOf new.ordinary) callers mine k b.ordinary.caller
              (subst (λ (l : List (Caller R)). get_elem? l k ≡ some b.ordinary.caller) is (at_map ordinary_part news k b q)),
          ap (λ (s : Shell R). s.reserved_count) shell ∙ was.2 ∙ sym split,
          ap (λ (s : Shell R). side.number_of s.reserved) shell ∙ was.3 ∙ ap (λ (s : Shell R). s.number) (sym shell),
        )

    -- the pool is resized if the ordinary callers moved to the next map and the rest was kept
    pub is_resized : (old new : Pool R) (total : ℕ) (layout : Layout) (callers : List (Caller R)) → All (IsHandOf old) hands
        → map ordinary_part news ≡ callers → layout ≡ layout_at old total
        → MoveOn layout old.ordinary (map ordinary_part hands) new.ordinary callers → KeepsRest old total new
        → IsResized old hands total new news
    is_resized old new total layout callers own is laid on rest = record {
      rest = rest;
      ordinary = subst (λ (z : Layout × List (Caller R)).
          MoveOn z.0 old.ordinary (map ordinary_part hands) new.ordinary z.1) (λ j. (laid j, sym is j)) on;
      reserved_callers = subst (core.AreUnchanged (callers_of hands Reserved)) (sym reserved_same)
          (callers_refl (callers_of hands Reserved));
      hints = hints_same;
      numbers = part_same (λ (s : Shell R). s.number);
      own = own_again old new callers own is on.own rest.reserved rest.split;
    }

module _ {R : Type 0} (pool : Pool R) (hands : List (Hand R)) (own : All (IsHandOf pool) hands) where
  -- the hands' ordinary callers belong to the map
  pub callers_own : All (core.IsCallerOf pool.ordinary) (map ordinary_part hands)
  callers_own = All-map (core.IsCallerOf pool.ordinary) ordinary_part hands (λ k d l. (own k d l).1)

  -- and all callers are present if all hands are
  pub callers_there : (count : ℕ) → HasAll (numbers_of hands) count → HasAll (tags.numbers_of (map ordinary_part hands)) count
  callers_there count = subst (λ (l : List ℕ). HasAll l count)
      (record_numbers pool hands own Ordinary ∙ numbers-records (map ordinary_part hands))

  module _ (seen callers : List (Caller R)) (shells : List (Shell R)) (apart : seen ≡ map ordinary_part hands)
      (left : shells ≡ map shell_of hands) where
    module _ (layout : Layout) (next : Map R) (on : MoveOn layout pool.ordinary seen next callers) where
      on_here : MoveOn layout pool.ordinary (map ordinary_part hands) next callers
      on_here = subst (λ (z : List (Caller R)). MoveOn layout pool.ordinary z next callers) apart on

      -- callers that moved to the next map fit the hands' shells
      pub fit_moved : FitShells callers shells
      fit_moved = subst (FitShells callers) (sym left) (fit_shells hands callers
          (on_here.callers.count ∙ length-map hands ordinary_part) (moved_serve next hands callers on_here.callers))

      -- and with them the hands are resized
      pub resized_here : (total : ℕ) (new : Pool R) (news : List (Hand R)) → next ≡ new.ordinary
          → map ordinary_part news ≡ callers → map shell_of news ≡ shells → layout ≡ layout_at pool total
          → KeepsRest pool total new → IsResized pool hands total new news
      resized_here total new news at is same laid rest =
          is_resized hands news (same ∙ left) pool new total layout callers own is laid
          (subst (λ (z : Map R). MoveOn layout pool.ordinary (map ordinary_part hands) z callers) at on_here) rest

    module _ (same : core.AreUnchanged seen callers) where
      same_here : core.AreUnchanged (map ordinary_part hands) callers
      same_here = subst (λ (z : List (Caller R)). core.AreUnchanged z callers) apart same

      -- callers that were returned fit the hands' shells, too
      pub fit_back : FitShells callers shells
      fit_back = subst (FitShells callers) (sym left) (fit_shells hands callers (same_here.count
          ∙ length-map hands ordinary_part) (same_serve hands callers same_here))

      pub back_here : (news : List (Hand R)) → map ordinary_part news ≡ callers → map shell_of news ≡ shells
          → AreUnchanged hands news
      back_here news is shells_are = hands_same hands news (shells_are ∙ left) callers is same_here
