-- What gets of several tags by the hand give the user of a cache: all of them, or none.
use Rattle.std.specs.Prelude.{◌<◌, ◌∷◌, ◌≡◌, ◌≤◌}
use Rattle.tag_cache.proofs.Uses.{[], arith, Bool, Cache, cases_lt, Checks, Contains, false, Hand, IfOk, IfOk-weaker, IsUnchanged, KeepsSame, length, List, None, OnErr, Ordinary, Pool, RefusesBy, Result, SameWindow, Some, subst, sym, TagFault}
use Rattle.tag_cache.proofs.Uses.{true, Woken, ℕ, ⊎_elim}
use Rattle.std.proofs.lemmas.Result.{on_err_weaker}
use Rattle.tag_model.proofs.HoldingFacts.{more_then_same, same_then_same}
use Rattle.tag_pool.specs.Hands as hands
use Rattle.tag_pool.specs.Holding as hand_holding
use Rattle.tag_pool.specs.Many as hand_many
use Rattle.tag_cache.specs.Many.{HoldsAllOrSame, TalliesAllOrFewer}
use Rattle.tag_cache.proofs.Carrying.{more, same, still_on}
use Rattle.tag_cache.proofs.Gaining.{looked_rests}
use Rattle.tag_cache.proofs.Giving.{list_moves}
use Rattle.tag_cache.proofs.Steady.{Rests, rests_unchanged}
use Rattle.tag_cache.proofs.Tallying.{gets_moves, Moves, moves_tallies}

-- the hand gained all of these tags, or holds what it held and gave back what it won, fewer tags than these
abbrev pub GainsMany : {R : Type 0} → List ℕ → Bool → Hand R → Hand R → Type 0
GainsMany tags true old new = hand_holding.HoldsMore (Contains tags) old new × Moves (length tags) 0 old new
GainsMany tags false old new = hand_holding.HoldsSame old new × (won : ℕ) × (won < length tags) × Moves won won old new

module _ {R : Type 0} (pool : Pool R) where
  -- gets that won one tag each, in turn
  turns_move : (tags : List ℕ) (left : ℕ) (old new : Hand R) → hand_many.WinsInTurn pool tags left old new
      → Moves (length tags) 0 old new
  turns_move [] left old new wins = (rests_unchanged old new wins.1).moves
  turns_move (tag ∷ tags) left old new wins =
      let first = gets_moves pool Ordinary (Some tag) old wins.0 wins.2 in
      let rest = turns_move tags wins.1 wins.0 new wins.3 in
      let fw = first.won_is in let fb = first.back_is in let rw = rest.won_is in let rb = rest.back_is in
      record { won_is = omega arith; back_is = omega arith }

  any_moves : (tags : List ℕ) (old new : Hand R) → hand_many.GivesBackAny pool tags old new
      → Moves 0 (length tags) old new
  any_moves tags old new gives = ⊎_elim
      (λ (none : length tags < 1). let zero : length tags ≡ 0 = omega (arith, none) in
      subst (λ (n : ℕ). Moves 0 n old new) (sym zero) (rests_unchanged old new (gives.none zero)).moves)
      (λ (some : 1 ≤ length tags). list_moves pool tags old new (record { gives = gives.some some; back = gives.back }))
      (cases_lt (length tags) 1)

  short_moves : (n left : ℕ) (old new : Hand R) (short : hand_many.FallsShort pool n left old new)
      → Moves (length short.won) (length short.won) old new
  short_moves n left old new short = let wins = turns_move short.won short.between old short.full short.wins.gets in
      let none = gets_moves pool Ordinary None short.full short.tried short.none in
      let gives = any_moves short.won short.tried new short.gives in
      let ww = wins.won_is in let wb = wins.back_is in let nw = none.won_is in let nb = none.back_is in
      let gw = gives.won_is in let gb = gives.back_is in record { won_is = omega arith; back_is = omega arith }

  module _ (tags : List ℕ) where
    pub many_gains : (answer : Bool) (left : ℕ) (a b : Hand R) → hand_many.GetsMany pool tags answer left a b
        → GainsMany tags answer a b
    many_gains true left a b gets = (gets.1.more, turns_move tags gets.0 a b gets.1.gets)
    many_gains false left a b short = (
      short.same,
      length short.won,
      short.few,
      short_moves (length tags) left a b short,
    )

    -- who sees to what was left free changes nothing about it
    rested_gains : (answer : Bool) (a b c : Hand R) → GainsMany tags answer a b → Rests b c → GainsMany tags answer a c
    rested_gains true a b c gains rests = let gw = gains.1.won_is in let gb = gains.1.back_is in
        let rw = rests.moves.won_is in let rb = rests.moves.back_is in
        (more_then_same gains.0 rests.held, record { won_is = omega arith; back_is = omega arith })
    rested_gains false a b c gains rests = let gw = gains.3.won_is in let gb = gains.3.back_is in
        let rw = rests.moves.won_is in let rb = rests.moves.back_is in (
          same_then_same gains.0 rests.held,
          gains.1,
          gains.2,
          record { won_is = omega arith; back_is = omega arith },
        )

    pub looked_many : (answer : Bool) (woken : Woken) (a b : Hand R)
        → hand_many.GetsManyAndLooks pool tags answer woken a b → GainsMany tags answer a b
    looked_many answer woken a b gets = rested_gains answer a gets.searched b
        (many_gains answer gets.left a gets.searched gets.gets)
        (looked_rests Ordinary gets.left woken gets.searched b gets.looks)

module _ {R : Type 0} (tags : List ℕ) where
  -- the hand still has what it had
  gains_still : (answer : Bool) (a b : Hand R) → GainsMany tags answer a b → (tag : ℕ) → hands.Holds a tag
      → hands.Holds b tag
  gains_still true a b gains tag has = (gains.0.kept tag has).0
  gains_still false a b gains tag has = (gains.0.kept tag has).0

  -- also if the call was refused
  pub many_still : {A : Type 0} (answer : A → Bool) (unfilled : Type 0) (r : Result A TagFault) (a b : Hand R)
      → IfOk r (λ v. GainsMany tags (answer v) a b) → OnErr r ((b ≡ a) × unfilled) → (tag : ℕ) → hands.Holds a tag
      → hands.Holds b tag
  many_still answer unfilled r a b gains refused = still_on a b r (λ v. GainsMany tags (answer v) a b) gains
      (on_err_weaker r (λ (both : (b ≡ a) × unfilled). both.0) refused) (λ v. gains_still (answer v) a b)

  module _ (old new : Cache R) (keeps : KeepsSame old new) where
    user_gains : (answer : Bool) → GainsMany tags answer old.hand new.hand → HoldsAllOrSame answer tags old new
    user_gains true gains = more old new keeps (Contains tags) gains.0
    user_gains false gains = same old new keeps gains.0

    user_tallies : (answer : Bool) → GainsMany tags answer old.hand new.hand → TalliesAllOrFewer answer tags old new
    user_tallies true gains = moves_tallies (length tags) 0 old new keeps gains.1
    user_tallies false gains = (gains.1, gains.2, moves_tallies gains.1 gains.1 old new keeps gains.3)

    module _ {A : Type 0} (answer : A → Bool) (r : Result A TagFault)
        (gains : IfOk r (λ v. GainsMany tags (answer v) old.hand new.hand)) where
      pub all_or_same : IfOk r (λ v. HoldsAllOrSame (answer v) tags old new)
      all_or_same = IfOk-weaker r _ _ (λ v. user_gains (answer v)) gains

      pub all_or_fewer : IfOk r (λ v. TalliesAllOrFewer (answer v) tags old new)
      all_or_fewer = IfOk-weaker r _ _ (λ v. user_tallies (answer v)) gains

-- where the hand did nothing the cache is unchanged, and so is what the call would fill in
pub refuses_many : {R A : Type 0} {checks : Checks TagFault} {unfilled : Type 0} (r : Result A TagFault)
    (old new : Cache R) → KeepsSame old new → SameWindow old new
    → RefusesBy checks ((new.hand ≡ old.hand) × unfilled) r → RefusesBy checks (IsUnchanged old new × unfilled) r
refuses_many {unfilled = unfilled} r old new keeps window refusals = record {
  first = refusals.first;
  passes = refusals.passes;
  same = on_err_weaker r (λ (both : (new.hand ≡ old.hand) × unfilled).
      (record { hand = both.0; kept = keeps; window = window }, both.1)) refusals.same;
}
