-- All hands together: their numbers, and the sums over both sets.
use Rattle.std.specs.Prelude.{◌*◌, ◌+◌, ◌∷◌, ◌≡◌, ◌≤◌}
use Rattle.std.proofs.Math.Nat.{mul-le-mul_right}
use Rattle.tag_pool.proofs.Uses.{[], All, ap, arith, Hand, IsHandOf, Kind, length, List, Ordinary, Pool, Record, record_of, refl, Reserved, subst, suc, sym, ◌∙◌}
use Rattle.tag_core.specs.Gathering as tags
use Rattle.tag_core.specs.Sizes.{total_of}
use Rattle.tag_core.specs.declared.closed.Closed.{Closed}
use Rattle.tag_core.specs.declared.together.Gathering.{Gathering}
use Rattle.tag_model.specs.declared.totals.Totals.{Totals}
use Rattle.tag_model.specs.declared.world.TheConstants.{MOST_WON}
use Rattle.tag_core.specs.declared.shape.Shape.{Shape}
use Rattle.tag_pool.specs.Hands.{caller_of, number_of}
use Rattle.tag_pool.specs.Gathering.{IsGathered, IsSmall, numbers_of, records_of, shape_of, totals_of_both}

module _ {R : Type 0} where
  -- the records in each set have the numbers of the hands
  pub record_numbers : (pool : Pool R) (hands : List (Hand R)) → All (IsHandOf pool) hands → (kind : Kind)
      → numbers_of hands ≡ tags.numbers (records_of hands kind)
  record_numbers pool [] own kind = refl
  record_numbers pool (hand ∷ hands) own kind =
      let rest = record_numbers pool hands (λ k d l. own (suc k) d (omega arith)) kind in
      let mine = own 0 hand (omega arith) in
      (λ j. first mine kind j ∷ rest j)
    where
      first : IsHandOf pool hand → (kind : Kind) → number_of hand ≡ (record_of (caller_of hand kind)).number
      first mine Ordinary = sym hand.ordinary.numbers
      first mine Reserved = sym mine.3 ∙ sym hand.reserved.numbers

  -- the sums over callers that were gathered fit
  pub small_totals : (gathering : Gathering R) (rs : List (Record R)) (closed : Closed R) (k : Shape)
      → tags.gathered gathering ≡ rs → tags.IsGathered k rs closed → IsSmall closed.totals
  small_totals gathering rs closed k are g =
      let few = gathering.few in let won = gathering.small.0 in let sum = gathering.sums.0 in
      let same = ap (λ (z : List (Record R)). total_of (λ (r : Record R). r.won) z) are in
      let most : length (tags.gathered gathering) * MOST_WON ≤ 64 * MOST_WON = mul-le-mul_right MOST_WON few in
      let got = g.got in let balance = g.balance in (omega arith, omega arith, omega arith, omega arith)

  -- both sets are gathered
  pub gathers : (pool : Pool R) (hands : List (Hand R)) (one other : Closed R) (sums : Totals)
      → sums ≡ totals_of_both one.totals other.totals
      → tags.IsGathered (shape_of pool Ordinary) (records_of hands Ordinary) one
      → tags.IsGathered (shape_of pool Reserved) (records_of hands Reserved) other
      → IsGathered pool hands sums
  gathers pool hands one other sums is o r = record {
    ordinary = one;
    reserved = other;
    ordinary_is = o;
    reserved_is = r;
    totals_are = is;
    balance = subst (λ (t : Totals). t.got ≡ t.back + t.held + t.posted) (sym is)
        (let a = o.balance in let b = r.balance in omega arith);
  }
