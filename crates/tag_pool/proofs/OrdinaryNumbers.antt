-- The ordinary tags of a list, and their numbers in the ordinary set.
use Rattle.std.specs.Prelude.{◌+◌, ◌-◌, ◌<◌, ◌↔◌, ◌≡◌, ◌≤◌}
use Rattle.tag_pool.proofs.Uses.{All, ap, AreHeldOnce, AreOrdinary, AreTags, arith, Caller, Contains, get_or, get_or-map, Hand, Holds, HoldsOnce, IsHandOf, Kind, layout_of, length, length-map, List, Map, number_in_set, numbers_of, Ordinary, Pool, refl, reserved_of, Shape, Side, side_of, split_of, subst, sym, ℕ, ◌∙◌}
use Rattle.tag_core.specs.Callers as core
use Rattle.tag_pool.specs.Batches.{GivesBack}
use Rattle.tag_pool.specs.Runs.{Gives}
use Rattle.tag_pool.specs.Sides as side
use Rattle.tag_pool.proofs.Getting.{set_like}
use Rattle.tag_pool.proofs.Lifting.{less}
use Rattle.tag_pool.proofs.Numbering.{ordinary_above}
use Rattle.tag_model.proofs.HoldingFacts.{less_like}

module _ (first : ℕ) (list : List ℕ) where
  -- there are as many numbers as tags
  pub number_count : length (numbers_of first list) ≡ length list
  number_count = length-map list (λ tag. tag - first)

  pub number_is : (k : ℕ) → k < length list → get_or (numbers_of first list) k 0 ≡ get_or list k 0 - first
  number_is k l = get_or-map (λ tag. tag - first) list k 0 0 l

  -- a number that is held is one of the map's
  pub number_low : {R : Type 0} (map : Map R) (caller : Caller R) → core.IsCallerOf map caller
      → HoldsOnce caller (numbers_of first list) → (k : ℕ) → k < length list
      → get_or list k 0 - first < map.shape.layout.depth
  number_low map caller own held k l =
      let low = subst (λ (s : Shape). get_or (numbers_of first list) k 0 < s.layout.depth) own.1
      (held.0 k 0 (let same = number_count in omega arith)).0 in let is = number_is k l in omega arith

module _ (first : ℕ) (list : List ℕ) (above : All (λ tag. first ≤ tag) list) where
  number_at : (k d e : ℕ) → k < length list → get_or (numbers_of first list) k e + first ≡ get_or list k d
  number_at k d e l = let at = get_or-map (λ tag. tag - first) list k d e l in let high = above k d l in omega arith

  contains_there : (n : ℕ) → Contains (numbers_of first list) n → Contains list (first + n)
  contains_there n c = let same = number_count first list in
      let inside : c.0 < length list = let l = c.1 in omega arith in
      let at = number_at c.0 (first + n) n inside in let is = c.2 in (c.0, inside, omega arith)

  contains_back : (tag : ℕ) → Contains list tag → (n : ℕ) × (tag ≡ first + n) × Contains (numbers_of first list) n
  contains_back tag c = let same = number_count first list in
      let high = above c.0 tag c.1 in let inside = c.1 in let is = c.2 in
      let at = number_at c.0 tag (tag - first) c.1 in (tag - first, omega arith, (c.0, omega arith, omega arith))

-- what is so of tags exactly if it is so of their numbers
pub record AreNumbered {R : Type 0} (pool : Pool R) (hand : Hand R) (list named : List ℕ) : Type 0 where
  pub ordinary : AreTags (layout_of pool Ordinary) named ↔ AreOrdinary pool list
  pub held : All (side.Holds hand.ordinary) named ↔ All (Holds hand) list
  pub once : AreHeldOnce hand list → HoldsOnce (side.caller_of hand.ordinary) named
  pub gives : AreOrdinary pool list → (new : Side R) → Gives (layout_of pool Ordinary) named hand.ordinary new
      → GivesBack pool list hand (record hand { ordinary = new })

module _ {R : Type 0} (pool : Pool R) (hand : Hand R) (own : IsHandOf pool hand) where
  -- the hand holds an ordinary tag exactly if its ordinary side holds the tag's number
  holds_there : (tag n : ℕ) → n + reserved_of pool ≡ tag → Holds hand tag → side.Holds hand.ordinary n
  holds_there tag n e h = let split = own.2 in
      let o = ordinary_above (split_of hand) tag (omega (arith, split)) in let x = o.number in
      subst (λ (m : ℕ). side.Holds hand.ordinary m) (omega (arith, split))
      (subst (λ (k : Kind). side.Holds (side_of hand k) (number_in_set (split_of hand) tag)) o.kind h)

  holds_back : (tag n : ℕ) → n + reserved_of pool ≡ tag → side.Holds hand.ordinary n → Holds hand tag
  holds_back tag n e h = let split = own.2 in
      let o = ordinary_above (split_of hand) tag (omega (arith, split)) in let x = o.number in
      subst (λ (k : Kind). side.Holds (side_of hand k) (number_in_set (split_of hand) tag)) (sym o.kind)
      (subst (λ (m : ℕ). side.Holds hand.ordinary m) (omega (arith, split)) h)

  module _ (list named : List ℕ) (above : All (λ tag. reserved_of pool ≤ tag) list)
      (is : named ≡ numbers_of (reserved_of pool) list) where
    same_count : length named ≡ length list
    same_count = ap length is ∙ number_count (reserved_of pool) list

    at_place : (k d : ℕ) → k < length list → get_or named k d + reserved_of pool ≡ get_or list k d
    at_place k d l = ap (λ (xs : List ℕ). get_or xs k d + reserved_of pool) is
        ∙ number_at (reserved_of pool) list above k d d l

    tags_there : AreOrdinary pool list → AreTags (layout_of pool Ordinary) named
    tags_there o k d l = let inside : k < length list = let same = same_count in omega arith in
        let at = at_place k d inside in let low = (o k d inside).1 in omega arith

    tags_back : AreTags (layout_of pool Ordinary) named → AreOrdinary pool list
    tags_back t k d l = let at = at_place k d l in let low = t k d (let same = same_count in omega arith) in
        (above k d l, omega arith)

    held_there : All (Holds hand) list → All (side.Holds hand.ordinary) named
    held_there h k d l = let inside : k < length list = let same = same_count in omega arith in
        holds_there (get_or list k d) (get_or named k d) (at_place k d inside) (h k d inside)

    held_back : All (side.Holds hand.ordinary) named → All (Holds hand) list
    held_back h k d l = holds_back (get_or list k d) (get_or named k d) (at_place k d l)
        (h k d (let same = same_count in omega arith))

    once_there : AreHeldOnce hand list → HoldsOnce (side.caller_of hand.ordinary) named
    once_there h = (
      held_there h.0,
      λ j k d less l e. let inside : k < length list = let same = same_count in omega arith in
          let a = at_place j d (omega arith) in let b = at_place k d inside in h.1 j k d less inside (omega arith),
    )

    gives_back : AreOrdinary pool list → (new : Side R) → Gives (layout_of pool Ordinary) named hand.ordinary new
        → GivesBack pool list hand (record hand { ordinary = new })
    gives_back ordinary new g = let r : ℕ = reserved_of pool in
        let within : (n : ℕ) → Contains (numbers_of r list) n → n < (layout_of pool Ordinary).depth =
        λ n c. let t = contains_there r list above n c in let low = (ordinary t.0 0 t.1).1 in
        let at = number_at r list above t.0 0 0 t.1 in let e = t.2 in omega arith in
        let given = subst (λ (xs : List ℕ). Gives (layout_of pool Ordinary) xs hand.ordinary new) is g in record {
          less = less_like
              (set_like pool hand own Ordinary (Contains (numbers_of r list)) (Contains list) within
              (contains_there r list above) (contains_back r list above))
              (less hand (record hand { ordinary = new }) Ordinary refl refl (Contains (numbers_of r list)) given.gives.less);
          set = record { changed = given; other = refl; split = refl };
        }

    pub numbered : AreNumbered pool hand list named
    numbered = record {
      ordinary = (tags_back, tags_there);
      held = (held_back, held_there);
      once = once_there;
      gives = gives_back;
    }
