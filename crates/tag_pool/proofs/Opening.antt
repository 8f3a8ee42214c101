-- New hands belong to the new pool, hold no tag, and are in the order of their numbers.
use Rattle.std.specs.Prelude.{◌<◌, ◌≡◌}
use Rattle.tag_pool.proofs.Uses.{All, ap, arith, at_map, bit_at, bit_at-zero, Caller, entry_or, get_elem?, get_or, get_or-map, Hand, kind_of, Kind, length, length-map, List, Map, map, number_in_set, Ordinary, place_of, Record, record_of, replicate, Reserved, side_of, some, split_of, subst, sym, tag_bit, word_of, words, zeros, ℕ, ◌∙◌}
use Rattle.tag_core.specs.Callers as core
use Rattle.tag_pool.specs.Sides as side
use Rattle.tag_pool.specs.Opening.{AreParts, HoldsNone, IsNewSet, ordinary_part, reserved_part}
use Rattle.tag_pool.specs.declared.options.Options.{Options}

-- if P holds of all images, it holds of the image of each entry
all_part : {A B : Type 0} (P : B → Type 0) (f : A → B) (xs : List A) → All P (map f xs) → (k : ℕ) (d : A)
    → k < length xs → P (f (get_or xs k d))
all_part P f xs h k d l = subst P (get_or-map f xs k d (f d) l) (h k (f d) (let z = length-map xs f in omega arith))

module _ {R : Type 0} where
  -- a new caller's number is its place in the list, and it holds no tag
  new_number : (options : Options) (m : Map R) (callers : List (Caller R)) (n : ℕ) (a : Caller R) → IsNewSet options m callers
      → get_elem? callers n ≡ some a → (record_of a).number ≡ n
  new_number options m callers n a new e = ap (λ (r : Record R). r.number) (new.callers.each n a e).1

  new_holds_none : (options : Options) (m : Map R) (callers : List (Caller R)) (n : ℕ) (a : Caller R)
      → IsNewSet options m callers → get_elem? callers n ≡ some a → (tag : ℕ) → ¬ (core.Holds a tag)
  new_holds_none options m callers n a new e tag h =
      let fresh = (new.callers.each n a e).1 in
      let bit : tag_bit m.shape.layout (replicate (words m.shape.layout) 0) tag ≡ 1 =
      subst (λ (r : Record R). tag_bit r.shape.layout r.held tag ≡ 1) fresh h.1 in
      let none = ap (λ (w : ℕ). bit_at w (place_of m.shape.layout tag))
      (zeros (words m.shape.layout) (word_of m.shape.layout tag)) in
      let zero_bit = bit_at-zero (place_of m.shape.layout tag) in absurd (omega (arith, sym none ∙ bit))

  -- new sets have as many callers as the options say
  pub as_many : (options : Options) (m : Map R) (callers : List (Caller R)) → IsNewSet options m callers
      → length callers ≡ options.hands
  as_many options m callers new = new.callers.count ∙ new.tags.callers_is

  none_of_both : (hand : Hand R) → ((tag : ℕ) → ¬ (side.Holds hand.reserved tag))
      → ((tag : ℕ) → ¬ (side.Holds hand.ordinary tag)) → HoldsNone hand
  none_of_both hand r o tag = elim (kind_of (split_of hand) tag) as
      (λ (k : Kind). ¬ (side.Holds (side_of hand k) (number_in_set (split_of hand) tag))) [
        | Ordinary ↦ o (number_in_set (split_of hand) tag)
        | Reserved ↦ r (number_in_set (split_of hand) tag)
      ]

  -- the hand is of these maps, with this many reserved tags
  abbrev IsOver : Map R → Map R → ℕ → Hand R → Type 0
  IsOver first rest count hand = side.IsSideOf first hand.reserved × side.IsSideOf rest hand.ordinary
      × (split_of hand ≡ count) × (side.number_of hand.reserved ≡ side.number_of hand.ordinary)

  -- what is said of an open pool with these maps
  pub record IsOpenOver (options : Options) (first rest : Map R) (reserved : ℕ) (hands : List (Hand R)) : Type 0 where
    pub ordinary : IsNewSet options rest (map ordinary_part hands)
    pub reserved_set : IsNewSet options first (map reserved_part hands)
    pub own : All (IsOver first rest reserved) hands
    pub none_held : All HoldsNone hands
    pub count : length hands ≡ options.hands
    pub ordered : (n : ℕ) (hand : Hand R) → get_elem? hands n ≡ some hand → side.number_of hand.ordinary ≡ n

  own_callers : (options : Options) (m : Map R) (callers : List (Caller R)) → IsNewSet options m callers
      → All (core.IsCallerOf m) callers
  own_callers options m callers new = λ k d l. (new.callers.each k (get_or callers k d) (entry_or callers k d l)).0

  -- the pool is open, and its hands are new
  pub opens : (options : Options) (first rest : Map R) (count : ℕ) (hands : List (Hand R))
      (reserved ordinary : List (Caller R)) → AreParts count reserved ordinary hands
      → IsNewSet options first reserved → IsNewSet options rest ordinary → IsOpenOver options first rest count hands
  opens options first rest count hands reserved ordinary parts one other =
      let set_one = subst (IsNewSet options first) (sym parts.reserved_are) one in
      let set_other = subst (IsNewSet options rest) (sym parts.ordinary_are) other in
      let number_one : (n : ℕ) (hand : Hand R) → get_elem? hands n ≡ some hand → side.number_of hand.reserved ≡ n =
      λ n hand e. sym hand.reserved.numbers ∙ new_number options first (map reserved_part hands) n
      (reserved_part hand) set_one (at_map reserved_part hands n hand e) in
      let number_other : (n : ℕ) (hand : Hand R) → get_elem? hands n ≡ some hand → side.number_of hand.ordinary ≡ n =
      λ n hand e. sym hand.ordinary.numbers ∙ new_number options rest (map ordinary_part hands) n
      (ordinary_part hand) set_other (at_map ordinary_part hands n hand e) in record {
        ordinary = set_other;
        reserved_set = set_one;
        own = λ k d l. let e = entry_or hands k d l in (
          all_part (core.IsCallerOf first) reserved_part hands
              (own_callers options first (map reserved_part hands) set_one) k d l,
          all_part (core.IsCallerOf rest) ordinary_part hands
              (own_callers options rest (map ordinary_part hands) set_other) k d l,
          parts.split k d l,
          number_one k (get_or hands k d) e ∙ sym (number_other k (get_or hands k d) e),
        );
        none_held = λ k d l. let e = entry_or hands k d l in let hand = get_or hands k d in none_of_both hand
            (new_holds_none options first (map reserved_part hands) k (reserved_part hand) set_one
            (at_map reserved_part hands k hand e))
            (new_holds_none options rest (map ordinary_part hands) k (ordinary_part hand) set_other
            (at_map ordinary_part hands k hand e));
        count = sym (length-map hands ordinary_part) ∙ as_many options rest (map ordinary_part hands) set_other;
        ordered = number_other;
      }
