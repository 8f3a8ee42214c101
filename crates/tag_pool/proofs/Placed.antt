-- A new pool whose hands are placed is a new pool with the hints of the hands in their parts.
use Rattle.std.specs.Prelude.{◌*◌, ◌/◌, ◌≡◌}
use Rattle.std.specs.List.{AllZip}
use Rattle.tag_pool.proofs.Uses.{ap, Hand, IsHandOf, List, map, map_of, Ordinary, Pool, Reserved, reserved_of, side_of, sym, ◌∙◌}
use Rattle.tag_core.specs.Callers as core
use Rattle.tag_search.specs.declared.hint.Hint.{Hint}
use Rattle.tag_pool.specs.Sides as side
use Rattle.tag_pool.specs.Opening.{AreParts, HasFirstHints, HasPlacedHints, IsOpen, IsOpenPlaced, IsSplitAt, ordinary_part, reserved_part}
use Rattle.tag_pool.specs.Placing.{IsPlaced}
use Rattle.tag_pool.specs.declared.options.Options.{Options}
use Rattle.tag_pool.proofs.OneByOne.{all_changed, same_images}
use Rattle.tag_pool.proofs.Opening.{opens}

module _ {R : Type 0} (options : Options) (pool : Pool R) where
  hints_placed : (x y : Hand R) → IsPlaced pool x y → HasFirstHints options pool x → HasPlacedHints options pool y
  hints_placed x y p first kind =
      let m = map_of pool kind in let a = side_of x kind in let b = side_of y kind in let q = p.sides kind in
      let robin : (side.hint_of b).round_robin ≡ (side.hint_of a).round_robin = ap (λ (h : Hint). h.round_robin) q.hint in
      let same : side.hint_in_part m b ≡ side.hint_in_part m a = (λ j. record {
        at = (q.number j * (core.layout_of m).depth) / m.shape.callers;
        round_robin = robin j;
      }) in
      (q.hint ∙ sym same, robin ∙ ap (λ (h : Hint). h.round_robin) (first kind))

  -- a new pool is open with its hands placed
  pub opens_placed : (olds news : List (Hand R)) → IsOpen options pool olds → AllZip (IsPlaced pool) olds news
      → IsOpenPlaced options pool news
  opens_placed olds news new placed =
      let parts : AreParts (reserved_of pool) (map reserved_part olds) (map ordinary_part olds) news = record {
        reserved_are = same_images (IsPlaced pool) reserved_part (λ x y p. (p.sides Reserved).caller) olds news placed;
        ordinary_are = same_images (IsPlaced pool) ordinary_part (λ x y p. (p.sides Ordinary).caller) olds news placed;
        split = all_changed (IsPlaced pool) (IsHandOf pool) (IsSplitAt (reserved_of pool)) (λ x y p own. p.split ∙ own.2)
            olds news placed new.own;
      } in
      let opened = opens options pool.reserved pool.ordinary (reserved_of pool) news _ _ parts new.reserved new.ordinary in record {
        laid_out = new.laid_out;
        ordinary = opened.ordinary;
        reserved = opened.reserved_set;
        least = new.least;
        own = opened.own;
        none_held = opened.none_held;
        count = opened.count;
        ordered = opened.ordered;
        hints = all_changed (IsPlaced pool) (HasFirstHints options pool) (HasPlacedHints options pool) hints_placed
            olds news placed new.hints;
      }
