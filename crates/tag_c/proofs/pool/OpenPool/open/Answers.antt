-- The spare hands are those with which the tags were opened.
use Rattle.std.specs.Prelude.{◌≡◌}
use Rattle.tag_c.proofs.Uses.{All, arc_value, IsHandOf, subst, sym, Pool, ℕ}
use Rattle.tag_c.proofs.Collected.{All-reverse}
use Rattle.tag_c.proofs.pool.OpenPool.open.Goals as goal

pub invariant_of-result : goal.invariant_of-result
invariant_of-result c = let spare = c.reverse.new.self.items in let tags = c.in_ok-tags.tags in
    let here : tags ≡ (arc_value c.in-Ok-new.shared).tags =
    (let made = c.with_cells-shared.ensures.tags in let shared = c.in-Ok-new.ensures.ok in cc) in record {
      own = subst (λ (t : Pool ℕ). All (IsHandOf t) spare) here (subst (All (IsHandOf tags)) (sym c.reverse.ensures.items)
          (All-reverse (IsHandOf tags) c.in_ok-tags.hands.items c.in_ok-tags.ensures.ok.own));
    }
