-- Each turn takes the next caller of both lists and makes the next hand, and both lists end together.
use Rattle.std.specs.Prelude.{◌++◌, ◌∷◌, ◌≡◌}
use Rattle.tag_pool.proofs.Uses.{[], All, All-push, arith, Hand, Ordinary, refl, Reserved, subst, sym}
use Rattle.tag_pool.specs.Opening.{HasHints, IsSplitAt, ordinary_part, reserved_part}
use Rattle.tag_pool.proofs.Fronts.{goes_on}
use Rattle.tag_pool.proofs.opens.join.Goals as goal

pub loop-reserved-preserved : goal.loop-reserved-preserved
loop-reserved-preserved g c = let inv = c.loop-reserved.invariant in let made = c.loop-reserved.hands.items in
    let hand : Hand g.row.R.Denot = record
    { reserved_count = c.args.reserved_count; reserved = c.new.result; ordinary = c.new-in-Some.result } in
    let pushed : c.push.new.self.items ≡ made ++ hand ∷ [] = c.in_ok-push.ensures.items in record {
      reserved = goes_on reserved_part made _ hand c.in-Some.reserved _ _ _ inv.reserved c.in-Some.ensures.items pushed
          c.new.ensures.caller;
      ordinary = goes_on ordinary_part made _ hand c.in-Some-next.ordinary _ _ _ inv.ordinary
          c.in-Some-next.ensures.items pushed c.new-in-Some.ensures.caller;
      left = (let a = c.in-Some.ensures.len in let b = c.in-Some-next.ensures.len in let d = inv.left in omega arith);
      split = subst (All (IsSplitAt c.args.reserved_count)) (sym pushed)
          (All-push (IsSplitAt c.args.reserved_count) made hand inv.split refl);
      hints = subst (All (HasHints c.args.hint)) (sym pushed)
          (All-push (HasHints c.args.hint) made hand inv.hints
          (elim [ Ordinary ↦ c.new-in-Some.ensures.hint | Reserved ↦ c.new.ensures.hint ]));
    }
