-- Each turn makes a hand of the last part of each list; both lists end together, and then the hands are reversed.
use Rattle.std.specs.Prelude.{◌++◌, ◌∷◌, ◌≡◌}
use Rattle.tag_queue.proofs.Uses.{[], arith, in_pool, refl, ◌∙◌}
use Rattle.tag_queue.specs.Parts.{shell_of}
use Rattle.tag_queue.proofs.Uniting.{came_off, was_at}
use Rattle.tag_queue.proofs.room.Room.unite.Goals as goal

pub around-requires : goal.around-requires
around-requires g c = let inv = c.loop-inner.invariant in
    c.requires.fit.each _ _ _
    (was_at _ _ c.in-Some.inner _ _ _ inv.inners c.in-Some.ensures.items refl)
    (was_at _ _ c.in-Some-pop.shell _ _ _ inv.shells c.in-Some-pop.ensures.items
    (let a = c.in-Some.ensures.len in let b = c.in-Some-pop.ensures.len in let d = inv.left in omega arith))

pub loop-inner-preserved : goal.loop-inner-preserved
loop-inner-preserved g c = let inv = c.loop-inner.invariant in let made = c.loop-inner.hands.items in
    let hand = c.around.result in let more = c.push_reserved.new.self.items in
    let pushed : more ≡ made ++ hand ∷ [] = c.push_reserved.ensures.items in record {
      inners = came_off in_pool _ _ made more hand c.in-Some.inner _
          inv.inners c.in-Some.ensures.items pushed c.around.ensures.inner;
      shells = came_off shell_of _ _ made more hand c.in-Some-pop.shell _
          inv.shells c.in-Some-pop.ensures.items pushed c.around.ensures.shell;
      left = (let a = c.in-Some.ensures.len in let b = c.in-Some-pop.ensures.len in let d = inv.left in omega arith);
      fit = (let a = c.in-Some.ensures.len in let b = c.push_reserved.ensures.len in
          let r = c.push_reserved.ensures.capacity in let d = inv.fit in omega arith);
      inners_room = c.in-Some.ensures.capacity ∙ inv.inners_room;
      shells_room = c.in-Some-pop.ensures.capacity ∙ inv.shells_room;
    }
