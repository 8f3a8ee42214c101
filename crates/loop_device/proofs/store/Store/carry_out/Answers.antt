-- The line goes into the history with what it answers after those before it.
use Rattle.loop_device.proofs.Uses.{[], Done, done_of, IsKept, List, rules, subst, sym}
use Rattle.std.proofs.Common.{◌≡◌, ◌++◌, ◌∷◌}
use Rattle.loop_device.proofs.Keeping.{extends}
use Rattle.loop_device.proofs.store.Store.carry_out.Goals as goal

pub invariant_of-self-2 : goal.invariant_of-self-2
invariant_of-self-2 c =
    let h = c.self.inside.done.items in
    let d = done_of c.args.io.now c.in_ok-stamp.stamp in
    let k = c.in_ok-stamp.ensures.ok in
    let items : c.push_reserved.new.self.items ≡ h ++ d ∷ [] = search rules in
    subst (λ (ds : List Done). IsKept ds c.answer.new.stamps) (sym items) (record {
      sound = k.sound;
      stamps_are = k.stamps_are h c.self.invariant.stamps_are;
      lawful = extends h d c.self.invariant.lawful (k.answers h c.self.invariant.stamps_are);
    })
