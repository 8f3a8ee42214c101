-- Where nobody stands in a group the pool decides; otherwise what it checks before its waits is told first, and then that
-- they stand.
use Rattle.std.specs.Prelude.{◌≤◌, IfErr}
use Rattle.tag_queue.proofs.Uses.{arith, refl, subst, sym, ℕ}
use Rattle.tag_pool.specs.declared.resizes.ResizeCause.TheVariants.{Missing, DepthTooLarge, InUse, Waiting, Memory}
use Rattle.tag_queue.specs.Resizing.{StillRefuses}
use Rattle.tag_queue.proofs.Causes.{refused_as, still_pool}
use Rattle.tag_queue.proofs.resizes.resize_pool.Goals.{in-Err-Missing, in-Err-DepthTooLarge, in-Err-InUse, in-Err-Waiting, in-Err-Memory, in-Ok}
use Rattle.tag_queue.proofs.resizes.resize_pool.Goals as goal

pub returns-then-standing-eq0-clause-may : goal.returns-then-standing-eq0-clause-may
returns-then-standing-eq0-clause-may g c = λ ok. (c.resize.ensures.may ok, c.if-standing-eq0.true)

pub returns-then-standing-eq0-clause-cause : goal.returns-then-standing-eq0-clause-cause
returns-then-standing-eq0-clause-cause g c = let told = c.resize.ensures in
    subst (λ (n : ℕ). IfErr c.resize.result
    (λ fault. StillRefuses c.args.pool c.args.hands.items c.args.depth n fault.cause)) (sym c.if-standing-eq0.true)
    (still_pool c.args.pool c.args.hands.items c.args.depth c.resize.result c.requires.up (record {
      missing = told.missing;
      too_deep = told.too_deep;
      in_use = told.in_use;
      waiting = told.waiting;
      memory = told.memory;
    }))

pub returns-clause-cause : goal.returns-clause-cause
returns-clause-cause g c =
    let p = c.args.pool in let hands = c.args.hands.items in let total : ℕ = c.args.depth in
    let n : ℕ = c.args.standing in let some : 1 ≤ n = omega arith in
    let found = c.check_resize.result in let why = c.check_resize.ensures.cause in
    elim c.match-check_resize.branch [
      | in-Err-Missing w ↦ let arm = w.in-Err-Missing in subst (StillRefuses p hands total n) (sym w.cause-is)
          (refused_as p hands total found arm.field-0 (Missing arm.number) arm.is arm.field-0-is why)
      | in-Err-DepthTooLarge w ↦ let arm = w.in-Err-DepthTooLarge in
          subst (StillRefuses p hands total n) (sym w.cause-is)
          (refused_as p hands total found arm.field-0 DepthTooLarge arm.is arm.field-0-is why)
      | in-Err-InUse w ↦ let arm = w.in-Err-InUse in subst (StillRefuses p hands total n) (sym w.cause-is)
          (refused_as p hands total found arm.field-0 (InUse arm.held arm.posted) arm.is arm.field-0-is why)
      | in-Err-Waiting w ↦ let arm = w.in-Err-Waiting in
          let r = refused_as p hands total found arm.field-0 (Waiting _) arm.is arm.field-0-is why in
          subst (StillRefuses p hands total n) (sym w.cause-is) (r.0, r.1.0, refl, some)
      | in-Err-Memory w ↦ let arm = w.in-Err-Memory in
          let r = refused_as p hands total found arm.field-0 Memory arm.is arm.field-0-is why in
          subst (StillRefuses p hands total n) (sym w.cause-is) (r.0, r.1, refl, some)
      | in-Ok w ↦ let r = w.in-Ok.ensures.may refl in
          subst (StillRefuses p hands total n) (sym w.cause-is) (r.0, r.1, refl, some)
    ]
