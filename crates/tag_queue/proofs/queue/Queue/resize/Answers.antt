-- Each refusal is the first cause that holds: a hand that is missing, or one of those that are looked for later.
use Rattle.std.specs.Prelude.{◌≡◌, IfErr, IfOk, IsOk}
use Rattle.tag_queue.proofs.Uses.{All, ap, IsHandOf, List, QueueHand, refl, subst, sym, ℕ, ◌∙◌}
use Rattle.step_ledger.specs.Gather.{HasAll, IsLeastMissing}
use Rattle.tag_pool.specs.declared.resizes.ResizeCause.TheVariants.{Missing}
use Rattle.tag_queue.specs.Hands.{AreUnchanged, hands_of, numbers_of}
use Rattle.tag_queue.specs.Resizing.{BalanceInBoth, HasMap, IsRefusedAs, IsResized, IsSame, MayResize}
use Rattle.tag_queue.proofs.ThroughResizes.{all_untouched}
use Rattle.tag_queue.proofs.Told.{AreTold, told_by, told_err}
use Rattle.tag_queue.proofs.queue.Queue.resize.Given as given
use Rattle.tag_queue.proofs.queue.Queue.resize.Goals.{After-go_on, In-Some}
use Rattle.tag_queue.proofs.queue.Queue.resize.Goals as goal

pub go_on-requires-clause-own : goal.go_on-requires-clause-own
go_on-requires-clause-own g c =
    subst (λ v. All (IsHandOf c.args.queue) v.items) (sym c.assert_hand_count-hands.ensures.same) c.requires

pub go_on-requires-clause-every : goal.go_on-requires-clause-every
go_on-requires-clause-every g c = subst (λ (z : List (QueueHand g.row.R.Denot) × ℕ). HasAll (numbers_of z.0) z.1)
    (λ j. (c.as_slice.ensures.value j, c.hand_count.ensures j)) c.in_default.ensures

-- the least number that is missing
least : (g : given.Over) (c : In-Some g)
    → IsLeastMissing (numbers_of c.args.hands.items) (hands_of c.args.queue) c.in-Some.number
least g c = subst (λ (z : List (QueueHand g.row.R.Denot) × ℕ). IsLeastMissing (numbers_of z.0) z.1 c.in-Some.number)
    (λ j. (
      (c.as_slice.ensures.value ∙ ap (λ v. v.items) c.assert_hand_count-hands.ensures.same) j,
      c.hand_count.ensures j,
    ))
    c.in-Some.ensures

early : (g : given.Over) (c : In-Some g)
    → AreTold c.args.queue c.args.hands.items c.args.depth (λ other. Missing c.in-Some.number ≡ other)
early g c = told_err c.args.queue c.args.hands.items c.args.depth (Missing c.in-Some.number) (least g c)

pub returns-in-Some-clause-missing : goal.returns-in-Some-clause-missing
returns-in-Some-clause-missing g c = (early g c).missing

pub returns-in-Some-clause-too_deep : goal.returns-in-Some-clause-too_deep
returns-in-Some-clause-too_deep g c = (early g c).too_deep

pub returns-in-Some-clause-in_use : goal.returns-in-Some-clause-in_use
returns-in-Some-clause-in_use g c = (early g c).in_use

pub returns-in-Some-clause-waiting : goal.returns-in-Some-clause-waiting
returns-in-Some-clause-waiting g c = (early g c).waiting

pub returns-in-Some-clause-memory : goal.returns-in-Some-clause-memory
returns-in-Some-clause-memory g c = (early g c).memory

pub returns-in-Some-clause-balance : goal.returns-in-Some-clause-balance
returns-in-Some-clause-balance g c = λ fits. let m = least g c in
    absurd (m.1 (fits.0 c.in-Some.number m.0))

pub returns-in-Some-clause-err : goal.returns-in-Some-clause-err
returns-in-Some-clause-err g c = (
  record { pool = refl; book = refl; groups = refl; min_shallow = refl },
  all_untouched c.args.hands.items c.assert_hand_count-hands.result.items
      (ap (λ v. v.items) c.assert_hand_count-hands.ensures.same),
)

pub returns-in-Some-clause-own : goal.returns-in-Some-clause-own
returns-in-Some-clause-own g c =
    subst (λ v. All (IsHandOf c.args.queue) v.items) (sym c.assert_hand_count-hands.ensures.same) c.requires

-- each refusal of the rest is one of the hands passed in
late : (g : given.Over) (c : After-go_on g)
    → AreTold c.args.queue c.args.hands.items c.args.depth (IsRefusedAs c.go_on.result)
late g c = subst
    (λ (l : List (QueueHand g.row.R.Denot)). AreTold c.args.queue l c.args.depth (IsRefusedAs c.go_on.result))
    (ap (λ v. v.items) c.assert_hand_count-hands.ensures.same)
    (told_by c.args.queue c.assert_hand_count-hands.result.items c.args.depth c.go_on.result c.go_on.ensures.may
    c.go_on.ensures.cause)

pub returns-clause-ok : goal.returns-clause-ok
returns-clause-ok g c = subst (λ (l : List (QueueHand g.row.R.Denot)).
    IfOk c.go_on.result (λ p. IsResized c.args.queue l c.args.depth p.0 p.1.items))
    (ap (λ v. v.items) c.assert_hand_count-hands.ensures.same) c.go_on.ensures.ok

pub returns-clause-may : goal.returns-clause-may
returns-clause-may g c = subst (λ (l : List (QueueHand g.row.R.Denot)).
    IsOk c.go_on.result → MayResize c.args.queue l c.args.depth)
    (ap (λ v. v.items) c.assert_hand_count-hands.ensures.same) c.go_on.ensures.may

pub returns-clause-missing : goal.returns-clause-missing
returns-clause-missing g c = (late g c).missing

pub returns-clause-too_deep : goal.returns-clause-too_deep
returns-clause-too_deep g c = (late g c).too_deep

pub returns-clause-in_use : goal.returns-clause-in_use
returns-clause-in_use g c = (late g c).in_use

pub returns-clause-waiting : goal.returns-clause-waiting
returns-clause-waiting g c = (late g c).waiting

pub returns-clause-memory : goal.returns-clause-memory
returns-clause-memory g c = (late g c).memory

pub returns-clause-balance : goal.returns-clause-balance
returns-clause-balance g c = subst (λ (l : List (QueueHand g.row.R.Denot)).
    HasMap c.args.queue l c.args.depth → BalanceInBoth l)
    (ap (λ v. v.items) c.assert_hand_count-hands.ensures.same) c.go_on.ensures.balance

pub returns-clause-err : goal.returns-clause-err
returns-clause-err g c = subst (λ (l : List (QueueHand g.row.R.Denot)).
    IfErr c.go_on.result (λ fault. IsSame c.args.queue fault.queue × AreUnchanged l fault.hands.items))
    (ap (λ v. v.items) c.assert_hand_count-hands.ensures.same) c.go_on.ensures.err
