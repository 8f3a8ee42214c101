-- Only an object that is a hand is taken apart; a pool is put back, and an empty handle stays empty.
use Rattle.std.specs.Prelude.{◌≡◌}
use Rattle.tag_c.proofs.Uses.{BadHandle, inl, IsHandIn, IsMemberIn, None, Object, Option, refl, RefusesLeave, rules, subst, sym, Pool, ℕ}
use Rattle.tag_c.proofs.Refusing.{refuses, no_hand, hand_there}
use Rattle.tag_c.proofs.pools.tags_leave.Goals as goal

abbrev IsHand : Object → Type 0
IsHand object = (tags : Pool ℕ) × IsMemberIn tags object.kind

pub returns-in_default-clause-why : goal.returns-in_default-clause-why
returns-in_default-clause-why c = λ _. let value = c.args.hand.now.object.value in
    let none : value ≡ None = search rules in
    refuses (RefusesLeave value) BadHandle c.code.result c.code.ensures c.code.type_inv (inl (refl, no_hand value none))

pub returns-then-not-is_hand-clause-leaves : goal.returns-then-not-is_hand-clause-leaves
returns-then-not-is_hand-clause-leaves c = λ has.
    let there = hand_there c.args.hand.now.object.value c.in-Some.object.value c.in-Some.ensures.some has in
    let is = c.is_hand.ensures.1 (subst IsHand (sym c.deref.ensures) there) in
    let test = c.if-not-is_hand.true in absurd cc

pub returns-then-not-is_hand-clause-why : goal.returns-then-not-is_hand-clause-why
returns-then-not-is_hand-clause-why c = λ _. let value = c.args.hand.now.object.value in
    let code = c.code-then-not-is_hand in
    refuses (RefusesLeave value) BadHandle code.result code.ensures code.type_inv (inl (
      refl,
      λ has.
          let there = hand_there value c.in-Some.object.value c.in-Some.ensures.some has in
          let is = c.is_hand.ensures.1 (subst IsHand (sym c.deref.ensures) there) in
          let test = c.if-not-is_hand.true in cc,
    ))

pub leave-requires : goal.leave-requires
leave-requires c = subst IsHand (sym c.into_inner.ensures)
    (subst IsHand c.deref.ensures (c.is_hand.ensures.0 c.if-not-is_hand.false))

pub returns-clause-bad_handle : goal.returns-clause-bad_handle
returns-clause-bad_handle c = λ no. let is =
    subst IsHand c.deref.ensures (c.is_hand.ensures.0 c.if-not-is_hand.false) in
    absurd (no (is.0, subst (λ (x : Option Object). IsHandIn is.0 x) (sym c.in-Some.ensures.some) is.1))
