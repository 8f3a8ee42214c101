-- The pool's handle keeps its pool in every case; the other was empty, and is filled only with a hand of it.
use Rattle.std.specs.Prelude.{◌≡◌}
use Rattle.tag_c.proofs.Uses.{BadHandle, GaveBackBy, Handle, inl, inr, IsMemberIn, IsPoolOf, JoinsKind, JoinsPool, Memory, None, NotEmpty, NotOpened, Object, Option, refl, RefusesJoin, rules, Some, subst, sym, Pool, ℕ, ◌∙◌}
use Rattle.tag_c.proofs.Calling.{stored}
use Rattle.tag_c.proofs.Refusing.{refuses, refused, no_pool, join_below, refuses_join, joiner, joined}
use Rattle.tag_c.proofs.Flags.{is_some_of, not_some_of, empty_of}
use Rattle.tag_c.proofs.pools.tags_join.Goals as goal

-- the object is a hand
abbrev IsHand : Object → Type 0
IsHand object = (tags : Pool ℕ) × IsMemberIn tags object.kind

-- a handle that is not full is empty
empty : (handle : Handle) → handle.full ≡ 0 → handle.object.value ≡ None
empty handle zero = empty_of handle.object.value (sym handle.held ∙ zero)

pub returns-then-hand-ne0-clause-why : goal.returns-then-hand-ne0-clause-why
returns-then-hand-ne0-clause-why c = λ _. let hand = c.args.hand.now in
    refuses (RefusesJoin c.args.pool.now.object.value hand.object.value c.args.flags) NotEmpty c.code.result
    c.code.ensures c.code.type_inv
    (inl (refl, is_some_of hand.object.value (λ none. c.if-hand-ne0.true (hand.held ∙ none))))

pub returns-in_default-clause-why : goal.returns-in_default-clause-why
returns-in_default-clause-why c = λ _. let value = c.args.pool.now.object.value in
    let none : value ≡ None = search rules in
    let code = c.code-in_default in
    refuses (RefusesJoin value c.args.hand.now.object.value c.args.flags) BadHandle code.result code.ensures
    code.type_inv
    (inr (inl (refl, empty c.args.hand.now c.if-hand-ne0.false, no_pool value none)))

pub returns-in-Err-clause-joins : goal.returns-in-Err-clause-joins
returns-in-Err-clause-joins c = λ zero. let code = c.code-in-Err in let status = c.in-Err.status in
    absurd (refused status code.result code.ensures code.type_inv
    (join_below c.args.flags status c.in-Some.object.now.kind c.in-Err.ensures.why) zero)

pub returns-in-Err-clause-why : goal.returns-in-Err-clause-why
returns-in-Err-clause-why c = λ _. let pool = c.args.pool.now.object.value in let hand = c.args.hand.now.object.value in
    let code = c.code-in-Err in let status = c.in-Err.status in
    refuses (RefusesJoin pool hand c.args.flags) status code.result code.ensures code.type_inv
    (refuses_join c.args.flags status pool hand (empty c.args.hand.now c.if-hand-ne0.false) c.in-Some.object.now
    c.in-Some.ensures.some c.in-Err.ensures.why)

pub leave-requires : goal.leave-requires
leave-requires c = let pool = c.in-Some.object.now.kind in
    subst IsHand (sym c.in-Err-new.ensures.value_returned)
    (joiner c.args.flags pool c.join.new.self.kind c.in-Ok.kind c.in-Ok.ensures.ok)

pub returns-in-Ok-new-clause-joins : goal.returns-in-Ok-new-clause-joins
returns-in-Ok-new-clause-joins c = λ _. let old = c.in-Some.object.now in let new = c.join.new.self in
    let flags = c.args.flags in
    subst (λ (x : Option Object). JoinsPool flags x (Some new) c.of.result.object.value) (sym c.in-Some.ensures.some)
    (subst (λ (x : Option Object). JoinsPool flags (Some old) (Some new) x) (sym c.of.ensures)
    (subst (λ (x : Object). JoinsKind flags old.kind new.kind x.kind) (sym c.in-Ok-new.ensures.ok) c.in-Ok.ensures.ok))

pub returns-in-Ok-new-clause-not_empty : goal.returns-in-Ok-new-clause-not_empty
returns-in-Ok-new-clause-not_empty c = λ full. let hand = c.args.hand.now in
    absurd (not_some_of hand.object.value (sym hand.held ∙ c.if-hand-ne0.false) full)

pub returns-in-Err-new-clause-not_empty : goal.returns-in-Err-new-clause-not_empty
returns-in-Err-new-clause-not_empty c = λ full. let hand = c.args.hand.now in
    absurd (not_some_of hand.object.value (sym hand.held ∙ c.if-hand-ne0.false) full)

pub returns-in-Err-new-clause-why : goal.returns-in-Err-new-clause-why
returns-in-Err-new-clause-why c = λ _. let code = c.code-in-Err-new in
    let there = joined c.args.flags c.in-Some.object.now.kind c.join.new.self.kind c.in-Ok.kind c.in-Ok.ensures.ok in
    let pool = there.0 in
    refuses (RefusesJoin c.args.pool.now.object.value c.args.hand.now.object.value c.args.flags) (NotOpened Memory)
    code.result code.ensures code.type_inv (inr (inr (
      empty c.args.hand.now c.if-hand-ne0.false,
      (pool.0, subst (λ (x : Option Object). IsPoolOf pool.0 x) (sym c.in-Some.ensures.some) pool.1),
      inr (there.1, inr refl),
    )))

pub returns-in-Err-new-clause-pool : goal.returns-in-Err-new-clause-pool
returns-in-Err-new-clause-pool c = λ _. let code = c.code-in-Err-new in let new = c.join.new.self in
    let gave = joined c.args.flags c.in-Some.object.now.kind new.kind c.in-Ok.kind c.in-Ok.ensures.ok in
    inr (
      stored code.result code.type_inv ∙ code.ensures,
      subst (λ (x : Option Object). GaveBackBy x (Some new)) (sym c.in-Some.ensures.some) gave.2,
    )
