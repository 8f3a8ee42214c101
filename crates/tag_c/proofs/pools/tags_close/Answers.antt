-- Only an object that is a pool without hands out is taken apart; in all other cases the handle gets its object back.
use Rattle.std.specs.Prelude.{◌≡◌}
use Rattle.tag_c.proofs.Uses.{BadHandle, Ends, HandLost, inl, inr, None, Object, refl, RefusesClose, rules, Some, subst, sym, ◌∙◌}
use Rattle.tag_c.proofs.Refusing.{refuses, refused, no_pool, has_pool, pool_there, closes_of, close_below}
use Rattle.tag_c.proofs.pools.tags_close.Goals as goal
use Rattle.tag_c.proofs.pools.tags_close.Goals.{in-Ok-false, in-Err}

pub returns-in_default-clause-why : goal.returns-in_default-clause-why
returns-in_default-clause-why c = λ _. let value = c.args.pool.now.object.value in
    let none : value ≡ None = search rules in
    refuses (RefusesClose value) BadHandle c.code.result c.code.ensures c.code.type_inv (inl (refl, no_pool value none))

pub returns-in_default-close-clause-why : goal.returns-in_default-close-clause-why
returns-in_default-close-clause-why c = λ _. let code = c.code-in_default-close in
    let value = c.args.pool.now.object.value in
    let some : value ≡ Some c.deref.result.now =
    subst (λ (x : Object). value ≡ Some x) (sym c.deref.ensures) c.in-Some.ensures.some in
    refuses (RefusesClose value) HandLost code.result code.ensures code.type_inv
    (inr (has_pool value c.deref.result.now some c.in-Ok-true.ensures.ok, inr refl))

pub returns-in-Ok-true-clause-closes : goal.returns-in-Ok-true-clause-closes
returns-in-Ok-true-clause-closes c = λ _. let totals = c.in-Some-close.totals in (
  closes_of c.args.pool.now.object.value c.in-Some.object.value c.in-Some.ensures.some totals c.read_sums.result
      (subst (λ (x : Object). Ends x.kind totals) c.into_inner.ensures c.in-Some-close.ensures) c.read_sums.ensures,
  c.take.ensures.empty,
)

-- an object that is put back is no pool, or a pool with hands out
left : (c : goal.After-code-2) → RefusesClose c.args.pool.now.object.value c.match-has_all_hands.refused
left c = let value = c.args.pool.now.object.value in
    let some : value ≡ Some c.deref.result.now =
    subst (λ (x : Object). value ≡ Some x) (sym c.deref.ensures) c.in-Some.ensures.some in
    elim c.match-has_all_hands.branch [
      | in-Ok-false w ↦ inr (has_pool value c.deref.result.now some w.in-Ok-false.ensures.ok, inl w.refused-is)
      | in-Err w ↦ let no = w.in-Err.ensures.err in
          inl (w.refused-is ∙ no.0, λ has. no.1 (pool_there value c.deref.result.now some has))
    ]

pub returns-clause-closes : goal.returns-clause-closes
returns-clause-closes c = λ zero. let code = c.code-2 in let status = c.match-has_all_hands.refused in
    absurd (refused status code.result code.ensures code.type_inv
    (close_below c.args.pool.now.object.value status (left c)) zero)

pub returns-clause-why : goal.returns-clause-why
returns-clause-why c = λ _. let code = c.code-2 in
    refuses (RefusesClose c.args.pool.now.object.value) c.match-has_all_hands.refused code.result code.ensures code.type_inv
    (left c)
