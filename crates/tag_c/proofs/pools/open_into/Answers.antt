-- The pool that fills the handle was opened with the converted options; each early return has a reason of its own.
use Rattle.std.specs.Prelude.{◌≡◌, ◌⊎◌}
use Rattle.tag_c.proofs.Uses.{arc_value, arith, BadFlag, CacheTooLarge, FailsFirst, Handle, inl, inr, Memory, None, NotEmpty, NotOpened, Object, open_checks, Opens, OpensPool, Option, options_of, PassesAll, refl, RefusesOpen, Some, subst, sym, ◌∙◌}
use Rattle.tag_pool.specs.declared.options.Options.{Options}
use Rattle.tag_c.proofs.Refusing.{refuses, refused, fault_below}
use Rattle.tag_c.proofs.Flags.{is_some_of, not_some_of, empty_of}
use Rattle.tag_c.proofs.pools.open_into.Goals as goal

-- a handle that is not full is empty
empty : (handle : Handle) → handle.full ≡ 0 → handle.object.value ≡ None
empty handle zero = empty_of handle.object.value (sym handle.held ∙ zero)

pub returns-then-pool-ne0-clause-why : goal.returns-then-pool-ne0-clause-why
returns-then-pool-ne0-clause-why c = λ _. let pool = c.args.pool.now in
    refuses (RefusesOpen pool.object.value c.args.requested.now c.args.most c.args.keeping) NotEmpty c.code.result
    c.code.ensures c.code.type_inv
    (inl (refl, is_some_of pool.object.value (λ none. c.if-pool-ne0.true (pool.held ∙ none))))

pub returns-then-requested-gt-ROUND_ROBIN-clause-why : goal.returns-then-requested-gt-ROUND_ROBIN-clause-why
returns-then-requested-gt-ROUND_ROBIN-clause-why c = λ _. let code = c.code-then-requested-gt-ROUND_ROBIN in
    refuses (RefusesOpen c.args.pool.now.object.value c.args.requested.now c.args.most c.args.keeping) BadFlag code.result
    code.ensures code.type_inv
    (inr (inl (refl, empty c.args.pool.now c.if-pool-ne0.false, inl c.if-requested-gt-ROUND_ROBIN.true)))

pub returns-then-keeping-gt-WHILE_HOLDING-clause-why : goal.returns-then-keeping-gt-WHILE_HOLDING-clause-why
returns-then-keeping-gt-WHILE_HOLDING-clause-why c = λ _. let code = c.code-then-keeping-gt-WHILE_HOLDING in
    refuses (RefusesOpen c.args.pool.now.object.value c.args.requested.now c.args.most c.args.keeping) BadFlag code.result
    code.ensures code.type_inv
    (inr (inl (refl, empty c.args.pool.now c.if-pool-ne0.false, inr c.if-keeping-gt-WHILE_HOLDING.true)))

pub returns-then-most-gt-MAX_CACHE-clause-why : goal.returns-then-most-gt-MAX_CACHE-clause-why
returns-then-most-gt-MAX_CACHE-clause-why c = λ _. let code = c.code-then-most-gt-MAX_CACHE in
    refuses (RefusesOpen c.args.pool.now.object.value c.args.requested.now c.args.most c.args.keeping) CacheTooLarge
    code.result code.ensures code.type_inv
    (inr (inr (inl (
      refl,
      empty c.args.pool.now c.if-pool-ne0.false,
      omega (arith, c.if-requested-gt-ROUND_ROBIN.false),
      omega (arith, c.if-keeping-gt-WHILE_HOLDING.false),
      c.if-most-gt-MAX_CACHE.true,
    ))))

pub returns-in-Err-clause-opens : goal.returns-in-Err-clause-opens
returns-in-Err-clause-opens c = λ zero. let code = c.code-in-Err in let fault = c.in-Err.fault in
    absurd (refused (NotOpened fault) code.result code.ensures code.type_inv (fault_below fault) zero)

pub returns-in-Err-clause-why : goal.returns-in-Err-clause-why
returns-in-Err-clause-why c = λ _. let code = c.code-in-Err in let requested = c.args.requested.now in
    let fault = c.in-Err.fault in
    refuses (RefusesOpen c.args.pool.now.object.value requested c.args.most c.args.keeping) (NotOpened fault) code.result
    code.ensures code.type_inv
    (inr (inr (inr (
      fault,
      refl,
      empty c.args.pool.now c.if-pool-ne0.false,
      (
        omega (arith, c.if-requested-gt-ROUND_ROBIN.false),
        omega (arith, c.if-keeping-gt-WHILE_HOLDING.false),
        omega (arith, c.if-most-gt-MAX_CACHE.false),
      ),
      subst (λ (o : Options). let checks = open_checks o in
          FailsFirst checks fault ⊎ (PassesAll checks × (fault ≡ Memory))) c.read_options.ensures
          c.in-Err.ensures.refusals.first,
    ))))

pub returns-in_default-clause-why : goal.returns-in_default-clause-why
returns-in_default-clause-why c = λ _. let code = c.code-in_default in
    refuses (RefusesOpen c.args.pool.now.object.value c.args.requested.now c.args.most c.args.keeping) (NotOpened Memory)
    code.result code.ensures code.type_inv
    (inr (inr (inr (
      Memory,
      refl,
      empty c.args.pool.now c.if-pool-ne0.false,
      (
        omega (arith, c.if-requested-gt-ROUND_ROBIN.false),
        omega (arith, c.if-keeping-gt-WHILE_HOLDING.false),
        omega (arith, c.if-most-gt-MAX_CACHE.false),
      ),
      inr (
        subst (λ (o : Options). PassesAll (open_checks o)) c.read_options.ensures c.in-Ok.ensures.ok.can,
        refl,
      ),
    ))))

pub returns-in_default-clause-not_empty : goal.returns-in_default-clause-not_empty
returns-in_default-clause-not_empty c = λ some. let pool = c.args.pool.now in
    absurd (not_some_of pool.object.value (sym pool.held ∙ c.if-pool-ne0.false) some)

pub returns-clause-opens : goal.returns-clause-opens
returns-clause-opens c = λ _. let requested = c.args.requested.now in let state = arc_value c.in-Ok.opened.shared in
    let most = c.args.most in let keeping = c.args.keeping in
    let opens : Opens (options_of requested) state.tags c.in-Ok.opened.spare.items =
    subst (λ (o : Options). Opens o state.tags c.in-Ok.opened.spare.items)
    c.read_options.ensures c.in-Ok.ensures.ok in
    subst (λ (x : Option Object). OpensPool requested most keeping x) (sym c.of.ensures)
    (subst (λ (x : Object). OpensPool requested most keeping (Some x)) (sym c.in-Ok-new.ensures.ok) (
      (
        omega (arith, c.if-requested-gt-ROUND_ROBIN.false),
        omega (arith, c.if-keeping-gt-WHILE_HOLDING.false),
        omega (arith, c.if-most-gt-MAX_CACHE.false),
      ),
      (opens, c.in-Ok.ensures.cache ∙ c.read_terms.ensures),
    ))
