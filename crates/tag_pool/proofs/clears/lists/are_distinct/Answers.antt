-- The loop ends early exactly at a number that is among those before it; otherwise all are distinct.
use Rattle.std.specs.Prelude.{◌<◌, ◌≡◌, ◌≢◌}
use Rattle.tag_pool.proofs.Uses.{ap, arith, dite, eq-eqb, eqb-true, get_or, get_or-take, get_or_default_zero, length, length-take, rules, sym, take, ℕ, ℕ_discrete, ◌∙◌}
use Rattle.tag_pool.proofs.clears.lists.are_distinct.Goals as goal

pub returns-then-contains : goal.returns-then-contains
returns-then-contains c =
    let tags = c.args.tags.now in let i : ℕ = c.loop-i.i in let within : i < length tags = search rules in
    let found = c.if-contains.ensures.cases in let long = length-take i tags in let at = found.1 in
    let less : found.0 < i = omega arith in
    let same : get_or tags found.0 0 ≡ get_or tags i 0 =
    sym (get_or-take i tags found.0 0 less) ∙ eqb-true _ _ (found.2 0) in
    record {
      distinct = (λ t. cc, λ once. absurd (once found.0 i 0 less within same));
      twice = (λ t. (found.0, i, less, within, same), λ t. search rules);
    }

pub loop-i-preserved : goal.loop-i-preserved
loop-i-preserved c =
    let tags = c.args.tags.now in let i : ℕ = c.loop-i.i in let within : i < length tags = search rules in
    let new : (j : ℕ) → j < i → get_or tags j 0 ≢ get_or tags i 0 = λ j less e.
    let long = length-take i tags in let at : j < length (take i tags) = omega arith in
    let none = c.if-contains.ensures.cases j 0 (omega arith) at in
    let same = eq-eqb (get_or (take i tags) j 0) (get_or tags i 0) (get_or-take i tags j 0 less ∙ e) in cc in
    λ j k less l. dite (ℕ_discrete k i)
    (λ (e : k ≡ i). λ same. new j (omega arith) (same ∙ ap (λ n. get_or tags n 0) e))
    (λ (ne : k ≢ i). c.loop-i.invariant j k less (omega arith))

pub returns : goal.returns
returns c =
    let tags = c.args.tags.now in let stop = c.loop-i-test.false in
    record {
      distinct = (
        λ t j k d less l e. c.loop-i.invariant j k less (omega arith)
            (sym (get_or_default_zero tags j d (omega arith)) ∙ e ∙ get_or_default_zero tags k d l),
        λ once. search rules,
      );
      twice = (
        λ no. cc,
        λ twins. absurd (let less = twins.2 in let l = twins.3 in
            c.loop-i.invariant twins.0 twins.1 less (omega arith) twins.4),
      );
    }
