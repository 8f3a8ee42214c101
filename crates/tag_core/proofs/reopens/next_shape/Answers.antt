-- Each caller's counts stand at its number, and no two callers have one number.
use Rattle.std.specs.Prelude.{◌+◌, ◌<◌, ◌≡◌}
use Rattle.tag_core.proofs.Uses.{ap, arith, at_index, Caller, get_elem?, get_or, get_or-set_other, get_or-set_same, HaveOwnNumbers, length, length-set, List, refl, set, some, within, ℕ, ◌∙◌}
use Rattle.tag_core.proofs.Passing.{zeros}
use Rattle.tag_core.proofs.reopens.next_shape.Goals as goal

pub loop-caller-init : goal.loop-caller-init
loop-caller-init g c = record {
  long = (refl, refl);
  rest = λ n l. zeros 64 n;
  won = λ i x l. absurd (omega arith);
  back = λ i x l. absurd (omega arith);
}

pub bounds-won-caller : goal.bounds-won-caller
bounds-won-caller g c =
    let here = at_index c.args.callers.now c.loop-caller.caller-index c.caller-item.result
    c.loop-caller-test.true c.caller-item.is in
    let low = c.requires.below c.loop-caller.caller-index c.caller-item.result here in
    let few = c.requires.few in omega arith

pub bounds-back-caller : goal.bounds-back-caller
bounds-back-caller g c =
    let here = at_index c.args.callers.now c.loop-caller.caller-index c.caller-item.result
    c.loop-caller-test.true c.caller-item.is in
    let low = c.requires.below c.loop-caller.caller-index c.caller-item.result here in
    let few = c.requires.few in omega arith

-- one caller's count more
more : {R : Type 0} (f : Caller R → ℕ) (callers : List (Caller R)) (counts : List ℕ) (n : ℕ) (x : Caller R)
    → get_elem? callers n ≡ some x → x.number < length counts
    → ((i : ℕ) (y : Caller R) → i < n → get_elem? callers i ≡ some y → get_or counts y.number 0 ≡ f y)
    → HaveOwnNumbers callers
    → (i : ℕ) (y : Caller R) → i < n + 1 → get_elem? callers i ≡ some y
    → get_or (set counts x.number (f x)) y.number 0 ≡ f y
more f callers counts n x here low before once i y l at =
    grind (arith, get_or-set_same, get_or-set_other, before i y, once i n y x at here)

pub loop-caller-preserved : goal.loop-caller-preserved
loop-caller-preserved g c =
    let R = g.row.R.Denot in let xs : List (Caller R) = c.args.callers.now in let n : ℕ = c.loop-caller.caller-index in
    let x : Caller R = c.caller-item.result in let inv = c.loop-caller.invariant in
    let here = at_index xs n x c.loop-caller-test.true c.caller-item.is in
    let low = c.requires.below n x here in let few = c.requires.few in record {
      long = (
        length-set c.loop-caller.won x.number x.won ∙ inv.long.0,
        length-set c.loop-caller.back x.number x.back ∙ inv.long.1,
      );
      rest = λ k l. get_or-set_other c.loop-caller.won x.number k x.won 0 (omega arith) ∙ inv.rest k l;
      won = more (λ (z : Caller R). z.won) xs c.loop-caller.won n x here (let e = inv.long.0 in
          omega arith) inv.won
          c.requires.once;
      back = more (λ (z : Caller R). z.back) xs c.loop-caller.back n x here (let e = inv.long.1 in
          omega arith) inv.back
          c.requires.once;
    }

pub returns-clause-counts : goal.returns-clause-counts
returns-clause-counts g c =
    let R = g.row.R.Denot in let xs : List (Caller R) = c.args.callers.now in let inv = c.loop-caller.invariant in
    let end = c.loop-caller-test.false in record {
      won = λ i x at. ap (λ (z : List ℕ). get_or z x.number 0) c.of.ensures
          ∙ inv.won i x (let low = within xs i x at in omega arith) at;
      back = λ i x at. ap (λ (z : List ℕ). get_or z x.number 0) c.of-2.ensures
          ∙ inv.back i x (let low = within xs i x at in omega arith) at;
    }
