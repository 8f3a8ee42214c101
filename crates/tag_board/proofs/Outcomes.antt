-- What follows from clauses on results.
use Rattle.std.proofs.Common.{◌≡◌, false, Option, Some, None, is_some, Result, Ok, Err, OnErr, OnOk, IfOk, refl}
use Rattle.refusals.specs.Refusals.{Checks, RefusesBy}

-- a fact about the value implies another
pub ok_map : {A E : Type 0} {P Q : A → Type 0} (r : Result A E) → IfOk r P → ((a : A) → P a → Q a) → IfOk r Q
ok_map (Ok a) p f = f a p
ok_map (Err e) p f = tt

pub both_ok : {A E P : Type 0} {Q T : A → Type 0} (r : Result A E) → OnOk r P → IfOk r Q → ((a : A) → P → Q a → T a)
    → IfOk r T
both_ok (Ok a) p q f = f a p q
both_ok (Err e) p q f = tt

-- the test for a wait group, and the fact
pub none_since : {A : Type 0} (o : Option A) → is_some o ≡ false → o ≡ None
none_since None e = refl
none_since (Some a) e = absurd cc

pub both_on : {A E : Type 0} (P Q : Type 0) (r : Result A E) → OnOk r P → OnOk r Q → OnOk r (P × Q)
both_on P Q (Ok a) p q = (p, q)
both_on P Q (Err e) p q = tt

-- a fact that holds for any value
pub on_map : {A E Q : Type 0} (P : Type 0) (r : Result A E) → OnOk r P → (P → Q) → IfOk r (λ a. Q)
on_map P (Ok a) p f = f p
on_map P (Err e) p f = tt

-- a refusal that changes less than another clause says
pub refused_whole : {A E : Type 0} {checks : Checks E} {P Q : Type 0} (r : Result A E) → RefusesBy checks P r
    → OnErr r Q → RefusesBy checks Q r
refused_whole r by same = record { first = by.first; passes = by.passes; same = same }
