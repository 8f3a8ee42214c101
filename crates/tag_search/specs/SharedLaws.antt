-- Lists of steps by one caller of a shared map, one after the other.
use Rattle.std.specs.Prelude.{◌++◌, ◌+◌, ◌∷◌, ◌≡◌}
use Rattle.tag_search.specs.Uses.{[], AllByRecursion, ap, arith, bit_at, Caller, Claimed, Give, Holds, Keep, List, Look, LookAside, place_of, Put, Record, record_after, record_of, refl, Shape, Spill, Swap, sym, total, Word, word_of, WordStep, ℕ, ◌∙◌}
use Rattle.tag_search.specs.declared.shared.Shared.{Shared}
use Rattle.tag_search.specs.Freed.{spilled, latest_after}
use Rattle.tag_search.specs.Shared.{record_after_all, latest_after_all, latest_of, FindsWord, FindsHeldBy, AddsAll, AddsThrough}

-- the record after a concatenation is that after the second list, from that after the first
pub record_after-append : {R : Type 0} (xs ys : List WordStep) (r : Record R)
    → record_after_all (xs ++ ys) r ≡ record_after_all ys (record_after_all xs r)
record_after-append [] ys r = refl
record_after-append (x ∷ xs) ys r = record_after-append xs ys (record_after (Word x) r)

-- a fact of each step of two lists is one of each step of their concatenation
each-append : (P : WordStep → Type 0) (xs ys : List WordStep) → AllByRecursion P xs → AllByRecursion P ys
    → AllByRecursion P (xs ++ ys)
each-append P [] ys a b = b
each-append P (x ∷ xs) ys a b = (a.0, each-append P xs ys a.1 b)

-- steps on words leave the shape unchanged
pub shape_after : {R : Type 0} (steps : List WordStep) (r : Record R) → (record_after_all steps r).shape ≡ r.shape
shape_after [] r = refl
shape_after (step ∷ steps) r = shape_after steps (record_after (Word step) r)

-- what a step found of all tags held later, it found of all tags held before
held_earlier : {R : Type 0} (c d : Caller R) → d.shape.value ≡ c.shape.value → ((tag : ℕ) → Holds c tag → Holds d tag)
    → (step : WordStep)
    → FindsHeldBy d step → FindsHeldBy c step
held_earlier c d shape kept (Claimed i mask found) f = λ tag held is.
    ap (λ (k : Shape). bit_at found (place_of k.layout tag)) (sym shape)
    ∙ f tag (kept tag held) (ap (λ (k : Shape). word_of k.layout tag) shape ∙ is)
held_earlier c d shape kept (Keep i mask) f = λ tag held is.
    ap (λ (k : Shape). bit_at mask (place_of k.layout tag)) (sym shape)
    ∙ f tag (kept tag held) (ap (λ (k : Shape). word_of k.layout tag) shape ∙ is)
held_earlier c d shape kept (Look i found) f = tt
held_earlier c d shape kept (LookAside i found) f = tt
held_earlier c d shape kept (Give i mask found) f = tt
held_earlier c d shape kept (Put i mask found) f = tt
held_earlier c d shape kept (Swap i found) f = tt
held_earlier c d shape kept (Spill i mask found) f = tt

all_earlier : {R : Type 0} (c d : Caller R) → d.shape.value ≡ c.shape.value → ((tag : ℕ) → Holds c tag → Holds d tag)
    → (steps : List WordStep) → AllByRecursion (FindsHeldBy d) steps → AllByRecursion (FindsHeldBy c) steps
all_earlier c d shape kept [] f = tt
all_earlier c d shape kept (x ∷ xs) f = (held_earlier c d shape kept x f.0, all_earlier c d shape kept xs f.1)

-- the empty list of steps leaves the caller unchanged
pub adds_nothing : {R : Type 0} (c : Caller R) → AddsAll [] c c
adds_nothing c = record { known = refl; kept = λ tag held. (held, refl); finds = tt; finds_held = tt; same_map = refl }

-- the steps of two calls in a row
pub adds_on : {R : Type 0} (c d e : Caller R) (xs ys : List WordStep) → AddsAll xs c d → AddsAll ys d e
    → AddsAll (xs ++ ys) c e
adds_on c d e xs ys a b = record {
  known = b.known ∙ ap (record_after_all ys) a.known ∙ sym (record_after-append xs ys (record_of c));
  kept = λ tag held. let once = a.kept tag held in let twice = b.kept tag once.0 in (twice.0, twice.1 ∙ once.1);
  finds = each-append FindsWord xs ys a.finds b.finds;
  finds_held = each-append (FindsHeldBy c) xs ys a.finds_held (all_earlier c d
      (ap (λ (r : Record _). r.shape) a.known ∙ shape_after xs (record_of c)) (λ tag held. (a.kept tag held).0) ys
      b.finds_held);
  same_map = b.same_map ∙ a.same_map;
}

-- the empty list of steps leads from a port to itself
pub through_nothing : {R : Type 0} (p : Shared R) → AddsThrough p [] p
through_nothing p = record {
  added = adds_nothing p.caller.now;
  map = refl;
  lent = refl;
  freed = λ fits. omega arith;
  latest = refl;
}

-- the latest sweep of a concatenation is that of the second list, from that of the first
pub latest_after-append : (xs ys : List WordStep) (latest : ℕ × ℕ)
    → latest_after_all (xs ++ ys) latest ≡ latest_after_all ys (latest_after_all xs latest)
latest_after-append [] ys latest = refl
latest_after-append (x ∷ xs) ys latest = latest_after-append xs ys (latest_after x latest)

-- the sum over a concatenation
pub total-append : {T : Type 0} (f : T → ℕ) (xs ys : List T) → total f (xs ++ ys) ≡ total f xs + total f ys
total-append f [] ys = omega arith
total-append f (x ∷ xs) ys = let rest = total-append f xs ys in omega arith

-- the steps of two calls through one port
pub through_more : {R : Type 0} (p q r : Shared R) (xs ys : List WordStep) → AddsThrough p xs q → AddsThrough q ys r
    → AddsThrough p (xs ++ ys) r
through_more p q r xs ys a b = record {
  added = adds_on p.caller.now q.caller.now r.caller.now xs ys a.added b.added;
  map = b.map ∙ a.map;
  lent = b.lent ∙ a.lent;
  freed = λ fits. let both = total-append spilled xs ys in let once = a.freed (omega arith) in
      let twice = b.freed (omega arith) in omega arith;
  latest = b.latest ∙ ap (latest_after_all ys) a.latest ∙ sym (latest_after-append xs ys (latest_of p));
}
