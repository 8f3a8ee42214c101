-- What the threads do keeps the rule of the device queue.
use Rattle.loop_device.proofs.Uses.{[], after_pop, after_push, ap, AreHandedOn, arith, Bool, cond, Contains, Contains-append_cases, Contains-append_right, false, get_or, IsSeenBy, length, List, refl, set, subst, suc, sum_by, sum_by-cons, sum_by-set, sum_by_push, sym, times_in, times_popped, times_pushed, true, Worker, worker, zero, ℕ, ⊎_elim}
use Rattle.std.proofs.Common.{◌≡◌, ◌+◌, ◌<◌, ◌==◌, ◌∷◌, ◌++◌}
use mathlib.Core.Option.{some, some-injective, some-ne-none}
use lib.ListN.{get_elem?}
use Rattle.crossbeam_queue.specs.Fifo.{Pushes, Pops, Forks, Learns}
use Rattle.crossbeam_queue.proofs.Lists.{set_again}

there : (workers : List Worker) (i : ℕ) (v : Worker) → get_elem? workers i ≡ some v
    → (i < length workers) × (get_or workers i v ≡ v)
there [] i v at = absurd (some-ne-none v (sym at))
there (x ∷ xs) zero v at = (omega arith, some-injective x v at)
there (x ∷ xs) (suc i) v at = let rest = there xs i v at in (omega (arith, rest.0), rest.1)

-- a sum over all views after a change of one
changed : (f : Worker → ℕ) (workers : List Worker) (i : ℕ) (v w : Worker) → get_elem? workers i ≡ some v
    → sum_by f (set workers i w) + f v ≡ sum_by f workers + f w
changed f workers i v w at =
    let here = there workers i v at in
    subst (λ n. sum_by f (set workers i w) + n ≡ sum_by f workers + f w) (ap f here.1)
    (sum_by-set f workers i w v here.0)

-- what one push or one pop of the number at the front adds to how often it stands in a list
abbrev one : ℕ → ℕ → ℕ
one x number = cond (x == number) 1 0

longer : (x : ℕ) (xs : List ℕ) (number : ℕ) → times_in (x ∷ xs) number ≡ one x number + times_in xs number
longer x xs number = sum_by-cons (λ (y : ℕ). cond (y == number) 1 0) x xs

-- what a thread counts for as one that pushed the number
abbrev counted : Bool → List ℕ → ℕ → ℕ
counted submits pushed number = cond submits (times_in pushed number) 0

longer_counted : (submits : Bool) (x : ℕ) (xs : List ℕ) (number : ℕ) → submits ≡ true
    → counted submits (x ∷ xs) number ≡ one x number + counted submits xs number
longer_counted submits x xs number role =
    subst (λ b. counted b (x ∷ xs) number ≡ one x number + counted b xs number) (sym role) (longer x xs number)

none_counted : (submits : Bool) (number : ℕ) → counted submits [] number ≡ 0
none_counted true number = refl
none_counted false number = refl

sums_pushed : (p p' q q' t t' before after same new : ℕ) → p' + before ≡ p + after → q' + same ≡ q + same
    → after ≡ new + before → t' ≡ t + new → p ≡ q + t → p' ≡ q' + t'
sums_pushed p p' q q' t t' before after same new s u m l h = omega arith

sums_popped : (p p' q q' t t' before after same new : ℕ) → p' + same ≡ p + same → q' + before ≡ q + after
    → after ≡ new + before → t ≡ new + t' → p ≡ q + t → p' ≡ q' + t'
sums_popped p p' q q' t t' before after same new s u m l h = omega arith

sums_wider : (p p' q q' t a b : ℕ) → p' ≡ p + a → q' ≡ q + b → a ≡ 0 → b ≡ 0 → p ≡ q + t → p' ≡ q' + t
sums_wider p p' q q' t a b s u x y h = omega arith

sole_at : (x y k : ℕ) → k < 1 → get_or (x ∷ []) k y ≡ y → x ≡ y
sole_at x y zero low e = e
sole_at x y (suc k) low e = absurd (omega arith)

sole : (x y : ℕ) → Contains (x ∷ []) y → x ≡ y
sole x y h = sole_at x y h.0 h.1 h.2

first : (x : ℕ) (xs : List ℕ) → Contains (x ∷ xs) x
first x xs = (0, omega arith, refl)

-- an empty queue
pub begins : (total : ℕ) → AreHandedOn total [] (worker false [] [] ∷ [])
begins total = record { below = λ number has. absurd (omega arith); balanced = λ number. refl }

-- a submitter pushes a number below the total
pub pushes : (total n pass : ℕ) (v : Worker) (x : ℕ) → v.submits ≡ true → x < total
    → Pushes (AreHandedOn total) n pass v x (λ w. w ≡ after_push v x)
pushes total n pass v x role low items workers room h at = (
  after_push v x,
  record {
    below = λ number has. ⊎_elim (λ (old : Contains items number). h.below number old)
        (λ (is : Contains (x ∷ []) number). subst (λ (y : ℕ). y < total) (sole x number is) low)
        (Contains-append_cases items (x ∷ []) number has);
    balanced = λ number. sums_pushed (times_pushed workers number) _ (times_popped workers number) _
        (times_in items number) _ (counted v.submits v.pushed number) (counted v.submits (x ∷ v.pushed) number)
        (times_in v.popped number) (one x number)
        (changed (λ (u : Worker). counted u.submits u.pushed number) workers pass v (after_push v x) at)
        (changed (λ (u : Worker). times_in u.popped number) workers pass v (after_push v x) at)
        (longer_counted v.submits x v.pushed number role)
        (sum_by_push (λ (y : ℕ). cond (y == number) 1 0) items x)
        (h.balanced number);
  },
  refl,
)

-- a thread is among the workers of the rule
pub seen : (total pass : ℕ) (v : Worker) → Learns (AreHandedOn total) pass v (IsSeenBy total v)
seen total pass v items workers h at =
    let here = there workers pass v at in record { workers = workers; lawful = h; among = (pass, here.0, here.1) }

-- whoever pops has the number that it took, which is below the total
pub pops : (total pass : ℕ) (v : Worker)
    → Pops (AreHandedOn total) pass v (λ x w. (x < total) × (w ≡ after_pop v x))
pops total pass v x items workers h at = (
  after_pop v x,
  record {
    below = λ number has. h.below number (Contains-append_right (x ∷ []) items number has);
    balanced = λ number. sums_popped (times_pushed workers number) _ (times_popped workers number) _
        (times_in (x ∷ items) number) (times_in items number) (times_in v.popped number)
        (times_in (x ∷ v.popped) number) (counted v.submits v.pushed number) (one x number)
        (changed (λ (u : Worker). counted u.submits u.pushed number) workers pass v (after_pop v x) at)
        (changed (λ (u : Worker). times_in u.popped number) workers pass v (after_pop v x) at)
        (longer x v.popped number)
        (longer x items number)
        (h.balanced number);
  },
  (h.below x (first x items), refl),
)

-- a thread more, which has pushed and popped nothing
pub forks : (total pass : ℕ) (v : Worker) (submits : Bool)
    → Forks (AreHandedOn total) pass v v (worker submits [] [])
forks total pass v submits items workers h at =
    let new : Worker = worker submits [] [] in
    subst (λ (same : List Worker). AreHandedOn total items (same ++ new ∷ [])) (sym (set_again workers pass v at)) record {
      below = h.below;
      balanced = λ number. sums_wider (times_pushed workers number) _ (times_popped workers number) _
          (times_in items number) (counted submits [] number) (times_in [] number)
          (sum_by_push (λ (u : Worker). counted u.submits u.pushed number) workers new)
          (sum_by_push (λ (u : Worker). times_in u.popped number) workers new)
          (none_counted submits number) refl (h.balanced number);
    }
