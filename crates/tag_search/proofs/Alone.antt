-- The effect of passes and visits if no other caller steps.
use Rattle.std.specs.Prelude.{◌&&◌, ◌++◌, ◌<◌, ◌||◌, ◌∷◌, ◌≡◌, ◌≤◌}
use Rattle.tag_search.proofs.Uses.{[], All, AllTaken, ap, arith, at_once, bit_at, Bool, eq-eqb, false, freed_in, get_or, IsAside, IsBusy, IsFirst, IsFree, IsPass, IsRetry, IsSet, IsSweep, IsTries, IsVisit, List, loses, nat_eq, no_turn, None, none_left, not, Option, pass, Pool, pool_of, Quiet, refl}
use Rattle.tag_search.proofs.Uses.{retried, Some, subst, sym, taken_at, true, turn_kept, turn_passed, turn_won, wins, Words, words_after, words_after-append, words_after_all, WordStep, ℕ, ◌∙◌}
use Rattle.tag_search.proofs.Passes.{all_behind}
use Rattle.tag_search.proofs.KeptPlaces.{kept_has, kept_pool, kept_aside, kept_first}
use Rattle.tag_search.proofs.Pools.{free_here, aside_of_open, freed_twice}
use Rattle.tag_search.proofs.Sweeps.{clear_of, set_of, claim_one, sweep_pool}

-- the parts of a quiet list are quiet, the second from the words that the first leaves
pub quiet-split : (xs ys : List WordStep) (w : Words) → Quiet (xs ++ ys) w → Quiet xs w
    × Quiet ys (words_after_all xs w)
quiet-split [] ys w quiet = (tt, quiet)
quiet-split (x ∷ xs) ys w quiet = let rest = quiet-split xs ys (words_after x w) quiet.1 in ((quiet.0, rest.0), rest.1)

-- the effect of a quiet pass: no place of the rank is free and nothing changed, or the first free place is taken
abbrev pub PassTells : Words → ℕ → List ℕ → Option ℕ → Words → Type 0
PassTells w i rank None left = All (IsSet (pool_of w) i) rank × (left ≡ w)
PassTells w i rank (Some place) left = IsFirst (IsFree (pool_of w) i) (IsSet (pool_of w) i) rank place
    × (pool_of left ≡ taken_at i place (pool_of w))

all_set : (w : Words) (i found : ℕ) (places : List ℕ) → found ≡ w.word i → AllTaken found places
    → All (IsSet (pool_of w) i) places
all_set w i found places e taken = let here : AllTaken (w.word i) places = subst (λ (x : ℕ). AllTaken x places) e
    taken in
    λ k d h. set_of (w.word i) (get_or places k d) (here k d h)

tries_alone : {i : ℕ} {rank : List ℕ} {found : ℕ} {tries : List WordStep} {answer : Option ℕ}
    → IsTries i rank found tries answer
    → (w : Words) → found ≡ w.word i → All (λ b. b < 64) rank → Quiet tries w
    → PassTells w i rank answer (words_after_all tries w)
tries_alone {i = i} {rank = rank} {found = found} (none_left taken) w e within quiet =
    (all_set w i found rank e taken, refl)
tries_alone {i = i} {found = found} (wins {behind = behind} {next = next} {place = place} first clear) w e within
    quiet = (
      record {
        before = first.before;
        behind = behind;
        order = first.order;
        others = all_set w i found first.before e first.taken;
        is = clear_of (w.word i) place (all_behind (λ b. b < 64) first.before place behind
            (subst (All (λ b. b < 64)) first.order within)).0 (subst (λ (x : ℕ). bit_at x place ≡ 0) e first.clear);
      },
      claim_one w i place next,
    )
tries_alone (loses {found = found} {next = next} {place = place} first taken rest) w e within quiet =
    absurd (let same : bit_at next place ≡ bit_at found place = ap (λ (x : ℕ). bit_at x place) (quiet.0 ∙ sym e) in
    let clear = first.clear in omega arith)

pub pass_alone : {i : ℕ} {rank : List ℕ} {steps : List WordStep} {answer : Option ℕ} → IsPass i rank steps answer
    → (w : Words) → All (λ b. b < 64) rank → Quiet steps w → PassTells w i rank answer (words_after_all steps w)
pass_alone (pass tries) w within quiet = tries_alone tries w quiet.0 within quiet.1

-- a visit won a place: a free one or, if none is free, one that its sweep freed
pub data Wins (p : Pool) (i : ℕ) (rank : List ℕ) (place : ℕ) (left : Pool) : Type 0 where
  wins_free : IsFirst (IsFree p i) (IsSet p i) rank place → left ≡ taken_at i place p → Wins p i rank place left
  wins_aside : All (IsSet p i) rank → IsFirst (IsAside p i) (IsBusy p i) rank place
      → left ≡ taken_at i place (freed_in (i ∷ []) p) → Wins p i rank place left

-- the effect of a quiet visit: all of the rank is busy and the word was swept, or a place is won
abbrev pub VisitTells : Pool → ℕ → List ℕ → Option ℕ → Pool → Type 0
VisitTells p i rank None left = All (IsBusy p i) rank × (left ≡ freed_in (i ∷ []) p)
VisitTells p i rank (Some place) left = Wins p i rank place left

-- a place that is not free after its word is swept is busy
all_busy : (p mid : Pool) (i : ℕ) (places : List ℕ) → mid ≡ freed_in (i ∷ []) p → All (IsSet mid i) places
    → All (IsBusy p i) places
all_busy p mid i places e set = λ k d h. let place = get_or places k d in
    sym (free_here p i place) ∙ ap (λ (q : Pool). q.free i place) (sym e) ∙ set k d h

-- the second pass, after a sweep, wins the first place that was set aside
second_tells : (p : Pool) (w left : Words) (i : ℕ) (rank : List ℕ) (answer : Option ℕ)
    → pool_of w ≡ freed_in (i ∷ []) p → All (IsSet p i) rank
    → PassTells w i rank answer left → VisitTells p i rank answer (pool_of left)
second_tells p w left i rank None e set tells = (all_busy p (pool_of w) i rank e tells.0, ap pool_of tells.1 ∙ e)
second_tells p w left i rank (Some place) e set tells =
    let first = tells.0 in let all = subst (All (IsSet p i)) first.order set in
    wins_aside set (record {
      before = first.before;
      behind = first.behind;
      order = first.order;
      others = all_busy p (pool_of w) i first.before e first.others;
      is = aside_of_open (p.free i place) (p.aside i place)
          (all_behind (IsSet p i) first.before place first.behind all).0
          (sym (free_here p i place) ∙ ap (λ (q : Pool). q.free i place) (sym e) ∙ first.is);
    }) (tells.1 ∙ ap (taken_at i place) e)

either_twice : (b : Bool) → ((b || false) || (b || false)) ≡ (b || false)
either_twice true = refl
either_twice false = refl

-- a word that is swept again is as it was
freed_again : (i : ℕ) (p : Pool) → freed_in (i ∷ []) (freed_in (i ∷ []) p) ≡ freed_in (i ∷ []) p
freed_again i p = freed_twice (i ∷ []) (i ∷ []) (i ∷ []) p (λ j. either_twice (nat_eq j i))

-- a pass over a swept word whose places are all busy wins nothing and changes nothing
busy_pass : (p : Pool) (i : ℕ) {rank : List ℕ} {steps : List WordStep} (answer : Option ℕ) → IsPass i rank steps answer
    → (w : Words) → pool_of w ≡ freed_in (i ∷ []) p → All (IsBusy p i) rank → All (λ b. b < 64) rank → Quiet steps w
    → (answer ≡ None) × (pool_of (words_after_all steps w) ≡ freed_in (i ∷ []) p)
busy_pass p i None again w e busy within quiet =
    (refl, ap pool_of (pass_alone again w within quiet).1 ∙ e)
busy_pass p i {rank = rank} (Some place) again w e busy within quiet =
    let first = (pass_alone again w within quiet).0 in
    let here = all_behind (IsBusy p i) first.before place first.behind (subst (All (IsBusy p i)) first.order busy) in
    absurd (let no : false ≡ true = sym here.0 ∙ sym (free_here p i place)
    ∙ ap (λ (q : Pool). q.free i place) (sym e) ∙ first.is in cc)

-- turns over a swept word whose places are all busy win nothing and change nothing
busy_turns : (p : Pool) (i : ℕ) {rank : List ℕ} {turns : ℕ} {steps : List WordStep} {answer : Option ℕ}
    → IsRetry i rank turns steps answer → (w : Words) → pool_of w ≡ freed_in (i ∷ []) p
    → All (IsBusy p i) rank → All (λ b. b < 64) rank → Quiet steps w
    → (answer ≡ None) × (pool_of (words_after_all steps w) ≡ freed_in (i ∷ []) p)
busy_turns p i no_turn w e busy within quiet = (refl, e)
busy_turns p i (turn_won {place = place} {sweep = sweep} {second = second} s again) w e busy within quiet =
    let parts = quiet-split sweep second w quiet in let mid = words_after_all sweep w in
    let f : pool_of mid ≡ freed_in (i ∷ []) p = sweep_pool s w parts.0 ∙ ap (freed_in (i ∷ [])) e ∙ freed_again i p in
    let tells = busy_pass p i (Some place) again mid f busy within parts.1 in
    absurd (let no : Some place ≡ None = tells.0 in cc)
busy_turns p i (turn_kept {place = place} s first) w e busy within quiet =
    let is = kept_aside s first w within quiet in
    let gone : (pool_of w).aside i place ≡ false = ap (λ (q : Pool). q.aside i place) e
    ∙ ap (λ (b : Bool). not (b || false) && p.aside i place) (eq-eqb i i refl) in
    absurd (let no : true ≡ false = sym is ∙ gone in cc)
busy_turns p i (turn_passed {sweep = sweep} {second = second} {rest = rest} s again more) w e busy within quiet =
    let outer = quiet-split (sweep ++ second) rest w quiet in
    let parts = quiet-split sweep second w outer.0 in let mid = words_after_all sweep w in
    let f : pool_of mid ≡ freed_in (i ∷ []) p = sweep_pool s w parts.0 ∙ ap (freed_in (i ∷ [])) e ∙ freed_again i p in
    let tells = busy_pass p i None again mid f busy within parts.1 in
    let last = words_after_all (sweep ++ second) w in
    let h : pool_of last ≡ freed_in (i ∷ []) p = ap pool_of (words_after-append sweep second w) ∙ tells.1 in
    let left = busy_turns p i more last h busy within outer.1 in
    (left.0, ap pool_of (words_after-append (sweep ++ second) rest w) ∙ left.1)

-- a turn over a word with no free place of the rank
turn_alone : {i mask : ℕ} {rank : List ℕ} {sweep second : List WordStep} {answer : Option ℕ} → IsSweep i mask sweep
    → IsPass i rank second answer → (w : Words) → All (λ b. b < 64) rank → All (IsSet (pool_of w) i) rank
    → Quiet (sweep ++ second) w
    → VisitTells (pool_of w) i rank answer (pool_of (words_after_all (sweep ++ second) w))
turn_alone {i = i} {rank = rank} {sweep = sweep} {second = second} {answer = answer} s again w within set quiet =
    let parts = quiet-split sweep second w quiet in let mid = words_after_all sweep w in
    subst (λ (x : Words). VisitTells (pool_of w) i rank answer (pool_of x)) (sym (words_after-append sweep second w))
    (second_tells (pool_of w) mid (words_after_all second mid) i rank answer (sweep_pool s w parts.0) set
    (pass_alone again mid within parts.1))

retry_alone : {i : ℕ} {rank : List ℕ} {turns : ℕ} {steps : List WordStep} {answer : Option ℕ}
    → IsRetry i rank turns steps answer → 1 ≤ turns → (w : Words) → All (λ b. b < 64) rank
    → All (IsSet (pool_of w) i) rank → Quiet steps w
    → VisitTells (pool_of w) i rank answer (pool_of (words_after_all steps w))
retry_alone no_turn some w within set quiet = absurd (omega arith)
retry_alone (turn_won s again) some w within set quiet = turn_alone s again w within set quiet
retry_alone {i = i} (turn_kept {place = place} s first) some w within set quiet =
    let small = kept_has (λ b. b < 64) first within in let taken = kept_has (IsSet (pool_of w) i) first set in
    wins_aside set (kept_first s first w within set quiet) (kept_pool s w small taken quiet)
retry_alone {i = i} {rank = rank} {answer = answer}
    (turn_passed {sweep = sweep} {second = second} {rest = rest} s again more) some w within set quiet =
    let outer = quiet-split (sweep ++ second) rest w quiet in let tells = turn_alone s again w within set outer.0 in
    let left = busy_turns (pool_of w) i more (words_after_all (sweep ++ second) w) tells.1 tells.0 within outer.1 in
    subst (λ (a : Option ℕ). VisitTells (pool_of w) i rank a
    (pool_of (words_after_all ((sweep ++ second) ++ rest) w))) (sym left.0)
    (tells.0, ap pool_of (words_after-append (sweep ++ second) rest w) ∙ left.1)

pub visit_alone : {i : ℕ} {rank : List ℕ} {turns : ℕ} {steps : List WordStep} {answer : Option ℕ}
    → IsVisit i rank turns steps answer
    → (w : Words) → All (λ b. b < 64) rank
    → Quiet steps w → VisitTells (pool_of w) i rank answer (pool_of (words_after_all steps w))
visit_alone (at_once once) w within quiet = let tells = pass_alone once w within quiet in wins_free tells.0 tells.1
visit_alone {i = i} {rank = rank} {answer = answer} (retried {first = first} {rest = rest} some once again) w within
    quiet =
    let parts = quiet-split first rest w quiet in let tells = pass_alone once w within parts.0 in
    let quiet' : Quiet rest w = subst (Quiet rest) tells.1 parts.1 in
    let e : words_after_all (first ++ rest) w ≡ words_after_all rest w = words_after-append first rest w
    ∙ ap (words_after_all rest) tells.1 in
    subst (λ (x : Words). VisitTells (pool_of w) i rank answer (pool_of x)) (sym e)
    (retry_alone again some w within tells.0 quiet')
