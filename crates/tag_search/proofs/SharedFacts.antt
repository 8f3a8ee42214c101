-- A get over a shared map adds the tag that it won to its caller's held set, and keeps the rest.
use Rattle.std.specs.Prelude.{◌++◌, ◌+◌, ◌<◌, ◌^◌, ◌∷◌, ◌≡◌, ◌≤◌}
use Rattle.tag_search.proofs.Uses.{[], All, All-head, All-tail, AllByRecursion, ap, arith, at_once, bit_at, Claimed, count_of, count_ones, count_ones-pow, empty, FindsWord, get_or, held_with, IfSome, IsKeepingSweep, IsPass, IsRetry, IsSearch, IsSweep, IsTries, IsVisit, joined, kept_alone, kept_one}
use Rattle.tag_search.proofs.Uses.{Layout, List, Look, loses, no_turn, None, none_left, none_where_taken, Option, or_zero_r, over, pass, passed, place_of-tag_at, Record, record_after, record_after-append, record_after_all, refl, retried, set, set-get_or, Some, spilled, subst, sym, tag_at}
use Rattle.tag_search.proofs.Uses.{tag_at-below, turn_kept, turn_passed, turn_won, unseen, Visit, wins, without, won, won_where_clear, Word, word_bits, word_depth, word_of-tag_at, WordStep, ℕ, ◌∙◌}
pub use Rattle.tag_core.proofs.OneBit.{count_ones-zero}
use Rattle.tag_search.proofs.Inside.{IsInside}
use Rattle.tag_search.proofs.KeptPlaces.{kept_has}
use Rattle.tag_search.proofs.Passes.{all_left}

-- the held set with the place won in a word, if there is one
abbrev pub held_at : ℕ → Option ℕ → List ℕ → List ℕ
held_at i None held = held
held_at i (Some place) held = joined held i (2 ^ place)

-- the caller's held set changed so, it won so many tags and gave none back, and the fact tells which
pub record Took {R : Type 0} (gain : List ℕ → List ℕ) (count : ℕ) (Fact : Type 0) (old new : Record R) : Type 0 where
  pub shape : new.shape ≡ old.shape
  pub number : new.number ≡ old.number
  pub held : new.held ≡ gain old.held
  pub won : new.won ≡ old.won + count
  pub back : new.back ≡ old.back
  pub fact : Fact

-- the caller won nothing
abbrev pub TookNone : {R : Type 0} → Record R → Record R → Type 0
TookNone old new = Took (λ held. held) 0 (Unit {0}) old new

-- the caller won this place of the word, below the bound, if there is one, and no other
abbrev pub TookPlace : {R : Type 0} → ℕ → ℕ → Option ℕ → Record R → Record R → Type 0
TookPlace bits i answer old new =
    Took (held_at i answer) (count_of answer) (IfSome answer (λ place. place < bits)) old new

-- as `Gains`, for the records alone, with a tag of the map
abbrev pub Won : {R : Type 0} → Layout → Option ℕ → Record R → Record R → Type 0
Won l answer old new = Took (held_with l answer) (count_of answer) (IfSome answer (λ tag. tag < l.depth)) old new

-- a fact of each step of a concatenation is one of each step of both lists
pub each-split : (P : WordStep → Type 0) (xs ys : List WordStep) → AllByRecursion P (xs ++ ys) → AllByRecursion P xs
    × AllByRecursion P ys
each-split P [] ys h = (tt, h)
each-split P (x ∷ xs) ys h = let rest = each-split P xs ys h.1 in ((h.0, rest.0), rest.1)

module _ {R : Type 0} where
  -- steps that took nothing, followed by steps that took something
  took_on : {gain : List ℕ → List ℕ} {count : ℕ} {Fact : Type 0} (r s t : Record R) → TookNone r s
      → Took gain count Fact s t → Took gain count Fact r t
  took_on {gain = gain} r s t a b = record {
    shape = b.shape ∙ a.shape;
    number = b.number ∙ a.number;
    held = b.held ∙ ap gain a.held;
    won = let x = a.won in let y = b.won in omega arith;
    back = b.back ∙ a.back;
    fact = b.fact;
  }

  pub took_more : {gain : List ℕ → List ℕ} {count : ℕ} {Fact : Type 0} (r : Record R) (xs ys : List WordStep)
      → TookNone r (record_after_all xs r)
      → Took gain count Fact (record_after_all xs r) (record_after_all ys (record_after_all xs r))
      → Took gain count Fact r (record_after_all (xs ++ ys) r)
  took_more {gain = gain} {count = count} {Fact = Fact} r xs ys a b =
      subst (λ (s : Record R). Took gain count Fact r s) (sym (record_after-append xs ys r))
      (took_on r (record_after_all xs r) (record_after_all ys (record_after_all xs r)) a b)

  pub took_none : (r : Record R) → TookNone r r
  took_none r = record { shape = refl; number = refl; held = refl; won = omega arith; back = refl; fact = tt }

  pub took_look : (i found : ℕ) (r : Record R) → TookNone r (record_after (Word (Look i found)) r)
  took_look i found r = record { shape = refl; number = refl; held = refl; won = refl; back = omega arith; fact = tt }

  pub sweep_took : {i mask : ℕ} {steps : List WordStep} (r : Record R) → IsSweep i mask steps
      → TookNone r (record_after_all steps r)
  sweep_took r unseen = record { shape = refl; number = refl; held = refl; won = refl; back = omega arith; fact = tt }
  sweep_took r (empty some) =
      record { shape = refl; number = refl; held = refl; won = omega arith; back = omega arith; fact = tt }
  sweep_took r (spilled some has fits) =
      record { shape = refl; number = refl; held = refl; won = omega arith; back = omega arith; fact = tt }

  -- a claim that won nothing
  pub took_lost : (i mask found : ℕ) (r : Record R) → without mask found ≡ 0
      → TookNone r (record_after (Word (Claimed i mask found)) r)
  took_lost i mask found r none = record {
    shape = refl;
    number = refl;
    held = ap (joined r.held i) none ∙ ap (set r.held i) (or_zero_r (get_or r.held i 0)) ∙ set-get_or r.held i 0;
    won = ap (λ (x : ℕ). r.won + count_ones x) none ∙ ap (λ (x : ℕ). r.won + x) count_ones-zero;
    back = omega arith;
    fact = tt;
  }

  -- a claim of a place that was clear
  took_won : (bits i place found : ℕ) (r : Record R) → place < 64 → place < bits → found < 2 ^ 64
      → bit_at found place ≡ 0 → TookPlace bits i (Some place) r (record_after (Word (Claimed i (2 ^ place) found)) r)
  took_won bits i place found r h below fits clear = let all = won_where_clear found place fits h clear in record {
    shape = refl;
    number = refl;
    held = ap (joined r.held i) all;
    won = ap (λ (x : ℕ). r.won + count_ones x) all ∙ ap (λ (x : ℕ). r.won + x) (count_ones-pow place);
    back = omega arith;
    fact = below;
  }

module _ {R : Type 0} (bits i : ℕ) (narrow : bits ≤ 64) where
  tries_took : {rank : List ℕ} {found : ℕ} {steps : List WordStep} {answer : Option ℕ} (r : Record R)
      → IsTries i rank found steps answer
      → AllByRecursion FindsWord steps → All (λ place. place < bits) rank
      → TookPlace bits i answer r (record_after_all steps r)
  tries_took r (none_left taken) finds small = took_none r
  tries_took r (wins {rank = rank} {behind = behind} {found = found} {next = next} {place = place} first clear) finds
      small =
      let at = all_left (λ place. place < bits) found rank behind place first small in
      let below : place < bits = at.0 in
      took_won bits i place next r (omega arith) below finds.0 clear
  tries_took r (loses {rank = rank} {behind = behind} {found = found} {next = next} {place = place} {rest = rest} first
      taken more) finds small =
      let at = all_left (λ place. place < bits) found rank behind place first small in
      let below : place < bits = at.0 in
      let s : Record R = record_after (Word (Claimed i (2 ^ place) next)) r in
      took_on r s (record_after_all rest s)
      (took_lost i (2 ^ place) next r (none_where_taken next place finds.0 (omega arith) taken))
      (tries_took s more finds.1 at.1)

  pass_took : {rank : List ℕ} {steps : List WordStep} {answer : Option ℕ} (r : Record R) → IsPass i rank steps answer
      → AllByRecursion FindsWord steps → All (λ place. place < bits) rank
      → TookPlace bits i answer r (record_after_all steps r)
  pass_took r (pass {found = found} {tries = tries} more) finds small =
      let s : Record R = record_after (Word (Look i found)) r in
      took_on r s (record_after_all tries s) (took_look i found r) (tries_took s more finds.1 small)

  turn_took : {mask : ℕ} {rank : List ℕ} {first second : List WordStep} {answer : Option ℕ} (r : Record R)
      → IsSweep i mask first → IsPass i rank second answer
      → AllByRecursion FindsWord (first ++ second) → All (λ place. place < bits) rank
      → TookPlace bits i answer r (record_after_all (first ++ second) r)
  turn_took {first = first} {second = second} r sweep again finds small =
      took_more r first second (sweep_took r sweep)
      (pass_took (record_after_all first r) again (each-split FindsWord first second finds).1 small)

  -- a sweep that keeps a place wins it, and nothing else
  kept_took : {mask place : ℕ} {steps : List WordStep} (r : Record R) → IsKeepingSweep i mask place steps → place < bits
      → TookPlace bits i (Some place) r (record_after_all steps r)
  kept_took {place = place} r (kept_alone some fits none) below = let one = count_ones-pow place in record {
    shape = refl;
    number = refl;
    held = refl;
    won = omega arith;
    back = omega arith;
    fact = below;
  }
  kept_took {place = place} r (kept_one some fits others) below = let one = count_ones-pow place in record {
    shape = refl;
    number = refl;
    held = refl;
    won = omega arith;
    back = omega arith;
    fact = below;
  }

  retry_took : {rank : List ℕ} {turns : ℕ} {steps : List WordStep} {answer : Option ℕ} (r : Record R)
      → IsRetry i rank turns steps answer → AllByRecursion FindsWord steps → All (λ place. place < bits) rank
      → TookPlace bits i answer r (record_after_all steps r)
  retry_took r no_turn finds small = took_none r
  retry_took r (turn_won sweep again) finds small = turn_took r sweep again finds small
  retry_took r (turn_kept sweep first) finds small =
      kept_took r sweep (kept_has (λ place. place < bits) first small)
  retry_took r (turn_passed {sweep = first} {second = second} {rest = rest} sweep again more) finds small =
      let split = each-split FindsWord (first ++ second) rest finds in
      took_more r (first ++ second) rest (turn_took r sweep again split.0 small)
      (retry_took (record_after_all (first ++ second) r) more split.1 small)

  -- a visit wins the place that it answers, and nothing else
  visit_took : {rank : List ℕ} {turns : ℕ} {steps : List WordStep} {answer : Option ℕ} (r : Record R)
      → IsVisit i rank turns steps answer → AllByRecursion FindsWord steps → All (λ place. place < bits) rank
      → TookPlace bits i answer r (record_after_all steps r)
  visit_took r (at_once once) finds small = pass_took r once finds small
  visit_took r (retried {first = first} {rest = rest} some once again) finds small =
      let split = each-split FindsWord first rest finds in
      took_more r first rest (pass_took r once split.0 small)
      (retry_took (record_after_all first r) again split.1 small)

module _ {R : Type 0} (l : Layout) (narrow : word_bits l ≤ 64) where
  won_tag : (i place : ℕ) (r s : Record R) → TookPlace (word_depth l i) i (Some place) r s
      → Won l (Some (tag_at l i place)) r s
  won_tag i place r s took = let near : place < word_depth l i = took.fact in
      let small : place < word_bits l = omega arith in record {
        shape = took.shape;
        number = took.number;
        held = took.held ∙ sym (λ z. joined r.held (word_of-tag_at l i place small z)
            (2 ^ place_of-tag_at l i place small z));
        won = took.won;
        back = took.back;
        fact = tag_at-below l i place near;
      }

  pub visit_wins : (visit : Visit) {steps : List WordStep} {answer : Option ℕ} (r : Record R)
      → IsVisit visit.word visit.rank visit.turns steps answer
      → AllByRecursion FindsWord steps → IsInside l visit → TookPlace (word_depth l visit.word) visit.word answer r
      (record_after_all steps r)
  visit_wins visit r v finds inside = visit_took (word_depth l visit.word) visit.word
      (let z : word_depth l visit.word ≤ 64 = omega arith in z) r v finds inside

  -- a search wins the tag that it answers, and nothing else
  pub search_wins : {vs : List Visit} {steps : List WordStep} {answer : Option ℕ} (r : Record R)
      → IsSearch l vs steps answer
      → AllByRecursion FindsWord steps → All (IsInside l) vs → Won l answer r (record_after_all steps r)
  search_wins r over finds inside = took_none r
  search_wins r (won {visit = visit} {visits = more} {steps = steps} {place = place} v) finds inside =
      won_tag visit.word place r (record_after_all steps r)
      (visit_wins visit r v finds (All-head (IsInside l) visit more inside))
  search_wins r (passed {visit = visit} {visits = more} {steps = steps} {rest = rest} v search) finds inside =
      let split = each-split FindsWord steps rest finds in
      took_more r steps rest (visit_wins visit r v split.0 (All-head (IsInside l) visit more inside))
      (search_wins (record_after_all steps r) search split.1 (All-tail (IsInside l) visit more inside))
