-- A search wins no tag that its caller held, since each claim found the caller's own tags taken.
use Rattle.std.specs.Prelude.{◌++◌, ◌+◌, ◌<◌, ◌^◌, ◌∷◌, ◌≡◌, ◌≤◌}
use Rattle.tag_search.proofs.Uses.{[], All, All-head, All-tail, AllByRecursion, ap, arith, at_once, batch_over, batch_passed, batch_won, bit_at, bit_at-pow_same, bit_at-shr, bit_minus, Caller, Claimed, FindsHeldBy, FindsWord, Holds, IfSome, IsBatchSearch, IsBatchVisit, IsInRun, IsKeepingSweep}
use Rattle.tag_search.proofs.Uses.{IsPass, IsRetry, IsSearch, IsTries, IsVisit, kept_alone, kept_one, Layout, List, loses, no_run, no_turn, none_left, Option, over, pass, passed, place_of, place_of-tag_at, Record, retried, run_lost, run_mask, run_taken, run_won, sym, tag_at, turn_kept, turn_passed}
use Rattle.tag_search.proofs.Uses.{turn_won, Visit, wins, without, won, word_bits, word_depth, word_of, word_of-tag_at, WordStep, ℕ, ◌∙◌}
use Rattle.tag_search.proofs.RunFacts.{inside as won_inside}
use Rattle.tag_search.proofs.Inside.{IsInside}
use Rattle.tag_search.proofs.SharedFacts.{visit_wins, each-split}

module _ {R : Type 0} (c : Caller R) where
  abbrev Blocks : List WordStep → Type 0
  Blocks steps = AllByRecursion (FindsHeldBy c) steps

  -- the caller holds no tag at this place of the word
  abbrev IsNew : ℕ → ℕ → Type 0
  IsNew i place = (tag : ℕ) → Holds c tag → word_of c.shape.value.layout tag ≡ i
      → ¬ (place_of c.shape.value.layout tag ≡ place)

  tries_new : {i : ℕ} {rank : List ℕ} {found : ℕ} {steps : List WordStep} {answer : Option ℕ}
      → IsTries i rank found steps answer
      → Blocks steps → IfSome answer (IsNew i)
  tries_new (none_left taken) blocks = tt
  tries_new (wins {next = next} {place = place} first clear) blocks = λ tag has is at.
      let one : bit_at next place ≡ 1 = ap (bit_at next) (sym at) ∙ blocks.0 tag has is in absurd (omega arith)
  tries_new (loses first taken more) blocks = tries_new more blocks.1

  pass_new : {i : ℕ} {rank : List ℕ} {steps : List WordStep} {answer : Option ℕ} → IsPass i rank steps answer
      → Blocks steps → IfSome answer (IsNew i)
  pass_new (pass more) blocks = tries_new more blocks.1

  -- no sweep keeps a tag that the caller held
  kept_new : {i mask place : ℕ} {steps : List WordStep} → IsKeepingSweep i mask place steps → Blocks steps → IsNew i place
  kept_new {place = place} (kept_alone some fits none) blocks = λ tag has is at.
      let clear : bit_at (2 ^ place) place ≡ 0 = ap (bit_at (2 ^ place)) (sym at) ∙ blocks.1.1.0 tag has is in
      let one = bit_at-pow_same place in absurd (omega arith)
  kept_new {place = place} (kept_one some fits others) blocks = λ tag has is at.
      let clear : bit_at (2 ^ place) place ≡ 0 = ap (bit_at (2 ^ place)) (sym at) ∙ blocks.1.1.0 tag has is in
      let one = bit_at-pow_same place in absurd (omega arith)

  retry_new : {i : ℕ} {rank : List ℕ} {turns : ℕ} {steps : List WordStep} {answer : Option ℕ}
      → IsRetry i rank turns steps answer → Blocks steps → IfSome answer (IsNew i)
  retry_new no_turn blocks = tt
  retry_new (turn_won {sweep = first} {second = second} sweep again) blocks = pass_new again
      (each-split (FindsHeldBy c) first second blocks).1
  retry_new (turn_kept sweep first) blocks = kept_new sweep blocks
  retry_new (turn_passed {sweep = first} {second = second} {rest = rest} sweep again more) blocks = retry_new more
      (each-split (FindsHeldBy c) (first ++ second) rest blocks).1

  visit_new : {i : ℕ} {rank : List ℕ} {turns : ℕ} {steps : List WordStep} {answer : Option ℕ}
      → IsVisit i rank turns steps answer → Blocks steps → IfSome answer (IsNew i)
  visit_new (at_once once) blocks = pass_new once blocks
  visit_new (retried {first = first} {rest = rest} some once again) blocks = retry_new again
      (each-split (FindsHeldBy c) first rest blocks).1

  -- the tag that a search answers was not held
  pub search_new : (l : Layout) → c.shape.value.layout ≡ l → word_bits l ≤ 64
      → {vs : List Visit} {steps : List WordStep} {answer : Option ℕ} (r : Record R)
      → IsSearch l vs steps answer → AllByRecursion FindsWord steps → Blocks steps → All (IsInside l) vs
      → IfSome answer (λ tag. ¬ (Holds c tag))
  search_new l same narrow r over finds blocks inside = tt
  search_new l same narrow r (won {visit = visit} {visits = more} {steps = steps} {place = place} v) finds blocks
      inside = λ holds.
      let near = (visit_wins l narrow visit r v finds (All-head (IsInside l) visit more inside)).fact in
      let low : place < word_depth l visit.word = near in let small : place < word_bits l = omega arith in
      visit_new v blocks (tag_at l visit.word place) holds
      (ap (λ (x : Layout). word_of x (tag_at l visit.word place)) same ∙ word_of-tag_at l visit.word place small)
      (ap (λ (x : Layout). place_of x (tag_at l visit.word place)) same ∙ place_of-tag_at l visit.word place small)
  search_new l same narrow r (passed {visit = visit} {visits = more} {steps = steps} {rest = rest} v search) finds
      blocks inside =
      search_new l same narrow r search (each-split FindsWord steps rest finds).1
      (each-split (FindsHeldBy c) steps rest blocks).1 (All-tail (IsInside l) visit more inside)

  -- a bit of a run that was won was clear when it was claimed
  run_clear : (n place found depth k : ℕ) → place + n ≤ depth → depth ≤ 64 → found < 2 ^ 64
      → bit_at (run_won n place found) k ≡ 1
      → (place + k < depth) × (bit_at found (place + k) ≡ 0)
  run_clear n place found depth k fits narrow small one =
      let low : place + k < depth = won_inside n place found depth k fits one in
      let here : bit_at (without (run_mask n place) found) (place + k) ≡ 1 = sym
      (bit_at-shr (without (run_mask n place) found) place k) ∙ one in
      let less = bit_minus (run_mask n place) found (place + k) small (omega arith) in (low, omega arith)

  -- the caller holds no tag at a place of this run of the word
  abbrev IsNewRun : ℕ → ℕ → ℕ × ℕ → Type 0
  IsNewRun i depth run = (k : ℕ) → bit_at run.1 k ≡ 1 → (run.0 + k < depth) × IsNew i (run.0 + k)

  batch_visit_new : {i depth n : ℕ} {steps : List WordStep} {answer : Option (ℕ × ℕ)} → depth ≤ 64
      → IsBatchVisit i depth n steps answer
      → AllByRecursion FindsWord steps → Blocks steps → IfSome answer (IsNewRun i depth)
  batch_visit_new narrow (no_run sweep none) finds blocks = tt
  batch_visit_new narrow (run_lost next sweep run none) finds blocks = tt
  batch_visit_new {i = i} {depth = depth} {n = n} narrow
      (run_taken {place = place} {steps = steps} next sweep run some) finds blocks = λ k one.
      let last = each-split FindsWord steps (Claimed i (run_mask n place) next ∷ []) finds in
      let held = each-split (FindsHeldBy c) steps (Claimed i (run_mask n place) next ∷ []) blocks in
      let clear = run_clear n place next depth k run.fits narrow last.1.0 one in (
        clear.0,
        λ tag has is at. let taken : bit_at next (place + k) ≡ 1 = ap (bit_at next) (sym at) ∙ held.1.0 tag has is in
            let zero : bit_at next (place + k) ≡ 0 = clear.1 in absurd (omega arith),
      )

  -- no tag that a batch search answers was held
  pub batch_new : (l : Layout) → c.shape.value.layout ≡ l → word_bits l ≤ 64
      → {n : ℕ} {is : List ℕ} {steps : List WordStep} {answer : Option (ℕ × ℕ)}
      → IsBatchSearch l n is steps answer → AllByRecursion FindsWord steps → Blocks steps → (tag : ℕ)
      → IsInRun answer tag → ¬ (Holds c tag)
  batch_new l same narrow batch_over finds blocks tag within = absurd within
  batch_new l same narrow (batch_won {i = i} {place = place} {bits = bits} v) finds blocks tag within = λ holds.
      let k : ℕ = within.0 in
      let new = batch_visit_new (let z : word_depth l i ≤ 64 = omega arith in z) v finds blocks k within.2 in
      let low : place + k < word_depth l i = new.0 in let small : place + k < word_bits l = omega arith in
      let is : tag ≡ tag_at l i (place + k) = let e : tag ≡ tag_at l i place + k = within.1 in omega arith in
      new.1 tag holds
      ((λ z. word_of (same z) (is z)) ∙ word_of-tag_at l i (place + k) small)
      ((λ z. place_of (same z) (is z)) ∙ place_of-tag_at l i (place + k) small)
  batch_new l same narrow (batch_passed {steps = steps} {rest = rest} v search) finds blocks tag within =
      batch_new l same narrow search (each-split FindsWord steps rest finds).1
      (each-split (FindsHeldBy c) steps rest blocks).1 tag within
