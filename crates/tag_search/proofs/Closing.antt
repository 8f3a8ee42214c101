-- A search in vain: its steps show of each spot that no tag is free there, after any step of it that made one free.
use Rattle.std.specs.Prelude.{◌++◌, ◌<◌, ◌^◌, ◌∷◌, ◌≡◌, ◌≢◌, ◌≤◌, ◌⊎◌}
use Rattle.tag_search.proofs.Uses.{[], All-contains, AllByRecursion, arith, at_once, bit_at, bit_at-zero, Bool, Claimed, Contains, Contains-append_cases, dite, empty, inl, inr, IsKeepingSweep, IsPass, IsRetry, IsSearch, IsSweep, IsTries, IsVisit, kept_alone, kept_one, Layout, List, Look, LookAside, loses}
use Rattle.tag_search.proofs.Uses.{no_turn, None, none_left, Opens, Option, over, Owes, own_after, pass, passed, refl, retried, Shuts, Spill, spilled, Step, subst, suc, Swap, sym, Tried, turn_kept, turn_passed, turn_won, unseen, Visit, wins, won, Word, word_depth, WordStep, zero, ℕ, ℕ_discrete}
use Rattle.tag_search.proofs.Uses.{⊎_elim, ◌∙◌}
use Rattle.tag_core.specs.declared.berth.Waiter.{Waiter}
use Rattle.tag_bell.specs.declared.spot.Spot.{Spot}
use Rattle.tag_bell.specs.declared.spot.Spot.TheVariants.{InWord, InAside}

-- it found no tag free at the spot, and has nothing to see to there
abbrev pub IsClosed : {R : Type 0} → List (Step R) → Spot → Type 0
IsClosed steps spot = Tried steps spot × ((kinds : Waiter → Bool) (e : ℕ) → ¬ Owes kinds steps spot e)

-- whatever came before, these steps, oldest first, close the spot
abbrev pub Closes : Type 0 → List WordStep → Spot → Type 0
Closes R steps spot = (older : List (Step R)) → IsClosed (own_after steps older) spot

-- the spot is in another word
abbrev pub IsElsewhere : ℕ → Spot → Type 0
IsElsewhere i (InWord word bit) = word ≢ i
IsElsewhere i (InAside word bit) = word ≢ i

-- none of them makes a tag free at the spot
abbrev Leaves : List WordStep → Spot → Type 0
Leaves steps spot = AllByRecursion (λ step. ¬ Opens step spot) steps

-- each visit tries every place of its word
abbrev pub AreFull : Layout → List Visit → Type 0
AreFull l [] = Unit {0}
AreFull l (visit ∷ visits) = ((b : ℕ) → b < word_depth l visit.word → Contains visit.rank b) × AreFull l visits

-- one of the visits is of this word
abbrev pub IsVisited : ℕ → List Visit → Type 0
IsVisited i [] = ⊥
IsVisited i (visit ∷ visits) = (i ≡ visit.word) ⊎ IsVisited i visits

-- the spot is of a tag of this word
abbrev pub IsWithinWord : Layout → ℕ → Spot → Type 0
IsWithinWord l i (InWord word bit) = (word ≡ i) × (bit < word_depth l i)
IsWithinWord l i (InAside word bit) = word ≡ i

module _ (R : Type 0) where
  own_after-append : (xs ys : List WordStep) (older : List (Step R))
      → own_after (xs ++ ys) older ≡ own_after ys (own_after xs older)
  own_after-append [] ys older = refl
  own_after-append (x ∷ xs) ys older = own_after-append xs ys (Word x ∷ older)

  leaves-append : (xs ys : List WordStep) (spot : Spot) → Leaves xs spot → Leaves ys spot → Leaves (xs ++ ys) spot
  leaves-append [] ys spot a b = b
  leaves-append (x ∷ xs) ys spot a b = (a.0, leaves-append xs ys spot a.1 b)

  -- a step that shuts the spot closes it
  shut : (step : WordStep) (spot : Spot) → Shuts step spot → Closes R (step ∷ []) spot
  shut step spot s older = (inl s, λ kinds e owes. owes.1 s)

  -- what is closed stays so while no step opens it
  stays : (ys : List WordStep) (spot : Spot) (steps : List (Step R)) → IsClosed steps spot → Leaves ys spot
      → IsClosed (own_after ys steps) spot
  stays [] spot steps is leaves = is
  stays (y ∷ ys) spot steps is leaves = stays ys spot (Word y ∷ steps)
      (inr is.0, λ kinds e owes. ⊎_elim leaves.0 (is.1 kinds e) owes.0) leaves.1

  -- the end of a list of steps decides
  ends : (xs ys : List WordStep) (spot : Spot) → Closes R ys spot → Closes R (xs ++ ys) spot
  ends xs ys spot closes older = subst (λ (s : List (Step R)). IsClosed s spot)
      (sym (own_after-append xs ys older)) (closes (own_after xs older))

  begins : (xs ys : List WordStep) (spot : Spot) → Closes R xs spot → Leaves ys spot → Closes R (xs ++ ys) spot
  begins xs ys spot closes leaves older = subst (λ (s : List (Step R)). IsClosed s spot)
      (sym (own_after-append xs ys older)) (stays ys spot (own_after xs older) (closes older) leaves)

  -- if they open the spot at all, they close it at last
  abbrev Settles : List WordStep → Spot → Type 0
  Settles steps spot = Closes R steps spot ⊎ Leaves steps spot

  closes_on : (xs ys : List WordStep) (spot : Spot) → Closes R xs spot → Settles ys spot → Closes R (xs ++ ys) spot
  closes_on xs ys spot before (inl closes) = ends xs ys spot closes
  closes_on xs ys spot before (inr leaves) = begins xs ys spot before leaves

  settles-append : (xs ys : List WordStep) (spot : Spot) → Settles xs spot → Settles ys spot → Settles (xs ++ ys) spot
  settles-append xs ys spot a (inl closes) = inl (ends xs ys spot closes)
  settles-append xs ys spot (inl closes) (inr leaves) = inl (begins xs ys spot closes leaves)
  settles-append xs ys spot (inr before) (inr leaves) = inr (leaves-append xs ys spot before leaves)

  -- ---- passes

  -- claims free nothing
  tries_leave : {i : ℕ} {rank : List ℕ} {found : ℕ} {tries : List WordStep} {answer : Option ℕ}
      → IsTries i rank found tries answer → (spot : Spot) → Leaves tries spot
  tries_leave (none_left taken) spot = tt
  tries_leave (wins first clear) spot = ((λ o. o), tt)
  tries_leave (loses first taken rest) spot = ((λ o. o), tries_leave rest spot)

  pass_leaves : {i : ℕ} {rank : List ℕ} {steps : List WordStep} {answer : Option ℕ} → IsPass i rank steps answer
      → (spot : Spot) → Leaves steps spot
  pass_leaves (pass tries) spot = ((λ o. o), tries_leave tries spot)

  -- each place of the rank is taken in the word found before the claims, or closed by them
  tries_close : {i : ℕ} {rank : List ℕ} {found : ℕ} {tries : List WordStep} {answer : Option ℕ}
      → IsTries i rank found tries answer → answer ≡ None → (b : ℕ) → Contains rank b
      → (bit_at found b ≡ 1) ⊎ Closes R tries (InWord i b)
  tries_close {rank = rank} {found = found} (none_left taken) e b is =
      inl (All-contains (λ place. bit_at found place ≡ 1) rank b taken is)
  tries_close (wins first clear) e b is = absurd cc
  tries_close {i = i} {found = found} (loses {behind = behind} {next = next} {place = place} {rest = rest} first taken more) e b is =
      ⊎_elim (λ front. inl (All-contains (λ x. bit_at found x ≡ 1) first.before b first.taken front))
      (λ back. inr (⊎_elim (λ one. begins (Claimed i (2 ^ place) next ∷ []) rest (InWord i b)
      (shut (Claimed i (2 ^ place) next) (InWord i b) (refl, inl one)) (tries_leave more (InWord i b)))
      (λ closes. ends (Claimed i (2 ^ place) next ∷ []) rest (InWord i b) closes) (later (tries_close more e b) back)))
      (Contains-append_cases first.before (place ∷ behind) b (subst (λ (xs : List ℕ). Contains xs b) first.order is))
    where
      later : (Contains behind b → (bit_at next b ≡ 1) ⊎ Closes R rest (InWord i b)) → Contains (place ∷ behind) b
          → (bit_at next b ≡ 1) ⊎ Closes R rest (InWord i b)
      later closes (zero, low, same) = inl (subst (λ (x : ℕ). bit_at next x ≡ 1) same taken)
      later closes (suc k, low, same) = closes (k, (let l = low in omega arith), same)

  -- a pass in vain closes each place of its rank
  pass_closes : {i : ℕ} {rank : List ℕ} {steps : List WordStep} → IsPass i rank steps None → (b : ℕ) → Contains rank b
      → Closes R steps (InWord i b)
  pass_closes {i = i} (pass {found = found} {tries = tries} is) b there =
      ⊎_elim (λ one. begins (Look i found ∷ []) tries (InWord i b) (shut (Look i found) (InWord i b) (refl, one))
      (tries_leave is (InWord i b)))
      (λ closes. ends (Look i found ∷ []) tries (InWord i b) closes) (tries_close is refl b there)

  -- ---- visits

  -- a sweep finds or leaves its cleared set empty
  sweep_closes : {i mask : ℕ} {sweep : List WordStep} → IsSweep i mask sweep → (b : ℕ) → Closes R sweep (InAside i b)
  sweep_closes {i = i} unseen b = shut (LookAside i 0) (InAside i b) (refl, bit_at-zero b)
  sweep_closes {i = i} (empty {seen = seen} some) b =
      ends (LookAside i seen ∷ []) (Swap i 0 ∷ []) (InAside i b) (shut (Swap i 0) (InAside i b) (refl, tt))
  sweep_closes {i = i} (spilled {seen = seen} {mask = mask} {found = found} some more fits) b =
      ends (LookAside i seen ∷ []) (Swap i mask ∷ Spill i mask found ∷ []) (InAside i b)
      (begins (Swap i mask ∷ []) (Spill i mask found ∷ []) (InAside i b) (shut (Swap i mask) (InAside i b) (refl, tt))
      ((λ o. o), tt))

  -- and opens nothing elsewhere
  sweep_leaves : {i mask : ℕ} {sweep : List WordStep} → IsSweep i mask sweep → (spot : Spot) → IsElsewhere i spot
      → Leaves sweep spot
  sweep_leaves unseen spot far = ((λ o. o), tt)
  sweep_leaves (empty some) spot far = ((λ o. o), ((λ o. o), tt))
  sweep_leaves (spilled some more fits) (InWord j b) far = ((λ o. o), ((λ o. o), ((λ o. far o.0), tt)))
  sweep_leaves (spilled some more fits) (InAside j b) far = ((λ o. o), ((λ o. o), ((λ o. o), tt)))

  -- nor does one that keeps a place
  kept_leaves : {i mask place : ℕ} {sweep : List WordStep} → IsKeepingSweep i mask place sweep → (spot : Spot)
      → IsElsewhere i spot → Leaves sweep spot
  kept_leaves (kept_alone some fits none) spot far = ((λ o. o), ((λ o. o), ((λ o. o), tt)))
  kept_leaves (kept_one some fits others) (InWord j b) far = ((λ o. o), ((λ o. o), ((λ o. o), ((λ o. far o.0), tt))))
  kept_leaves (kept_one some fits others) (InAside j b) far = ((λ o. o), ((λ o. o), ((λ o. o), ((λ o. o), tt))))

  -- steps that win nothing leave what is in other words
  retry_leaves : {i : ℕ} {rank : List ℕ} {turns : ℕ} {steps : List WordStep} {answer : Option ℕ}
      → IsRetry i rank turns steps answer → (spot : Spot) → IsElsewhere i spot → Leaves steps spot
  retry_leaves no_turn spot far = tt
  retry_leaves (turn_won {sweep = sweep} {second = second} first more) spot far =
      leaves-append sweep second spot (sweep_leaves first spot far) (pass_leaves more spot)
  retry_leaves (turn_kept sweep first) spot far = kept_leaves sweep spot far
  retry_leaves (turn_passed {sweep = sweep} {second = second} {rest = rest} first more others) spot far =
      leaves-append (sweep ++ second) rest spot
      (leaves-append sweep second spot (sweep_leaves first spot far) (pass_leaves more spot))
      (retry_leaves others spot far)

  visit_leaves : {i : ℕ} {rank : List ℕ} {turns : ℕ} {steps : List WordStep} {answer : Option ℕ}
      → IsVisit i rank turns steps answer → (spot : Spot) → IsElsewhere i spot → Leaves steps spot
  visit_leaves (at_once is) spot far = pass_leaves is spot
  visit_leaves (retried {first = first} {rest = rest} some is more) spot far =
      leaves-append first rest spot (pass_leaves is spot) (retry_leaves more spot far)

  -- the spots of a word of which every place below the bound is in the rank
  abbrev IsOf : ℕ → List ℕ → Spot → Type 0
  IsOf i rank (InWord word bit) = (word ≡ i) × Contains rank bit
  IsOf i rank (InAside word bit) = word ≡ i

  turn_closes : {i mask : ℕ} {rank : List ℕ} {sweep second : List WordStep} → IsSweep i mask sweep
      → IsPass i rank second None → (spot : Spot) → IsOf i rank spot → Closes R (sweep ++ second) spot
  turn_closes {i = i} {rank = rank} {sweep = sweep} {second = second} first more (InWord word bit) is =
      subst (λ (j : ℕ). Closes R (sweep ++ second) (InWord j bit)) (sym is.0)
      (ends sweep second (InWord i bit) (pass_closes more bit is.1))
  turn_closes {i = i} {sweep = sweep} {second = second} first more (InAside word bit) is =
      subst (λ (j : ℕ). Closes R (sweep ++ second) (InAside j bit)) (sym is)
      (begins sweep second (InAside i bit) (sweep_closes first bit) (pass_leaves more (InAside i bit)))

  -- turns in vain close the word's spots, if there are any
  retry_settles : {i : ℕ} {rank : List ℕ} {turns : ℕ} {steps : List WordStep} {answer : Option ℕ}
      → IsRetry i rank turns steps answer → answer ≡ None → (spot : Spot) → IsOf i rank spot → Settles steps spot
  retry_settles no_turn e spot is = inr tt
  retry_settles (turn_won first more) e spot is = absurd cc
  retry_settles (turn_kept sweep first) e spot is = absurd cc
  retry_settles (turn_passed {sweep = sweep} {second = second} {rest = rest} first more others) e spot is =
      inl (closes_on (sweep ++ second) rest spot (turn_closes first more spot is) (retry_settles others e spot is))

  retry_closes : {i : ℕ} {rank : List ℕ} {turns : ℕ} {steps : List WordStep} {answer : Option ℕ}
      → IsRetry i rank turns steps answer → answer ≡ None → 1 ≤ turns → (spot : Spot) → IsOf i rank spot
      → Closes R steps spot
  retry_closes no_turn e some spot is = absurd (omega arith)
  retry_closes (turn_won first more) e some spot is = absurd cc
  retry_closes (turn_kept sweep first) e some spot is = absurd cc
  retry_closes (turn_passed {sweep = sweep} {second = second} {rest = rest} first more others) e some spot is =
      closes_on (sweep ++ second) rest spot (turn_closes first more spot is) (retry_settles others e spot is)

  -- so does a visit in vain
  visit_closes : {i : ℕ} {rank : List ℕ} {turns : ℕ} {steps : List WordStep} {answer : Option ℕ}
      → IsVisit i rank turns steps answer → answer ≡ None → (spot : Spot) → IsOf i rank spot → Closes R steps spot
  visit_closes (at_once is) e spot of = absurd cc
  visit_closes (retried {first = first} {rest = rest} some is more) e spot of =
      ends first rest spot (retry_closes more e some spot of)

  -- ---- searches

  of_visit : (l : Layout) (visit : Visit) → ((b : ℕ) → b < word_depth l visit.word → Contains visit.rank b)
      → (spot : Spot) → IsWithinWord l visit.word spot → IsOf visit.word visit.rank spot
  of_visit l visit full (InWord word bit) is = (is.0, full bit is.1)
  of_visit l visit full (InAside word bit) is = is

  elsewhere : (l : Layout) (i j : ℕ) (spot : Spot) → IsWithinWord l i spot → i ≢ j → IsElsewhere j spot
  elsewhere l i j (InWord word bit) is far = λ e. far (sym is.0 ∙ e)
  elsewhere l i j (InAside word bit) is far = λ e. far (sym is ∙ e)

  search_settles : {l : Layout} {visits : List Visit} {steps : List WordStep} {answer : Option ℕ}
      → IsSearch l visits steps answer → answer ≡ None → AreFull l visits → (i : ℕ) (spot : Spot)
      → IsWithinWord l i spot → Settles steps spot
  search_settles over e full i spot is = inr tt
  search_settles (won first) e full i spot is = absurd cc
  search_settles {l = l} (passed {visit = visit} {steps = steps} {rest = rest} first more) e full i spot is =
      settles-append steps rest spot (dite (ℕ_discrete i visit.word)
      (λ same. inl (visit_closes first refl spot (of_visit l visit full.0 spot
      (subst (λ (j : ℕ). IsWithinWord l j spot) same is))))
      (λ far. inr (visit_leaves first spot (elsewhere l i visit.word spot is far))))
      (search_settles more e full.1 i spot is)

  -- a search in vain closes the spots of each word that it visits
  pub search_closes : {l : Layout} {visits : List Visit} {steps : List WordStep} {answer : Option ℕ}
      → IsSearch l visits steps answer → answer ≡ None → AreFull l visits → (i : ℕ) (spot : Spot)
      → IsWithinWord l i spot → IsVisited i visits → Closes R steps spot
  search_closes over e full i spot is there = absurd there
  search_closes (won first) e full i spot is there = absurd cc
  search_closes {l = l} (passed {visit = visit} {steps = steps} {rest = rest} first more) e full i spot is (inl same) =
      closes_on steps rest spot (visit_closes first refl spot (of_visit l visit full.0 spot
      (subst (λ (j : ℕ). IsWithinWord l j spot) same is))) (search_settles more e full.1 i spot is)
  search_closes (passed {steps = steps} {rest = rest} first more) e full i spot is (inr later) =
      ends steps rest spot (search_closes more e full.1 i spot is later)
