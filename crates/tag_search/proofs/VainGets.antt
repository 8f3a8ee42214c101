-- A get that finds no tag has tried each one, and so its caller has to see to none.
use Rattle.tag_search.proofs.Uses.{[], ap, arith, Bool, Caller, cond, Contains, Contains-append_left, Contains-append_right, dec_le, dite, false, Hint, IfNone, in_aside, in_word, inl, inr, IsCallerOf, IsGet, Layout, layout_of, List, Makes, Map, map, min, nat_eq, None, numbers, OwesNothing}
use Rattle.tag_search.proofs.Uses.{own_after, place_of, place_of-below, plain_reach, plain_visits, Reach, Record, record_of, reduced, refl, scan_order, Shape, shape_after, Step, subst, suc, sym, TriedAll, true, visit_of, word_depth, word_of, word_of-below, words, zero, ℕ, ⊎_elim, ◌∙◌}
use Rattle.std.specs.Prelude.{Option, Some, ◌+◌, ◌<◌, ◌∷◌, ◌≡◌, ◌≤◌, ◌⊎◌}
use Rattle.tag_core.specs.Berths.{same_waiter}
use Rattle.tag_core.specs.declared.berth.Waiter.{Waiter}
use Rattle.tag_search.specs.Vain.{TriesAll, MaySleep}
use Rattle.tag_search.proofs.AloneFacts.{own_of_record}
use Rattle.tag_search.proofs.Closing.{AreFull, IsVisited, IsClosed, search_closes}
use Rattle.tag_search.proofs.Orders.{numbers-at}

-- the numbers of a range are in its list
numbers_has : (a b c : ℕ) → a ≤ b → b < c → Contains (numbers a c) b
numbers_has a b c h k = subst (λ (xs : List ℕ). Contains xs b) (sym (numbers-at a b c h k))
    (Contains-append_right (numbers a b) (b ∷ numbers (b + 1) c) b (0, (omega arith), refl))

-- a scan that wraps, or begins at 0, has each number below its limit
scan_has : (start limit b : ℕ) (wrap : Bool) → (wrap ≡ true) ⊎ (start ≡ 0) → b < limit → Contains (scan_order start limit wrap) b
scan_has start limit b true how h = dite (dec_le start b)
    (λ low. Contains-append_left (numbers start limit) (numbers 0 (min start limit)) b (numbers_has start b limit low h))
    (λ high. Contains-append_right (numbers start limit) (numbers 0 (min start limit)) b
    (numbers_has 0 b (min start limit) (omega arith) (omega arith)))
scan_has start limit b false (inl wrong) h = absurd cc
scan_has start limit b false (inr first) h =
    Contains-append_left (numbers start limit) [] b (numbers_has start b limit (omega arith) h)

-- the visits are of the words that they are made for
visited : (first : ℕ) (reach : Reach) (i : ℕ) (ws : List ℕ) → Contains ws i → IsVisited i (map (visit_of first reach) ws)
visited first reach i [] (k, low, same) = absurd (omega arith)
visited first reach i (w ∷ ws) (zero, low, same) = inl (sym same)
visited first reach i (w ∷ ws) (suc k, low, same) = inr (visited first reach i ws (k, (omega arith), same))

-- a visit whose reach is the whole word tries each of its places
full : (l : Layout) (first : ℕ) (reach : Reach) → ((i : ℕ) → reach.limit i ≡ word_depth l i)
    → (reach.wrap ≡ true) ⊎ (reach.start ≡ 0) → (ws : List ℕ) → AreFull l (map (visit_of first reach) ws)
full l first reach whole how [] = tt
full l first reach whole how (w ∷ ws) = (
  (λ b h. scan_has (cond (nat_eq w first) reach.start 0) (reach.limit w) b reach.wrap
      (⊎_elim (λ wraps. inl wraps) (λ zero_start. inr (begins (nat_eq w first) reach.start zero_start)) how)
      (subst (λ (x : ℕ). b < x) (sym (whole w)) h)),
  full l first reach whole how ws,
)
  where
    begins : (b : Bool) (start : ℕ) → start ≡ 0 → cond b start 0 ≡ 0
    begins true start e = e
    begins false start e = refl

-- the visits of such a get try each place of each word
plain_full : (l : Layout) (hint : Hint) → TriesAll l hint
    → AreFull l (plain_visits l hint.round_robin (reduced l.depth hint.at))
plain_full l hint how = of hint.round_robin how
  where
    at : ℕ
    at = reduced l.depth hint.at

    of : (rr : Bool) → (rr ≡ false) ⊎ (place_of l at ≡ 0) → AreFull l (plain_visits l rr at)
    of false how = full l (word_of l at) (plain_reach l false at) (λ i. refl) (inl refl) (scan_order (word_of l at) (words l) true)
    of true (inl wrong) = absurd cc
    of true (inr first) = full l (word_of l at) (plain_reach l true at) (λ i. refl) (inr first)
        (scan_order (word_of l at) (words l) true)

-- after the steps of a get in vain both spots of each tag are closed
vain_closes : (R : Type 0) (l : Layout) (hint : Hint) (steps : List _) → TriesAll l hint
    → IsGet l (plain_visits l hint.round_robin (reduced l.depth hint.at)) None steps
    → (older : List (Step R)) (tag : ℕ) → tag < l.depth
    → IsClosed (own_after steps older) (in_word l tag) × IsClosed (own_after steps older) (in_aside l tag)
vain_closes R l hint steps how get older tag low =
    let at = reduced l.depth hint.at in let i = word_of l tag in
    let all = plain_full l hint how in
    let there = visited (word_of l at) (plain_reach l hint.round_robin at) i (scan_order (word_of l at) (words l) true)
    (scan_has (word_of l at) (words l) i true (inl refl) (word_of-below l tag low)) in (
      search_closes R get.search refl all i (in_word l tag) (refl, place_of-below l tag low) there older,
      search_closes R get.search refl all i (in_aside l tag) refl there older,
    )

-- so the caller may sleep
pub vain_get : {R : Type 0} (l : Layout) (hint : Hint) (old new : Caller R) → (record_of old).shape.layout ≡ l
    → TriesAll l hint → Makes old new (IsGet l (plain_visits l hint.round_robin (reduced l.depth hint.at)) None)
    → MaySleep new
vain_get {R} l hint old new same how made =
    let steps = made.steps in
    let own : (record_of new).steps ≡ own_after steps (record_of old).steps =
    ap (λ (r : Record R). r.steps) made.added.known ∙ own_of_record steps (record_of old) in
    let shape : l ≡ (record_of new).shape.layout = sym same ∙ ap (λ (k : Shape). k.layout)
    (sym (ap (λ (r : Record R). r.shape) made.added.known ∙ shape_after steps (record_of old))) in
    let closes = vain_closes R l hint steps how made.holds (record_of old).steps in
    subst (λ (x : Layout × List (Step R)). TriedAll x.0 x.1 × ((kind : Waiter) → OwesNothing x.0 (same_waiter kind) x.1))
    (λ j. (shape j, sym own j)) (
      (λ tag low. let c = closes tag low in (c.0.0, c.1.0)),
      (λ kind tag low e owes. let c = closes tag low in
          ⊎_elim (c.0.1 (same_waiter kind) e) (c.1.1 (same_waiter kind) e) owes),
    )

-- the same of any answer of a get on a map
pub none_found : {R : Type 0} (m : Map R) (old new : Caller R) → IsCallerOf m old → (hint : Hint) (answer : Option ℕ)
    → Makes old new (IsGet (layout_of m) (plain_visits (layout_of m) hint.round_robin (reduced (layout_of m).depth hint.at)) answer)
    → IfNone answer (TriesAll (layout_of m) hint → MaySleep new)
none_found m old new own hint None made = λ how. vain_get (layout_of m) hint old new (ap (λ (k : Shape). k.layout) own.1)
    how made
none_found m old new own hint (Some tag) made = tt
