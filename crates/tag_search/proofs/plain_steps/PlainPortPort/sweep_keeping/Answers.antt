-- A sweep that finds nothing changes nothing. One that finds a mask empties the cleared set, and frees its places but for
-- the least.
use Rattle.std.specs.Prelude.{◌%◌, ◌*◌, ◌-◌, ◌<◌, ◌^◌, ◌∷◌, ◌≡◌, ◌≢◌}
use Rattle.tag_search.proofs.Uses.{[], and_le_l, ap, arith, bit_at, get_or, IsTidy, Keep, kept_alone, kept_one, LookAside, one_shl, Plain, RunsAlone, set, Spill, subst, Swap, sym, trailing_zeros, w64, without, word_depth, ℕ, ◌∙◌}
use Rattle.tag_core.proofs.Keepings.{least_in, least_small}
use Rattle.tag_search.proofs.Seen.{Reads, seen, reads_word, reads_aside}
use Rattle.tag_search.proofs.PlainFacts.{sweeps_none, ran_kept, ran_keeping}
use Rattle.tag_search.proofs.Writings.{tidy_sweep}
use Rattle.tag_search.proofs.plain_steps.PlainPortPort.sweep_keeping.Goals as goal

-- the rest of a mask, as the code makes it
rest_is : (mask : ℕ) → mask ≢ 0 → mask < 2 ^ 64
    → without mask (1 * 2 ^ trailing_zeros w64 mask % 2 ^ 64) ≡ without mask (2 ^ trailing_zeros w64 mask)
rest_is mask some fits = ap (without mask) (one_shl (trailing_zeros w64 mask) 64 (least_small mask some fits))

-- the least place of what is set aside is one of the word
place_low : (p : Plain) (i mask : ℕ) → IsTidy p → Reads p.aside i mask → mask ≢ 0 → mask < 2 ^ 64
    → trailing_zeros w64 mask < word_depth p.layout i
place_low p i mask tidy aside some fits =
    let one : bit_at (get_or p.aside i 0) (trailing_zeros w64 mask) ≡ 1 =
    ap (λ (x : ℕ). bit_at x (trailing_zeros w64 mask)) (sym aside.is) ∙ (least_in mask some fits).is in
    tidy.within i (trailing_zeros w64 mask) (tidy.taken i (trailing_zeros w64 mask) one)

pub returns-then-mask-eq0-clause-none : goal.returns-then-mask-eq0-clause-none
returns-then-mask-eq0-clause-none c =
    let p = seen c.self.inside in let i = c.args.word in let mask = c.index-mask.result.now in
    rw (← c.self.view_is) (sweeps_none p i mask
    (reads_aside p _ c.self.view_is c.self.invariant i c.requires.word mask c.index-mask.ensures) c.if-mask-eq0.true)

pub invariant_of-self : goal.invariant_of-self
invariant_of-self c =
    let p = seen c.self.inside in
    let i = c.args.word in let mask = c.index-mask.result.now in let found = c.index_mut-then-rest-ne0.result.now in
    let fits : found < 2 ^ 64 = omega arith in let narrow : mask < 2 ^ 64 = omega arith in
    let rest = without mask (1 * 2 ^ trailing_zeros w64 mask % 2 ^ 64) in
    tidy_sweep p i rest mask found c.self.invariant
    (reads_word p _ c.self.view_is c.self.invariant i c.requires.word found c.index_mut-then-rest-ne0.ensures.value)
    (reads_aside p _ c.self.view_is c.self.invariant i c.requires.word mask c.index-mask.ensures) fits
    (omega (arith, and_le_l mask (2 ^ 64 - 1 - 1 * 2 ^ trailing_zeros w64 mask % 2 ^ 64)))

pub returns-then-rest-ne0-clause-place : goal.returns-then-rest-ne0-clause-place
returns-then-rest-ne0-clause-place c =
    let p = seen c.self.inside in let i = c.args.word in let mask = c.index-mask.result.now in
    let fits : mask < 2 ^ 64 = omega arith in
    rw (← c.self.view_is) (place_low p i mask c.self.invariant
    (reads_aside p _ c.self.view_is c.self.invariant i c.requires.word mask c.index-mask.ensures) c.if-mask-eq0.false
    fits)

pub returns-else-rest-ne0-clause-place : goal.returns-else-rest-ne0-clause-place
returns-else-rest-ne0-clause-place c =
    let p = seen c.self.inside in let i = c.args.word in let mask = c.index-mask.result.now in
    let fits : mask < 2 ^ 64 = omega arith in
    rw (← c.self.view_is) (place_low p i mask c.self.invariant
    (reads_aside p _ c.self.view_is c.self.invariant i c.requires.word mask c.index-mask.ensures) c.if-mask-eq0.false
    fits)

pub returns-then-rest-ne0-clause-kept : goal.returns-then-rest-ne0-clause-kept
returns-then-rest-ne0-clause-kept c =
    let p = seen c.self.inside in
    let i = c.args.word in let mask = c.index-mask.result.now in let found = c.index_mut-then-rest-ne0.result.now in
    let has = reads_word p _ c.self.view_is c.self.invariant i c.requires.word found
    c.index_mut-then-rest-ne0.ensures.value in
    let set_aside = reads_aside p _ c.self.view_is c.self.invariant i c.requires.word mask c.index-mask.ensures in
    let some = c.if-mask-eq0.false in let fits : mask < 2 ^ 64 = omega arith in let place = trailing_zeros w64 mask in
    let rest = without mask (2 ^ trailing_zeros w64 mask) in let same = rest_is mask some fits in
    rw (← c.self.view_is) (record {
      steps = LookAside i mask ∷ Swap i mask ∷ Keep i (2 ^ place) ∷ Spill i rest found ∷ [];
      added = subst (λ (x : ℕ). RunsAlone p (LookAside i mask ∷ Swap i mask ∷ Keep i (2 ^ place) ∷ Spill i rest found ∷ [])
          (record p { word = set p.word i (without found x); aside = set p.aside i 0 })) (sym same)
          (ran_keeping p i mask (2 ^ place) rest found has set_aside);
      holds = record {
        mask = mask;
        least = least_in mask some fits;
        sweep = kept_one some fits (λ none. c.if-rest-ne0.true (same ∙ none));
      };
    })

pub returns-else-rest-ne0-clause-kept : goal.returns-else-rest-ne0-clause-kept
returns-else-rest-ne0-clause-kept c =
    let p = seen c.self.inside in let i = c.args.word in let mask = c.index-mask.result.now in
    let set_aside = reads_aside p _ c.self.view_is c.self.invariant i c.requires.word mask c.index-mask.ensures in
    let some = c.if-mask-eq0.false in let fits : mask < 2 ^ 64 = omega arith in let place = trailing_zeros w64 mask in
    rw (← c.self.view_is) (record {
      steps = LookAside i mask ∷ Swap i mask ∷ Keep i (2 ^ place) ∷ [];
      added = ran_kept p i mask (2 ^ place) set_aside;
      holds = record {
        mask = mask;
        least = least_in mask some fits;
        sweep = kept_alone some fits (sym (rest_is mask some fits) ∙ c.if-rest-ne0.false);
      };
    })
