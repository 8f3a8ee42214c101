-- Each tag joins the last run or ends it; then one give frees that run, and the tag begins the next.
use Rattle.std.specs.Prelude.{◌%◌, ◌*◌, ◌+◌, ◌-◌, ◌<◌, ◌^◌, ◌≡◌, ◌≢◌, ◌≤◌}
use Rattle.tag_pool.proofs.Uses.{ap, arith, bit_or, Caller, get_or, Layout, length, List, numbers_of, one_shl, place_of, rules, subst, sym, word_depth, word_of, words, ℕ, ⊎_elim, ◌∙◌}
use Rattle.tag_pool.proofs.OrdinaryNumbers.{number_count, number_is, number_low}
use Rattle.tag_pool.proofs.RunsSoFar.{SoFar, begins, gives_held, ends, joins_run, begins_run}
use Rattle.tag_pool.proofs.clears.batches.give_all.Goals as goal
use Rattle.tag_pool.proofs.clears.batches.give_all.Goals.{then-here-word, else-here-word}

pub word_of-word-requires : goal.word_of-word-requires
word_of-word-requires g c = subst (λ (l : Layout). get_or c.args.tags.now 0 0 - c.args.first < l.depth)
    (sym c.layout-layout.ensures)
    (number_low c.args.first c.args.tags.now c.args.map.now c.args.caller.now c.requires.caller c.requires.held 0
    c.requires.some)

pub word_of-here-requires : goal.word_of-here-requires
word_of-here-requires g c = subst (λ (l : Layout). get_or c.args.tags.now c.loop-tag.tag-index 0 - c.args.first < l.depth)
    (sym c.layout-layout.ensures)
    (number_low c.args.first c.args.tags.now c.args.map.now c.args.caller.now c.requires.caller c.requires.held
    c.loop-tag.tag-index (search rules))

pub place_of-requires : goal.place_of-requires
place_of-requires g c = subst (λ (l : Layout). get_or c.args.tags.now c.loop-tag.tag-index 0 - c.args.first < l.depth)
    (sym c.layout-layout.ensures)
    (number_low c.args.first c.args.tags.now c.args.map.now c.args.caller.now c.requires.caller c.requires.held
    c.loop-tag.tag-index (search rules))

pub loop-tag-init : goal.loop-tag-init
loop-tag-init g c = let map = c.args.map.now in let lay = c.layout-layout.ensures in
    begins map (numbers_of c.args.first c.args.tags.now) c.args.caller.now c.word_of-word.result c.requires.caller
    (subst (λ (l : Layout). c.word_of-word.result < words l) lay c.word_of-word.ensures.within)
    (c.word_of-word.ensures.value ∙ ap (λ (l : Layout). word_of l (get_or c.args.tags.now 0 0 - c.args.first)) lay
    ∙ ap (word_of map.shape.layout) (sym (number_is c.args.first c.args.tags.now 0 c.requires.some)))

pub give-requires-clause-held : goal.give-requires-clause-held
give-requires-clause-held g c = gives_held c.args.map.now (numbers_of c.args.first c.args.tags.now) c.loop-tag.tag-index
    c.args.caller.now c.loop-tag.caller _ _ c.loop-tag.invariant

pub give-requires-2-clause-held : goal.give-requires-2-clause-held
give-requires-2-clause-held g c = gives_held c.args.map.now (numbers_of c.args.first c.args.tags.now)
    c.loop-tag.tag-index c.args.caller.now c.loop-tag.caller _ _ c.loop-tag.invariant

pub loop-tag-preserved : goal.loop-tag-preserved
loop-tag-preserved g c =
    let map = c.args.map.now in let l = map.shape.layout in let first : ℕ = c.args.first in
    let named : List ℕ = numbers_of first c.args.tags.now in
    let i : ℕ = c.loop-tag.tag-index in
    let old = c.args.caller.now in let now = c.loop-tag.caller in let word : ℕ = c.loop-tag.word in
    let mask : ℕ = c.loop-tag.mask in
    let so : SoFar map named i old now word mask = c.loop-tag.invariant in
    let there : i < length c.args.tags.now = search rules in
    let inside : i < length named = let same = number_count first c.args.tags.now in omega arith in
    let u : ℕ = get_or named i 0 in
    let is = sym (number_is first c.args.tags.now i there) in
    let lay : c.layout-layout.result ≡ l = c.layout-layout.ensures in
    let here_is : c.word_of-here.result ≡ word_of l u = c.word_of-here.ensures.value
    ∙ ap (λ (x : Layout). word_of x (get_or c.args.tags.now i 0 - first)) lay ∙ ap (word_of l) is in
    let place_is : c.place_of.result ≡ place_of l u = c.place_of.ensures.value
    ∙ ap (λ (x : Layout). place_of x (get_or c.args.tags.now i 0 - first)) lay ∙ ap (place_of l) is in
    let bit : 1 * 2 ^ c.place_of.result % 2 ^ 64 ≡ 2 ^ place_of l u =
    one_shl c.place_of.result 64 c.place_of.ensures.bound ∙ ap (λ (x : ℕ). 2 ^ x) place_is in
    let near : word_of l u < words l =
    subst (λ (x : ℕ). x < words l) here_is
    (subst (λ (x : Layout). c.word_of-here.result < words x) lay c.word_of-here.ensures.within) in
    let room : place_of l u < word_depth l (word_of l u) =
    subst (λ (n : ℕ). place_of l n < word_depth l (word_of l n)) is
    (subst (λ (x : ℕ). x < word_depth l (word_of l (get_or c.args.tags.now i 0 - first)))
    (place_is ∙ ap (place_of l) (sym is))
    (subst (λ (x : Layout). c.place_of.result < word_depth x (word_of x (get_or c.args.tags.now i 0 - first))) lay
    c.place_of.ensures.within)) in
    let P : Caller g.row.R.Denot × ℕ × ℕ → Type 0 = λ x. SoFar map named (i + 1) old x.0 x.1 x.2 in
    elim c.if-here-word.branch [
      | then-here-word w ↦
          let same : word ≡ word_of l u = sym w.if-here-word.true ∙ here_is in
          let mask_is : c.if-here-word.mask ≡ bit_or mask (2 ^ place_of l u) = w.mask-is ∙ ap (bit_or mask) bit in
          subst P (λ z. (sym w.caller-is z, sym w.word-is z, sym mask_is z))
          (joins_run map named i old now word mask so inside c.requires.held room near same)
      | else-here-word w ↦
          let other : word ≢ word_of l u = λ e. w.if-here-word.false (here_is ∙ sym e) in
          let word_to : c.if-here-word.word ≡ word_of l u = w.word-is ∙ here_is in
          let mask_is : c.if-here-word.mask ≡ 2 ^ place_of l u = w.mask-is ∙ bit in
          subst P (λ z. (sym w.caller-is z, sym word_to z, sym mask_is z))
          (begins_run map named i old now word mask so inside c.requires.held room near w.give.new.caller
          w.give.ensures.step.0 w.give.ensures.caller w.give.ensures.step.1 w.give.ensures.released other)
    ]

pub returns : goal.returns
returns g c =
    let map = c.args.map.now in let named : List ℕ = numbers_of c.args.first c.args.tags.now in
    let so = c.loop-tag.invariant in let i : ℕ = c.loop-tag.tag-index in
    let same = number_count c.args.first c.args.tags.now in
    let past : length c.args.tags.now ≤ i = search rules in
    let stop : length named ≤ i = omega arith in let long : 1 ≤ length c.args.tags.now = c.requires.some in
    let some : 1 ≤ length so.run = ⊎_elim (λ (h : 1 ≤ length so.run). h) (λ (first : (i ≡ 0) × _). absurd (let none =
    first.0 in omega arith)) so.some in
    let all = ends map named i c.args.caller.now c.loop-tag.caller c.loop-tag.word c.loop-tag.mask so c.give-2.new.caller
    c.give-2.ensures.step.0 c.give-2.ensures.step.1 c.give-2.ensures.released some stop in record {
      caller = c.give-2.ensures.caller;
      gives = all.0;
      back = let b = all.1 in omega arith;
    }
