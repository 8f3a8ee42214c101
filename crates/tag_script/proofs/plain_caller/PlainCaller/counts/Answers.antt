-- Each word adds the ones of its two masks, which are its tags held and set aside; loading a word changes nothing.
use Rattle.tag_script.proofs.Uses.{all_words, and_le_l, and_le_r, ap, arith, aside_in, bit_and, bit_at, bit_not, count_below, count_ones, held_in, is_aside, is_held, Layout, min, narrow_word, ones-le, plain_world_of, PlainWorld, slice_index, subst, sym, w64, word_bits, word_depth, words, ℕ, ◌∙◌}
use Rattle.std.proofs.Common.{◌≡◌, ◌+◌, ◌*◌, ◌^◌, ◌<◌, ◌≤◌}
use Rattle.tag_script.proofs.CountFacts.{count_held, count_aside}
use Rattle.tag_script.proofs.RunFacts.{same_world}
use Rattle.tag_script.proofs.plain_caller.PlainCaller.counts.Goals.{After-loop-word}
use Rattle.tag_script.proofs.plain_caller.PlainCaller.counts.Goals as goal

pub loop-word-preserved : goal.loop-word-preserved
loop-word-preserved c =
    let p = c.loop-word.self.port in let i = c.loop-word.word in let u = c.usable-usable.result in
    let one = c.look-set.ensures.step in let two = c.look_aside-cleared.ensures.step in
    let e : plain_world_of record c.loop-word.self { port = c.look_aside-cleared.new.self } ≡ plain_world_of c.loop-word.self =
    same_world c.loop-word.self c.look_aside-cleared.new.self (two.layout ∙ one.layout) (two.leaves ∙ one.leaves) in
    let lay : c.layout-layout.result ≡ p.layout =
    c.layout-layout.ensures.value ∙ sym (ap (λ (w : PlainWorld). w.layout) c.loop-word.invariant.same) in
    let there : i < words p.layout = subst (λ (l : Layout). i < words l) lay
    (omega (arith, c.words-word-end.ensures.value)) in
    let usable : u + 1 ≡ 2 ^ word_depth p.layout i =
    subst (λ (l : Layout). u + 1 ≡ 2 ^ word_depth l i) lay c.usable-usable.ensures.value in
    let bits : (place : ℕ) → place < word_depth p.layout i → bit_at u place ≡ 1 =
    subst (λ (l : Layout). (place : ℕ) → place < word_depth l i → bit_at u place ≡ 1) lay
    (λ place h. (c.usable-usable.ensures.bits place).1 h) in
    let narrow = narrow_word u (word_depth p.layout i) (omega arith) bits in
    let set_is : c.look-set.result ≡ slice_index p.word i = one.quiet.0 in
    let cleared_is : c.look_aside-cleared.result ≡ slice_index p.aside i =
    two.quiet.0 ∙ ap (λ w. w.aside i) one.leaves in
    let fits : slice_index p.aside i < 2 ^ 64 = omega arith in
    let h : ℕ = count_ones (bit_and (bit_and c.look-set.result u) (bit_not w64 c.look_aside-cleared.result)) in
    let a : ℕ = count_ones (bit_and c.look_aside-cleared.result u) in
    let held_ones : h ≡ count_ones (bit_and (bit_and (slice_index p.word i) u) (bit_not w64 (slice_index p.aside i))) =
    ap (λ (x : ℕ). count_ones (bit_and (bit_and x u) (bit_not w64 c.look_aside-cleared.result))) set_is
    ∙ ap (λ (x : ℕ). count_ones (bit_and (bit_and (slice_index p.word i) u) (bit_not w64 x))) cleared_is in
    let aside_ones : a ≡ count_ones (bit_and (slice_index p.aside i) u) =
    ap (λ (x : ℕ). count_ones (bit_and x u)) cleared_is in
    let held = count_held p i u there narrow usable bits fits in
    let aside = count_aside p i u there narrow usable bits in
    let few = ones-le 64 (bit_and (bit_and (slice_index p.word i) u) (bit_not w64 (slice_index p.aside i)))
    (omega (
      arith,
      and_le_l (bit_and (slice_index p.word i) u) (bit_not w64 (slice_index p.aside i)),
      and_le_r (slice_index p.word i) u,
    )) in
    let few' = ones-le 64 (bit_and (slice_index p.aside i) u) (omega (arith, and_le_r (slice_index p.aside i) u)) in
    let all_held : c.loop-word.held + h ≡ count_below (is_held (plain_world_of c.loop-word.self))
    (min ((i + 1) * word_bits p.layout) p.layout.depth) =
    omega (arith, held, c.loop-word.invariant.held, held_ones) in
    let all_aside : c.loop-word.aside + a ≡ count_below (is_aside (plain_world_of c.loop-word.self))
    (min ((i + 1) * word_bits p.layout) p.layout.depth) =
    omega (arith, aside, c.loop-word.invariant.aside, aside_ones) in
    record {
      same = e ∙ c.loop-word.invariant.same;
      held = all_held ∙ sym (ap (λ (w : PlainWorld). count_below (is_held w)
          (min ((i + 1) * word_bits w.layout) w.layout.depth)) e);
      aside = all_aside ∙ sym (ap (λ (w : PlainWorld). count_below (is_aside w)
          (min ((i + 1) * word_bits w.layout) w.layout.depth)) e);
      few_held = omega (arith, few, held_ones, c.loop-word.invariant.few_held);
      few_aside = omega (arith, few', aside_ones, c.loop-word.invariant.few_aside);
    }

-- the loop went over all words
over : (c : After-loop-word) → words c.loop-word.self.port.layout ≤ c.loop-word.word
over c =
    let lay : c.layout-layout.result ≡ c.loop-word.self.port.layout =
    c.layout-layout.ensures.value ∙ sym (ap (λ (w : PlainWorld). w.layout) c.loop-word.invariant.same) in
    subst (λ (l : Layout). words l ≤ c.loop-word.word) lay (omega (arith, c.words-word-end.ensures.value))

pub returns-clause-held : goal.returns-clause-held
returns-clause-held c =
    c.loop-word.invariant.held ∙ ap (count_below (is_held (plain_world_of c.loop-word.self)))
    (all_words c.loop-word.self.port.layout c.loop-word.word (over c))
    ∙ ap held_in c.loop-word.invariant.same

pub returns-clause-aside : goal.returns-clause-aside
returns-clause-aside c =
    c.loop-word.invariant.aside ∙ ap (count_below (is_aside (plain_world_of c.loop-word.self)))
    (all_words c.loop-word.self.port.layout c.loop-word.word (over c))
    ∙ ap aside_in c.loop-word.invariant.same
