-- Each tag adds its bit to the mask, or begins a new mask after a give, so freeing the mask frees one more tag.
use Rattle.tag_script.proofs.Uses.{ap, arith, bit_at, bit_at-zero, bit_or, free_at, freed, get_or, is_busy, IsTaken, Layout, length, one_shl, or_lt, Plain, plain_words, Pool, pool_of, pow_below, pow_pos, rules, subst, sym, take, true, word_depth, word_of, words, ℕ, ◌∙◌}
use Rattle.std.proofs.Common.{◌≡◌, ◌+◌, ◌*◌, ◌%◌, ◌^◌, ◌<◌}
use Rattle.tag_layout.specs.Layout.{place_of}
use Rattle.tag_search.proofs.PlainPools.{taken_of_busy}
use Rattle.tag_script.proofs.ClearingFacts.{with_place, free_more, free_one, free_none, freed_none, freed_more, still_held, held_before, taken_more, taken_one, taken_as, within_as}
use Rattle.tag_script.proofs.clearing.give_all.Goals as goal
use Rattle.tag_script.proofs.clearing.give_all.Goals.{then-here-word, else-here-word}

pub loop-tag-init : goal.loop-tag-init
loop-tag-init c =
    let p = c.args.port.now in
    record {
      layout = search rules;
      pool = free_none (pool_of (plain_words p)) c.word_of-word.result ∙ sym (freed_none p.layout (pool_of (plain_words p)));
      there = subst (λ (l : Layout). c.word_of-word.result < words l) c.layout-layout.ensures.value
          c.word_of-word.ensures.within;
      within = pow_pos (word_depth p.layout c.word_of-word.result);
      taken = λ at one. absurd (let none = bit_at-zero at in omega arith);
    }

pub loop-tag-preserved : goal.loop-tag-preserved
loop-tag-preserved c =
    let p = c.args.port.now in let l = p.layout in let q = c.loop-tag.port in let tags = c.args.tags.now in
    let i = c.loop-tag.tag-index in
    let inside : i < length tags = search rules in
    let tag : ℕ = get_or tags i 0 in let word = c.word_of-here.result in let place = c.place_of.result in
    let lay : c.layout-layout.result ≡ l = c.layout-layout.ensures.value in
    let word_is : word ≡ word_of l tag = c.word_of-here.ensures.value ∙ ap (λ (x : Layout). word_of x tag) lay in
    let place_is : place ≡ place_of l tag = c.place_of.ensures.value ∙ ap (λ (x : Layout). place_of x tag) lay in
    let low : place < 64 = c.place_of.ensures.bound in
    let room : place < word_depth l word =
    subst (λ (x : ℕ). place < word_depth l x) (sym word_is)
    (subst (λ (x : Layout). place < word_depth x (word_of x tag)) lay c.place_of.ensures.within) in
    let near : word < words l = subst (λ (x : Layout). word < words x) lay c.word_of-here.ensures.within in
    let bit : 1 * 2 ^ place % 2 ^ 64 ≡ 2 ^ place = one_shl place 64 low in
    let narrow : 2 ^ place < 2 ^ word_depth l word = pow_below place (word_depth l word) room in
    let start : Pool = pool_of (plain_words p) in
    let still : is_busy (freed l (take i tags) start) (word_of l tag) (place_of l tag) ≡ true =
    still_held l tags i start (omega arith) tag (λ j less. c.requires.once j i 0 less inside)
    (c.requires.held i 0 inside) in
    let held : is_busy (freed l (take i tags) start) word place ≡ true =
    subst (λ (x : ℕ). is_busy (freed l (take i tags) start) word x ≡ true) (sym place_is)
    (subst (λ (x : ℕ). is_busy (freed l (take i tags) start) x (place_of l tag) ≡ true) (sym word_is) still) in
    let more : freed l (take (i + 1) tags) start ≡ with_place word place (freed l (take i tags) start) =
    freed_more l tags i start inside ∙ (λ z. with_place (sym word_is z) (sym place_is z) (freed l (take i tags) start))
    in
    let P : Pool → Type 0 = λ x. is_busy x word place ≡ true in
    elim c.if-here-word.branch [
      | then-here-word w ↦
          let same : word ≡ c.loop-tag.word = w.if-here-word.true in
          let mask_is : c.if-here-word.mask ≡ bit_or c.loop-tag.mask (2 ^ place) =
          w.mask-is ∙ ap (bit_or c.loop-tag.mask) bit in
          let word_to : c.if-here-word.word ≡ word = w.word-is ∙ sym same in
          let before : free_at word c.loop-tag.mask (pool_of (plain_words q)) ≡ freed l (take i tags) start =
          ap (λ (x : ℕ). free_at x c.loop-tag.mask (pool_of (plain_words q))) same ∙ c.loop-tag.invariant.pool in
          let here : IsTaken q word place =
          taken_of_busy q word place low (held_before (pool_of (plain_words q)) word c.loop-tag.mask word place
          (subst P (sym before) held)) in
          let all : (at : ℕ) → bit_at c.loop-tag.mask at ≡ 1 → IsTaken q word at =
          subst (λ (x : ℕ). (at : ℕ) → bit_at c.loop-tag.mask at ≡ 1 → IsTaken q x at) (sym same)
          c.loop-tag.invariant.taken in
          let fits : c.loop-tag.mask < 2 ^ word_depth l word =
          subst (λ (x : ℕ). c.loop-tag.mask < 2 ^ word_depth l x) (sym same) c.loop-tag.invariant.within in
          record {
            layout = ap (λ (x : Plain). x.layout) w.port-is ∙ c.loop-tag.invariant.layout;
            pool = (λ z. free_at (word_to z) (mask_is z) (pool_of (plain_words (w.port-is z))))
                ∙ free_more (pool_of (plain_words q)) word c.loop-tag.mask place low ∙ ap (with_place word place) before
                ∙ sym more;
            there = subst (λ (x : ℕ). x < words l) (sym word_to) near;
            within = within_as l word c.if-here-word.word (bit_or c.loop-tag.mask (2 ^ place)) c.if-here-word.mask
                word_to mask_is
                (or_lt (word_depth l word) c.loop-tag.mask (2 ^ place) fits narrow);
            taken = taken_as q c.if-here-word.port word c.if-here-word.word (bit_or c.loop-tag.mask (2 ^ place))
                c.if-here-word.mask w.port-is word_to mask_is
                (taken_more q word place here c.loop-tag.mask all);
          }
      | else-here-word w ↦
          let r = w.give.new.self in
          let mask_is : c.if-here-word.mask ≡ 2 ^ place = w.mask-is ∙ bit in
          let word_to : c.if-here-word.word ≡ word = w.word-is in
          let before : pool_of (plain_words r) ≡ freed l (take i tags) start =
          w.give.ensures.pool ∙ c.loop-tag.invariant.pool in
          let here : IsTaken r word place = taken_of_busy r word place low (subst P (sym before) held) in
          record {
            layout = ap (λ (x : Plain). x.layout) w.port-is ∙ w.give.ensures.layout ∙ c.loop-tag.invariant.layout;
            pool = (λ z. free_at (word_to z) (mask_is z) (pool_of (plain_words (w.port-is z))))
                ∙ free_one (pool_of (plain_words r)) word place low ∙ ap (with_place word place) before ∙ sym more;
            there = subst (λ (x : ℕ). x < words l) (sym word_to) near;
            within = within_as l word c.if-here-word.word (2 ^ place) c.if-here-word.mask word_to mask_is narrow;
            taken = taken_as r c.if-here-word.port word c.if-here-word.word (2 ^ place) c.if-here-word.mask w.port-is
                word_to mask_is
                (taken_one r word place here);
          }
    ]
