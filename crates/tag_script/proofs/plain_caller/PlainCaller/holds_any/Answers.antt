-- A held tag has a bit that is 1 in the word and 0 in the cleared set, so it would make the mask differ from 0.
use Rattle.tag_script.proofs.Uses.{ap, arith, bit_and, bit_not, Bool, false, is_busy, nat_lt, place_of-tag_at, plain_words, pool_of, slice_index, sym, tag_at, w64, word_of, word_of-tag_at, ℕ, ◌∙◌}
use Rattle.std.proofs.Common.{◌≡◌, ◌^◌, ◌<◌, ◌&&◌}
use Rattle.std.proofs.Math.Bool.{and-false}
use Rattle.tag_layout.specs.Layout.{place_of}
use Rattle.tag_script.proofs.CountFacts.{idle_place, zero_of}
use Rattle.tag_script.proofs.plain_caller.PlainCaller.holds_any.Goals as goal

pub returns-clause-none : goal.returns-clause-none
returns-clause-none c no_bit place low =
    let p = c.args.self.now.port in let i : ℕ = c.args.word in let l = p.layout in
    let set_is : c.look.result ≡ slice_index p.word i = c.look.ensures.step.quiet.0 in
    let aside_is : c.look_aside.result ≡ slice_index p.aside i =
    c.look_aside.ensures.step.quiet.0 ∙ ap (λ w. w.aside i) c.look.ensures.step.leaves in
    let none : bit_and (slice_index p.word i) (bit_not w64 (slice_index p.aside i)) ≡ 0 =
    sym (ap (λ (x : ℕ). bit_and x (bit_not w64 c.look_aside.result)) set_is
    ∙ ap (λ (x : ℕ). bit_and (slice_index p.word i) (bit_not w64 x)) aside_is)
    ∙ zero_of (bit_and c.look.result (bit_not w64 c.look_aside.result)) no_bit in
    let fits : slice_index p.aside i < 2 ^ 64 = omega (arith, aside_is) in
    let tag : ℕ = tag_at l i place in
    let word = word_of-tag_at l i place (omega arith) in let bit = place_of-tag_at l i place (omega arith) in
    let idle : is_busy (pool_of (plain_words p)) (word_of l tag) (place_of l tag) ≡ false =
    ap (λ (w : ℕ). is_busy (pool_of (plain_words p)) w (place_of l tag)) word
    ∙ ap (is_busy (pool_of (plain_words p)) i) bit ∙ idle_place p i place (omega arith) fits none in
    ap (λ (b : Bool). nat_lt tag l.depth && b) idle ∙ and-false (nat_lt tag l.depth)
