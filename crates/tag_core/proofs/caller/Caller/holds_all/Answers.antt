-- The mask has no bit that the held set lacks exactly if each of its tags is held.
use Rattle.std.specs.Prelude.{◌≡◌}
use Rattle.tag_core.proofs.Uses.{ap, arith, bit_and, bit_at, bit_at-lt, bit_at_and, dite, eq-eqb, eqb-true, place_of, same_from_bits, slice_index, sym, ℕ, ℕ_discrete, ◌∙◌}
use Rattle.tag_core.proofs.Marking.{mask_read}
use Rattle.tag_core.proofs.OneWord.{bit_named, below_named, tag_named_by}
use Rattle.tag_core.proofs.caller.Caller.holds_all.Goals as goal

pub returns : goal.returns
returns g c = let w = c.args.self.now in let l = w.shape.value.layout in let i : ℕ = c.args.word in
    let m : ℕ = c.args.mask in let was : ℕ = c.index.result.now in let held = w.held.items in
    let within = c.requires.within in
    let read : was ≡ slice_index held i = mask_read w i was c.requires.word c.index.ensures in (
      λ covered t is. let n = bit_named l i m t is in let p : ℕ = place_of l t in
          let same = sym (bit_at_and m was p) ∙ ap (λ (x : ℕ). bit_at x p) (eqb-true _ _ covered) in
          let b = n.1 in let small = bit_at-lt was p in let one : bit_at was p ≡ 1 = omega arith in (
            below_named l i m within t is,
            ap (λ (x : ℕ). bit_at (slice_index held x) p) n.0 ∙ ap (λ (x : ℕ). bit_at x p) (sym read) ∙ one,
          ),
      λ all. eq-eqb (bit_and m was) m (same_from_bits (bit_and m was) m (λ b. bit_at_and m was b
          ∙ dite (ℕ_discrete (bit_at m b) 1)
          (λ one. let of = tag_named_by l i m within b one in let has = (all of.0 of.1).1 in
          let there : bit_at was b ≡ 1 = ap (λ (x : ℕ). bit_at x b) read
          ∙ (λ j. bit_at (slice_index held (sym of.2 j)) (sym of.3 j)) ∙ has in omega arith)
          (λ other. let small = bit_at-lt m b in let none : bit_at m b ≡ 0 = omega arith in omega arith))),
    )
