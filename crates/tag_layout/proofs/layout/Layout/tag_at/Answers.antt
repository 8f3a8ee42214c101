-- The tag at a place has that word and that place.
use Rattle.std.specs.Prelude.{◌%◌, ◌*◌, ◌+◌, ◌<◌, ◌^◌, ◌≡◌}
use Rattle.tag_layout.proofs.Uses.{ap, arith, Layout, place_of, tag_at, word_bits, word_of, ℕ, ◌∙◌}
use Rattle.tag_layout.proofs.PlaceFacts.{word-start, word_of-tag_at, place_of-tag_at}
use Rattle.tag_layout.proofs.layout.Layout.tag_at.Goals as goal

pub returns-clause-back : goal.returns-clause-back
returns-clause-back c =
    let l : Layout = c.args.self in let word : ℕ = c.args.word in let place : ℕ = c.args.place in
    let start = word-start l word c.requires.word in
    let depth : c.self.inside.depth ≡ l.depth = ap (λ (s : Layout). s.depth) c.self.view_is in
    let bits : 2 ^ c.self.inside.shift ≡ word_bits l = ap (λ (s : Layout). word_bits s) c.self.view_is in
    let first : word * 2 ^ c.self.inside.shift ≡ word * word_bits l = ap (λ (p : ℕ). word * p) bits in
    let value : word * 2 ^ c.self.inside.shift % 4294967296 + place ≡ tag_at l word place = omega arith in
    let within : place < word_bits l = omega (arith, c.requires.place) in (
      ap (word_of l) value ∙ word_of-tag_at l word place within,
      ap (place_of l) value
          ∙ place_of-tag_at l word place within,
    )
