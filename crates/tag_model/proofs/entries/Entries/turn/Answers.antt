-- The bits of the word are turned where the mask's are 1.
use Rattle.std.specs.Prelude.{◌<◌, ◌≡◌}
use Rattle.tag_model.proofs.Uses.{ap, bit_xor, chosen, Free, get_or, get_or_read, KeptEntries, length, List, refl, set, subst, sym, Turns, words, ℕ, ◌∙◌}
use Rattle.tag_model.proofs.EntryFacts.{length-chosen, chosen-after}
use Rattle.tag_model.proofs.entries.Entries.turn.Goals as goal

pub returns : goal.returns
returns c = let l = c.self.inside.layout in let t = c.self.inside.turned.items in let even = c.self.inside.even.items in
    let odd = c.self.inside.odd.items in let word : ℕ = c.args.word in let mask : ℕ = c.args.mask in
    let same = ap (λ (kept : KeptEntries). words kept.layout) c.self.view_is in
    let there : word < length t = subst (λ (n : ℕ). word < n) (sym (c.self.invariant.2 ∙ same)) c.requires in
    let was : c.index.result.now ≡ get_or t word 0 = get_or_read t word c.index.result.now there c.index.ensures 0 in
    let now : List ℕ = set t word (bit_xor c.index.result.now mask) in
    subst (λ (kept : KeptEntries). Turns word mask kept record {
      layout = l;
      places = chosen l now even odd;
      ready = chosen l now odd even;
    }) c.self.view_is record {
      layout = refl;
      tags = length-chosen l now even odd ∙ sym (length-chosen l t even odd);
      moved = λ tag h.
          ap (λ (x : ℕ). get_or (chosen l (set t word (bit_xor x mask)) even odd) tag Free) was
          ∙ chosen-after l t word mask there even odd tag h;
    }
