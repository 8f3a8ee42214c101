-- A claim only adds bits to the caller's held set, and it finds taken what the caller already holds.
use Rattle.std.specs.Prelude.{◌<◌, ◌^◌}
use Rattle.tag_search.proofs.Uses.{ap, arith, bit_at, Claimed, FindsHeldBy, length, place_of, refl, Shape, sym, word_of, ◌∙◌}
use Rattle.tag_search.proofs.SharedCalls.{adds_claim}
use Rattle.tag_search.proofs.shared.SharedPort.claim.Goals as goal

pub returns-clause-step : goal.returns-clause-step
returns-clause-step g c =
    let w = c.args.self.now.caller.now in let found = c.claim_counted.result.found in
    let fits : found < 2 ^ 64 = omega arith in
    let near : c.args.word < length w.held.items = rw w.wide (rw c.requires.port.1 c.requires.word) in
    let found_held : FindsHeldBy w (Claimed c.args.word c.args.mask found) = λ tag has is.
    let shape = c.requires.port.1 in
    ap (λ (k : Shape). bit_at found (place_of k.layout tag)) shape
    ∙ c.claim_counted.ensures.held tag has (ap (λ (k : Shape). word_of k.layout tag) (sym shape) ∙ is) in
    record {
      added = adds_claim c.args.word c.args.mask found w _ near fits found_held c.claim_counted.ensures.step;
      map = refl;
      lent = refl;
      freed = λ fits. omega arith;
      latest = refl;
    }
