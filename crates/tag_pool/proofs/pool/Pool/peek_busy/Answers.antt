-- All bits are 0 at first; then each set marks its own busy tags, in bits that the other set leaves alone.
use Rattle.std.proofs.Common.{List, ap, get_or, length, ℕ, ◌∙◌}
use Rattle.tag_core.proofs.Passing.{zeros}
use Rattle.tag_pool.proofs.BusyBits.{no_bit, peeks}
use Rattle.tag_pool.proofs.pool.Pool.peek_busy.Goals as goal

pub returns-clause-lists : goal.returns-clause-lists
returns-clause-lists g c = peeks c.args.self.now c.fill.new.self c.peek_set-reserved.new.into
    c.peek_set-ordinary.new.into c.peek_set-reserved.result c.peek_set-ordinary.result
    (no_bit 64 c.fill.new.self (λ i. ap (λ (l : List ℕ). get_or l i 0) (c.fill.ensures.after (λ y e. e))
    ∙ zeros (length c.args.into.now) i))
    c.peek_set-reserved.ensures.peeks c.peek_set-ordinary.ensures.peeks
