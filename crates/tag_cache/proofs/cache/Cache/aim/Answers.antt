-- An empty window can be moved.
use Rattle.std.specs.Prelude.{◌*◌, ◌/◌}
use Rattle.tag_cache.proofs.Uses.{arith, inl, inr, KeepsNone, refl, ℕ}
use Rattle.tag_cache.proofs.Reusing.{none_kept}
use Rattle.tag_cache.proofs.Windows.{none_in}
use Rattle.tag_cache.proofs.cache.Cache.aim.Goals as goal

pub invariant_of-self-clause-own : goal.invariant_of-self-clause-own
invariant_of-self-clause-own g c = λ other i.
    absurd (none_in (c.args.tag / 64 * 64) c.args.self.now.kept other c.if-self-ne0.false i)

pub invariant_of-self-clause-knows : goal.invariant_of-self-clause-knows
invariant_of-self-clause-knows g c = λ other i. absurd (none_in (c.args.tag / 64 * 64) 0 other refl i)

pub invariant_of-self-clause-apart : goal.invariant_of-self-clause-apart
invariant_of-self-clause-apart g c = λ other k i. none_in (c.args.tag / 64 * 64) 0 other refl i

pub returns-then-self-ne0-clause-aimed : goal.returns-then-self-ne0-clause-aimed
returns-then-self-ne0-clause-aimed g c = let cache = c.args.self.now in
    inr (refl, λ none. let zero = none_kept cache none in let ne = c.if-self-ne0.true in absurd (ne zero))

pub returns-then-offset-lt-WINDOW-clause-aimed : goal.returns-then-offset-lt-WINDOW-clause-aimed
returns-then-offset-lt-WINDOW-clause-aimed g c = inl (c.offset.ensures.within.0 c.if-offset-lt-WINDOW.true)

pub returns-then-self-ne0-clause-moved : goal.returns-then-self-ne0-clause-moved
returns-then-self-ne0-clause-moved g c = inr refl

pub returns-then-offset-lt-WINDOW-clause-moved : goal.returns-then-offset-lt-WINDOW-clause-moved
returns-then-offset-lt-WINDOW-clause-moved g c = inr refl

pub returns : goal.returns
returns g c = let cache = c.args.self.now in let first : ℕ = c.args.tag / 64 * 64 in
    let none : KeepsNone cache = λ tag k. none_in cache.first cache.kept tag c.if-self-ne0.false k in record {
      same = record {
        hand = refl;
        kept = record {
          kept = λ tag. ((λ k. absurd (none_in first cache.kept tag c.if-self-ne0.false k)), (λ k. absurd (none tag k)));
          count = refl;
          terms = record { most = refl; keeping = refl };
          reused = refl;
        };
      };
      aimed = inl (omega arith, omega arith);
      moved = inl none;
      still = λ within. let far = c.if-offset-lt-WINDOW.false in
          let near = c.offset.ensures.within.1 (within none) in absurd (omega arith);
      knows = λ other l. absurd (none_in first 0 other refl l);
    }
