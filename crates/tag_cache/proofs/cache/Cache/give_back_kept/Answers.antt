-- The kept tags are held and ordinary, so the hand gives them back; then none is kept.
use Rattle.tag_cache.proofs.Uses.{ap, arith, count_ones, ones_le_self, refl}
use Rattle.tag_cache.proofs.Carrying.{own_after}
use Rattle.tag_cache.proofs.Giving.{kept_held, kept_ordinary, kept_in, mask_gives}
use Rattle.tag_cache.proofs.Reusing.{none_kept}
use Rattle.tag_cache.proofs.Windows.{none_in}
use Rattle.tag_cache.proofs.cache.Cache.give_back_kept.Goals as goal

pub returns-then-kept-eq0-clause-none : goal.returns-then-kept-eq0-clause-none
returns-then-kept-eq0-clause-none g c = λ tag k.
    none_in c.args.self.now.first c.args.self.now.kept tag c.if-kept-eq0.true k

pub returns-then-kept-eq0-clause-gives : goal.returns-then-kept-eq0-clause-gives
returns-then-kept-eq0-clause-gives g c = record {
  none = λ n. refl;
  some = λ s. absurd (s (λ tag k. none_in c.args.self.now.first c.args.self.now.kept tag c.if-kept-eq0.true k));
}

pub invariant_of-self-clause-own : goal.invariant_of-self-clause-own
invariant_of-self-clause-own g c = λ tag i. absurd (none_in c.args.self.now.first 0 tag refl i)

pub clear_mask_held_quietly-requires-clause-ordinary : goal.clear_mask_held_quietly-requires-clause-ordinary
clear_mask_held_quietly-requires-clause-ordinary g c = kept_ordinary c.args.self.now c.args.pool.now c.requires

pub clear_mask_held_quietly-requires-clause-held : goal.clear_mask_held_quietly-requires-clause-held
clear_mask_held_quietly-requires-clause-held g c = kept_held c.args.self.now

pub invariant_of-self-clause-knows : goal.invariant_of-self-clause-knows
invariant_of-self-clause-knows g c = let cache = c.args.self.now in let e = c.clear_mask_held_quietly.ensures in
    own_after c.args.pool.now cache.first cache.known cache.hand c.clear_mask_held_quietly.new.hand c.requires e.hand.0
    cache.knows (λ other h i. (e.gives.less.kept other
    (λ k. cache.apart other ((kept_in c.args.pool.now cache other).0 k) i) h).0)

pub invariant_of-self-clause-apart : goal.invariant_of-self-clause-apart
invariant_of-self-clause-apart g c = λ tag i. absurd (none_in c.args.self.now.first 0 tag refl i)

pub invariant_of-self-clause-few : goal.invariant_of-self-clause-few
invariant_of-self-clause-few g c = let zero = ones_le_self 0 in (omega arith, c.args.self.now.few.1)

pub invariant_of-self-clause-alive : goal.invariant_of-self-clause-alive
invariant_of-self-clause-alive g c = let zero = ones_le_self 0 in let alive = c.args.self.now.alive in omega arith

pub returns-clause-gives : goal.returns-clause-gives
returns-clause-gives g c = let cache = c.args.self.now in let e = c.clear_mask_held_quietly.ensures in record {
  none = λ n. absurd (c.if-kept-eq0.false (none_kept cache n));
  some = λ s. mask_gives c.args.pool.now cache.first cache.kept cache.wide.0 cache.hand
      c.clear_mask_held_quietly.new.hand e.gives e.back;
}

pub returns-then-kept-eq0-clause-freed : goal.returns-then-kept-eq0-clause-freed
returns-then-kept-eq0-clause-freed g c = let zero = ones_le_self 0 in
    let e = ap count_ones c.if-kept-eq0.true in omega arith
