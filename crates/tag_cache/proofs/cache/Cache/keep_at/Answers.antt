-- The tag's bit joins the mask of the kept tags, and leaves that of the known ones.
use Rattle.std.specs.Prelude.{◌<◌, ◌≤◌}
use Rattle.tag_cache.proofs.Uses.{cases_lt, count_of, inl, refl, ⊎_elim}
use Rattle.tag_cache.proofs.Joining.{joins, joined_owns}
use Rattle.tag_cache.proofs.Windows.{popped_fits, without_bit, without_in}
use Rattle.tag_cache.proofs.cache.Cache.keep_at.Goals as goal

pub invariant_of-self : goal.invariant_of-self
invariant_of-self g c = let cache = c.args.self.now in let tag = c.args.tag in let place = c.args.offset in
    let r = c.requires in let is = r.offset.0 in let low = r.offset.1 in
    let room : count_of cache < cache.most = ⊎_elim (λ (l : count_of cache < cache.most). l)
    (λ (h : cache.most ≤ count_of cache). absurd (r.place (inl h))) (cases_lt (count_of cache) cache.most) in
    joined_owns cache tag place (without_bit cache.known place) r.held low is
    (without_in cache.first cache.known tag place cache.wide.1 low is) r.ordinary
    (popped_fits cache.known place cache.wide.1) room r.can.alive r.other

pub returns : goal.returns
returns g c = let cache = c.args.self.now in let tag = c.args.tag in let place = c.args.offset in
    let is = c.requires.offset.0 in let low = c.requires.offset.1 in
    let left = without_in cache.first cache.known tag place cache.wide.1 low is in
    let joins = joins cache tag place (without_bit cache.known place) c.requires.held low is left in record {
      hand = refl;
      also = record {
        now = joins.now;
        still = joins.still;
        none_else = joins.none_else;
        more = joins.more;
        terms = record { most = refl; keeping = refl };
        reused = refl;
      };
      knows = left;
    }
