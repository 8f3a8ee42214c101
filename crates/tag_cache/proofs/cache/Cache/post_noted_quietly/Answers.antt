-- A tag that is not known is no kept one, and none has to go back before it.
use Rattle.tag_cache.proofs.Uses.{rules}
use Rattle.tag_cache.proofs.Reusing.{known_held}
use Rattle.tag_cache.proofs.Below.{held_allowed}
use Rattle.tag_cache.proofs.cache.Cache.post_noted_quietly.Goals as goal

pub returns-then-knows-clause-does : goal.returns-then-knows-clause-does
returns-then-knows-clause-does g c = record {
  refusals = held_allowed c.args.pool.now c.args.self.now c.args.tag c.requires.cache
      (known_held c.args.self.now c.args.tag (c.knows.ensures.0 c.if-knows.true)) _ _;
  less = search rules;
  kept = c.post_known.ensures.passes.kept;
  posts = c.post_known.ensures.passes.posts;
  last = c.post_known.ensures.passes.last;
  flushes = search rules;
  freed = search rules;
  terms = search rules;
  knows = search rules;
  tally = search rules;
}

pub returns-clause-does : goal.returns-clause-does
returns-clause-does g c = record {
  refusals = search rules;
  less = search rules;
  kept = c.in_ok-post_other.ensures.passes.kept;
  posts = c.in_ok-post_other.ensures.passes.posts;
  last = c.in_ok-post_other.ensures.passes.last;
  flushes = c.in_ok-post_other.ensures.flushes;
  freed = c.in_ok-post_other.ensures.freed;
  terms = search rules;
  knows = search rules;
  tally = search rules;
}
