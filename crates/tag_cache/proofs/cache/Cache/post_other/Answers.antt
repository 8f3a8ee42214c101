-- The hand no longer holds the tag, which was neither kept nor known.
use Rattle.tag_cache.proofs.Uses.{IsKept, rules}
use Rattle.tag_cache.proofs.Carrying.{not_true, owns_but, post_still}
use Rattle.tag_cache.proofs.Posting.{last_on, posted_tallies, posts_none_back, unknown_passes}
use Rattle.tag_cache.proofs.Reusing.{last_unknown}
use Rattle.tag_cache.proofs.Below.{unkept_refuses}
use Rattle.tag_cache.proofs.cache.Cache.post_other.Goals as goal

pub invariant_of-self : goal.invariant_of-self
invariant_of-self g c = let cache = c.args.self.now in let tag = c.args.tag in let call = c.post_noted in
    owns_but c.args.pool.now cache call.new.hand c.requires.cache call.ensures.hand.0 tag
    (not_true _ (IsKept cache tag) c.keeps.ensures c.if-keeps.false) c.requires.unknown
    (post_still tag c.args.note cache.hand call.new.hand call.result call.ensures.does.posts call.ensures.does.refusals.same)

pub returns-clause-passes : goal.returns-clause-passes
returns-clause-passes g c = unknown_passes c.args.tag c.args.note c.args.self.now _ (search rules) (search rules) c.requires.unknown
    c.post_noted.result c.post_noted.ensures.does.posts

pub returns-clause-flushes : goal.returns-clause-flushes
returns-clause-flushes g c = λ last. last_on c.args.pool.now c.args.tag c.args.note c.args.self.now _
    (last_unknown c.args.self.now c.args.tag c.requires.unknown last) c.post_noted.result c.post_noted.ensures.does.posts

pub returns-clause-freed : goal.returns-clause-freed
returns-clause-freed g c = posts_none_back c.args.tag c.args.note c.args.self.now.hand c.post_noted.new.hand c.post_noted.result
    c.post_noted.ensures.does.posts

pub returns-clause-tally : goal.returns-clause-tally
returns-clause-tally g c = posted_tallies c.args.tag c.args.note c.args.self.now _ (search rules) c.post_noted.result c.post_noted.ensures.does.posts
    c.post_noted.ensures.does.refusals.same

pub returns-clause-refusals : goal.returns-clause-refusals
returns-clause-refusals g c = unkept_refuses c.args.pool.now c.args.self.now c.args.tag
    (not_true _ (IsKept c.args.self.now c.args.tag) c.keeps.ensures c.if-keeps.false) c.post_noted.result _ _ (search rules)
    c.post_noted.ensures.does.refusals
