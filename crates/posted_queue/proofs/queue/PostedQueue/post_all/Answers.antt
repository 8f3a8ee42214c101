-- A token that was won is posted; where a search won none, none is held.
use Rattle.std.proofs.Common.{None, Option, refl, rules, subst, ◌≡◌, ℕ}
use Rattle.tag_pool.specs.Hands.{Holds}
use Rattle.posted_queue.specs.Serving.{Searches}
use Rattle.posted_queue.proofs.NoneHeld.{found_none, none_after, won}
use Rattle.posted_queue.proofs.queue.PostedQueue.post_all.Goals as goal

pub returns-in_default-answer-clause-searched : goal.returns-in_default-answer-clause-searched
returns-in_default-answer-clause-searched c = let got = c.in-Ok.field-0 in
    let is : got.answer ≡ None = search rules in (
      c.loop.hand,
      got.woken,
      subst (λ (a : Option ℕ). Searches c.args.self.now a got.woken c.loop.hand c.get.new.hand) is c.in-Ok.ensures.gets,
    )

pub returns-in_default-answer-clause-none : goal.returns-in_default-answer-clause-none
returns-in_default-answer-clause-none c = let got = c.in-Ok.field-0 in
    let is : got.answer ≡ None = search rules in
    found_none c.args.self.now got.answer got.woken c.loop.hand c.get.new.hand is c.loop.invariant.none c.in-Ok.ensures.gets

pub unreachable-requires : goal.unreachable-requires
unreachable-requires c = let got = c.in-Ok.field-0 in
    let held : Holds c.get.new.hand c.in-Some.token = (won c.args.self.now got.answer got.woken c.loop.hand
    c.get.new.hand c.in-Some.token c.in-Some.is c.in-Ok.ensures.gets).joined c.in-Some.token refl in
    search rules

pub loop-preserved : goal.loop-preserved
loop-preserved c = let got = c.in-Ok.field-0 in record {
  own = search rules;
  none = none_after c.in-Some.token c.loop.hand c.get.new.hand c.post.new.hand c.loop.invariant.none
      (won c.args.self.now got.answer got.woken c.loop.hand c.get.new.hand c.in-Some.token c.in-Some.is
      c.in-Ok.ensures.gets)
      c.in-Ok-post.ensures.does.posts.less;
}
