-- The token that was won is posted, and where none was won none is held.
use Rattle.std.proofs.Common.{None, Option, refl, rules, Some, subst, ◌≡◌, ℕ}
use Rattle.tag_pool.specs.Opening.{HoldsNone}
use Rattle.posted_queue.specs.Serving.{Searches}
use Rattle.posted_queue.proofs.NoneHeld.{found_none, none_after, won}
use Rattle.posted_queue.proofs.queue.PostedQueue.next.Goals as goal

pub returns-in_default-clause-own : goal.returns-in_default-clause-own
returns-in_default-clause-own g c = let got = c.in_ok-answer.field-0 in
    let is : got.answer ≡ None = search rules in
    let none : HoldsNone c.get.new.hand = found_none c.args.self.now got.answer got.woken c.args.own.now.tokens
    c.get.new.hand is c.requires.own.3 c.in_ok-answer.ensures.gets in
    search rules

pub serve-popped-requires-clause-held : goal.serve-popped-requires-clause-held
serve-popped-requires-clause-held g c = let got = c.in_ok-answer.field-0 in
    let is : got.answer ≡ Some c.in-Some.token = search rules in
    (won c.args.self.now got.answer got.woken c.args.own.now.tokens c.get.new.hand c.in-Some.token is
    c.in_ok-answer.ensures.gets).joined c.in-Some.token refl

pub returns-clause-own : goal.returns-clause-own
returns-clause-own g c = let got = c.in_ok-answer.field-0 in
    let is : got.answer ≡ Some c.in-Some.token = search rules in
    let none : HoldsNone c.serve-popped.new.own.tokens = none_after c.in-Some.token c.args.own.now.tokens c.get.new.hand
    c.serve-popped.new.own.tokens c.requires.own.3
    (won c.args.self.now got.answer got.woken c.args.own.now.tokens c.get.new.hand c.in-Some.token is
    c.in_ok-answer.ensures.gets)
    c.serve-popped.ensures.serves.posts.less in
    search rules

pub returns-clause-nexts : goal.returns-clause-nexts
returns-clause-nexts g c = let got = c.in_ok-answer.field-0 in
    let is : got.answer ≡ Some c.in-Some.token = search rules in record {
      token = c.in-Some.token;
      won = c.get.new.hand;
      wins = subst (λ (a : Option ℕ). Searches c.args.self.now a got.woken c.args.own.now.tokens c.get.new.hand) is
          c.in_ok-answer.ensures.gets;
      serves = c.serve-popped.ensures.serves;
    }
