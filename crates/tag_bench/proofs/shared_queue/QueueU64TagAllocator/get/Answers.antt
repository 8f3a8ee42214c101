-- The hand holds the tag that it gains by its search, and still does after its look for waiters.
use Rattle.tag_bench.proofs.Uses.{IfSome, None, Option, refl, Some, subst, sym, ℕ}
use Rattle.tag_pool.specs.Gets.{IsAnswer}
use Rattle.tag_pool.specs.Hands.{Holds}
use Rattle.tag_pool.specs.Holding.{HoldsMore}
use Rattle.tag_pool.specs.declared.hand.Hand.{Hand}
use Rattle.tag_bench.proofs.shared_queue.QueueU64TagAllocator.get.Goals as goal

holds_answer : (answer : Option ℕ) (old new : Hand ℕ) → HoldsMore (IsAnswer answer) old new → IfSome answer (Holds new)
holds_answer None old new more = tt
holds_answer (Some tag) old new more = more.joined tag refl

pub returns-clause-held : goal.returns-clause-held
returns-clause-held c = let looked = c.in-Ok.ensures.gets in
    subst (λ (hand : Hand ℕ). IfSome c.in-Ok.answer (Holds hand)) (sym looked.looks.same.0)
    (holds_answer c.in-Ok.answer _ _ looked.gets.more)
