-- The first words let each tag go by its own number.
use Rattle.std.proofs.Common.{[], rules, subst, sym, ◌++◌, ◌∷◌, ◌≡◌}
use Rattle.posted_queue.proofs.AssignedMoves.{AreOwn, begins, own_more}
use Rattle.posted_queue.proofs.assigned.Assignments.own.Goals as goal

pub loop-number-preserved : goal.loop-number-preserved
loop-number-preserved c = let was = c.loop-number.own.items in let number = c.loop-number.number in
    let pushed : c.push.new.self.items ≡ was ++ number ∷ [] = search rules in record {
      count = search rules;
      own = subst AreOwn (sym pushed) (own_more was number c.loop-number.invariant.count c.loop-number.invariant.own);
    }

pub of_words-requires : goal.of_words-requires
of_words-requires c = begins _ (subst AreOwn (search rules) c.loop-number.invariant.own)
