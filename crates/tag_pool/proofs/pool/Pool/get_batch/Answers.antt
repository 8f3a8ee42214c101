-- The look that follows is for as many tags as the batch left free, and under round robin it left none.
use Rattle.std.specs.Prelude.{◌≡◌}
use Rattle.tag_pool.proofs.Uses.{arith, Hand, LooksAfter, Ordinary, subst, sym, ℕ, ◌∙◌}
use Rattle.tag_pool.specs.Gets.{left_free}
use Rattle.tag_pool.proofs.pool.Pool.get_batch.Goals as goal

pub returns-clause-gets : goal.returns-clause-gets
returns-clause-gets g c = λ plain. record {
  searched = c.get_batch_quietly.new.hand;
  gets = c.in_ok-answer.ensures.does.gets plain;
  looks = subst (λ (n : ℕ). LooksAfter Ordinary n c.look_after-woken.result c.get_batch_quietly.new.hand c.look_after-woken.new.hand)
      c.in_ok-answer.ensures.does.left c.look_after-woken.ensures.looks;
}

pub returns-clause-round_robin : goal.returns-clause-round_robin
returns-clause-round_robin g c = λ counts robin. let hand = c.args.hand.now in
    let does = c.in_ok-answer.ensures.does in let batch = does.round_robin counts robin in
    let none : left_free Ordinary hand hand ≡ 0 = omega arith in
    let left = does.left ∙ subst (λ (h : Hand g.row.R.Denot). left_free Ordinary hand h ≡ 0) (sym batch.1) none in
    let looks = c.look_after-woken.ensures.looks.none left in
    ((batch.0, looks.1), looks.0 ∙ batch.1)
