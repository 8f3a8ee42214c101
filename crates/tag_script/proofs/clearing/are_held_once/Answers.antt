-- A list whose tags are all held is judged by whether they are distinct.
use Rattle.tag_script.proofs.Uses.{arith, get_or_default_zero, inr, is_busy_tag, subst, sym, true, ℕ}
use Rattle.std.proofs.Common.{◌≡◌}
use Rattle.tag_script.proofs.ClearingFacts.{match_bool}
use Rattle.tag_script.proofs.clearing.are_held_once.Goals as goal

pub returns : goal.returns
returns c =
    let tags = c.args.tags.now in let stop = c.loop-tag-test.false in
    match_bool _ _ c.are_distinct.result
    (λ e. (
      λ k d l. subst (λ (t : ℕ). is_busy_tag c.args.port.now t ≡ true) (sym (get_or_default_zero tags k d l))
          (c.loop-tag.invariant k (omega arith)),
      c.are_distinct.ensures.distinct.0 e,
    ))
    (λ e. inr (c.are_distinct.ensures.twice.0 e))
