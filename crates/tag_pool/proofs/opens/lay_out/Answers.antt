-- Both maps have as many callers as the options say, in the order of their numbers, so these pair up as hands.
use Rattle.tag_pool.proofs.Uses.{Layout, rules, subst, sym, ◌∙◌}
use Rattle.tag_pool.specs.Opening.{AreLaidOut}
use Rattle.tag_pool.proofs.Opening.{as_many, opens}
use Rattle.tag_pool.proofs.opens.lay_out.Goals as goal

pub join-requires : goal.join-requires
join-requires g c = as_many c.args.options c.in_ok-reserved.reserved _ c.in_ok-reserved.ensures.new
    ∙ sym (as_many c.args.options c.in_ok-ordinary.ordinary _ c.in_ok-ordinary.ensures.new)

pub returns-clause-ok : goal.returns-clause-ok
returns-clause-ok g c = let parts = c.in_ok-hands.ensures.parts in let one = c.in_ok-reserved in let other = c.in_ok-ordinary in
    let opened = opens c.args.options one.reserved other.ordinary _ c.in_ok-hands.hands.items _ _ parts one.ensures.new
    other.ensures.new in record {
      laid_out = subst (λ (z : Layout × Layout). AreLaidOut c.args.options z.0 z.1)
          (λ j. (sym one.ensures.layout j, sym other.ensures.layout j)) c.requires.laid_out;
      ordinary = opened.ordinary;
      reserved = opened.reserved_set;
      least = search rules;
      own = opened.own;
      none_held = opened.none_held;
      count = opened.count;
      ordered = opened.ordered;
      hints = c.in_ok-hands.ensures.hints;
    }
