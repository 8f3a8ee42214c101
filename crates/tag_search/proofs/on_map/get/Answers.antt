-- The steps of the first try, and those of the rest after it, are a get. They determine the tag that the caller gains,
-- and the first try frees none.
use Rattle.tag_search.proofs.Uses.{layout_of, rules, ◌∙◌}
use Rattle.tag_search.proofs.BegunFacts.{begun_frees_none}
use Rattle.tag_search.proofs.FreedFacts.{freed_same, none_left, left_since}
use Rattle.tag_search.proofs.MapGets.{won_got, rest_got}
use Rattle.tag_search.proofs.VainGets.{none_found}
use Rattle.tag_search.proofs.on_map.get.Goals as goal

pub returns-in-Ok : goal.returns-in-Ok
returns-in-Ok g c =
    let old = c.args.caller.now in let new = c.begin.new.caller in let won = c.in-Ok.ensures.won in
    let got = won_got c.args.map.now old new c.requires.caller c.args.hint.now c.in-Ok.tag won in
    record {
      caller = search rules;
      room = search rules;
      gains = got.gains;
      steps = got.steps;
      vain = tt;
      alone = got.alone;
      hint = search rules;
      left = none_left old new (freed_same old new won.steps won.added won.holds.freed);
      err = search rules;
    }

pub returns-in-Err : goal.returns-in-Err
returns-in-Err g c =
    let old = c.args.caller.now in let middle = c.begin.new.caller in let new = c.finish.new.caller in
    let hint = c.args.hint.now in let rest = c.in-Err.rest in let begun = c.in-Err.ensures.begun in
    let none = begun_frees_none (layout_of c.args.map.now) hint rest begun.steps begun.holds in
    let got = rest_got c.args.map.now old new c.requires.caller middle hint rest c.finish.result.answer begun
    (rw c.in-Err.ensures.unmoved at c.finish.ensures.steps) in
    record {
      caller = search rules;
      room = search rules;
      gains = got.gains;
      steps = got.steps;
      vain = none_found c.args.map.now old new c.requires.caller hint c.finish.result.answer got.steps;
      alone = got.alone;
      hint = search rules;
      left = c.finish.ensures.left
          ∙ left_since old middle new (freed_same old middle begun.steps begun.added none);
      err = search rules;
    }
