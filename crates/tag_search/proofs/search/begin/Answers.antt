-- A first try that wins is the whole search, as a hint below the depth is reduced already. One that wins nothing is
-- the beginning of a pass.
use Rattle.std.specs.Prelude.{◌<◌, ◌^◌, ◌∷◌, ◌≡◌, ◌≤◌}
use Rattle.tag_search.proofs.Uses.{[], ap, arith, at_once, Claimed, Hint, hint_after_get, Layout, Look, pass, refl, rules, Some, subst, sym, wins, word_bits-le, word_depth, word_of, ◌∙◌}
use Rattle.tag_search.specs.Follows.{HintFollows}
use Rattle.tag_search.proofs.AllPlaces.{whole_won}
use Rattle.tag_search.proofs.BegunFacts.{begun_full, begun_lost, first_whole}
use Rattle.tag_search.proofs.GetFacts.{plain_get, plain_follows}
use Rattle.tag_search.proofs.search.begin.Goals as goal

pub returns-in_default-clause-begun : goal.returns-in_default-clause-begun
returns-in_default-clause-begun g c =
    let l = g.P.Port.sizes c.args.port.now in let at = c.args.hint.now.at in let word = c.word_of-word.result in
    let same = c.layout-layout.ensures.value in
    let is : word ≡ word_of l at = c.word_of-word.ensures.value ∙ ap (λ (x : Layout). word_of x at) same in
    record {
      steps = Look word c.look-found.result ∷ [];
      added = c.look-found.ensures.step;
      holds = begun_full l c.args.hint.now word (word_depth c.layout-layout.result word) c.look-found.result is
          (λ z. word_depth (same z) (is z)) c.in_default.ensures.free;
    }

pub returns-in-Err-clause-begun : goal.returns-in-Err-clause-begun
returns-in-Err-clause-begun g c =
    let l = g.P.Port.sizes c.args.port.now in let at = c.args.hint.now.at in let word = c.word_of-word.result in
    let same = c.layout-layout.ensures.value in let place = c.in-Some.place in let lost = c.in-Err.ensures.lost in
    let is : word ≡ word_of l at = c.word_of-word.ensures.value ∙ ap (λ (x : Layout). word_of x at) same in
    let look = Look word c.look-found.result in let claim = Claimed word (2 ^ place) c.in-Err.found in
    let narrow : c.layout-layout.result.shift ≤ 6 = search rules in
    let few = word_bits-le c.layout-layout.result narrow in
    let small : word_depth c.layout-layout.result word ≤ 64 = omega arith in
    record {
      steps = look ∷ claim ∷ [];
      added = g.met.P.Port.adds_more c.args.port.now c.look-found.new.self c.claim_one.new.self (look ∷ [])
          (claim ∷ []) c.look-found.ensures.step lost.2;
      holds = begun_lost l c.args.hint.now word (word_depth c.layout-layout.result word) c.look-found.result is
          (λ z. word_depth (same z) (is z)) place c.in-Err.found small c.in-Some.ensures.free lost.0;
    }

pub returns-clause-won : goal.returns-clause-won
returns-clause-won g c =
    let l = g.P.Port.sizes c.args.port.now in let layout = c.layout-layout.result in let hint = c.args.hint.now in
    let same : layout ≡ l = c.layout-layout.ensures.value in let word = c.word_of-word.result in
    let low : hint.at < layout.depth = let d = c.depth.ensures.value in let f = c.if-before-depth.false in omega arith in
    let inside = c.word_of-word.ensures.within in let narrow : layout.shift ≤ 6 = search rules in
    let place = c.in-Some.place in let won = c.in_default-claim_one.ensures.won in
    let look = Look word c.look-found.result in let claim = Claimed word (2 ^ place) won.0 in
    record {
      steps = look ∷ claim ∷ [];
      added = g.met.P.Port.adds_more c.args.port.now c.look-found.new.self c.claim_one.new.self (look ∷ [])
          (claim ∷ []) c.look-found.ensures.step won.2;
      holds = record {
        get = plain_get layout l hint same (subst (λ (x : Layout). hint.at < x.depth) same low) word
            c.word_of-word.ensures.value c.if-before.false narrow (omega arith) (Some c.tag_at-tag.result)
            (look ∷ claim ∷ [])
            (rw c.tag_at-tag.ensures.value (whole_won layout word inside (look ∷ claim ∷ []) place (at_once
            (pass (wins (first_whole c.look-found.result (word_depth layout word) place c.in-Some.ensures.free) won.1)))));
        freed = refl;
      };
    }

pub returns-clause-hint : goal.returns-clause-hint
returns-clause-hint g c =
    let layout = c.layout-layout.result in let hint = c.args.hint.now in let same = c.layout-layout.ensures.value in
    let low : hint.at < layout.depth = let d = c.depth.ensures.value in let f = c.if-before-depth.false in omega arith in
    let won = Some c.tag_at-tag.result in
    subst (λ (new : Hint). HintFollows (g.P.Port.sizes c.args.port.now).depth hint new won) (sym c.follow_win.ensures)
    (plain_follows layout _ hint same (subst (λ (x : Layout). hint.at < x.depth) same low) c.depth-2.result
    (hint_after_get c.depth-2.result hint.round_robin hint.at won) won c.depth-2.ensures.value refl)
