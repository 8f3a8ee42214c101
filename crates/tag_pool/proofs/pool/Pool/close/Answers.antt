-- All callers of both sets were gathered, so the totals of the two maps are those of the hands.
use Rattle.tag_pool.proofs.Uses.{ap, List, Ordinary, Record, Reserved, subst, sym, ℕ, ◌∙◌}
use Rattle.step_ledger.proofs.Turned.{some_there}
use Rattle.step_ledger.specs.Gather.{HasAll}
use Rattle.tag_core.specs.Gathering as tags
use Rattle.tag_pool.specs.Gathering.{shape_of}
use Rattle.tag_pool.specs.Hands.{hands_of, number_of}
use Rattle.tag_pool.proofs.Gathered.{gathers, record_numbers, small_totals}
use Rattle.tag_pool.proofs.pool.Pool.close.Goals as goal

pub gather_each-reserved-requires-clause-some : goal.gather_each-reserved-requires-clause-some
gather_each-reserved-requires-clause-some g c = some_there number_of c.args.hands.items (hands_of c.args.self)
    c.requires.all c.args.self.ordinary.few.0

pub finish-requires-clause-all : goal.finish-requires-clause-all
finish-requires-clause-all g c =
    subst (λ (ns : List ℕ). HasAll ns (hands_of c.args.self))
    (record_numbers c.args.self c.args.hands.items c.requires.own Ordinary
    ∙ ap (λ (rs : List (Record g.row.R.Denot)). tags.numbers rs) (sym c.gather_each-reserved.ensures.1.ordinary))
    c.requires.all

pub finish-requires-2-clause-all : goal.finish-requires-2-clause-all
finish-requires-2-clause-all g c =
    subst (λ (z : List ℕ × ℕ). HasAll z.0 z.1)
    (λ j. (
      (record_numbers c.args.self c.args.hands.items c.requires.own Reserved
          ∙ ap (λ (rs : List (Record g.row.R.Denot)). tags.numbers rs) (sym c.gather_each-reserved.ensures.1.reserved)) j,
      sym c.args.self.as_many j,
    )) c.requires.all

pub add_up-requires : goal.add_up-requires
add_up-requires g c =
    let all = c.gather_each-reserved.ensures.1 in let hands = c.args.hands.items in let pool = c.args.self in (
      small_totals c.gather_each-reserved.result.ordinary _ c.finish.result (shape_of pool Ordinary) all.ordinary
          (subst (λ (rs : List (Record g.row.R.Denot)). tags.IsGathered (shape_of pool Ordinary) rs c.finish.result)
          all.ordinary c.finish.ensures),
      small_totals c.gather_each-reserved.result.reserved _ c.finish-2.result (shape_of pool Reserved) all.reserved
          (subst (λ (rs : List (Record g.row.R.Denot)). tags.IsGathered (shape_of pool Reserved) rs c.finish-2.result)
          all.reserved c.finish-2.ensures),
    )

pub returns : goal.returns
returns g c =
    let all = c.gather_each-reserved.ensures.1 in let pool = c.args.self in
    gathers pool c.args.hands.items c.finish.result c.finish-2.result c.add_up.result c.add_up.ensures
    (subst (λ (rs : List (Record g.row.R.Denot)). tags.IsGathered (shape_of pool Ordinary) rs c.finish.result)
    all.ordinary c.finish.ensures)
    (subst (λ (rs : List (Record g.row.R.Denot)). tags.IsGathered (shape_of pool Reserved) rs c.finish-2.result)
    all.reserved c.finish-2.ensures)
