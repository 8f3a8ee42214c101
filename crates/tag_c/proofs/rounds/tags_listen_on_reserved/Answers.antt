-- Where a round was made, there is a hand.
use Rattle.tag_c.proofs.Uses.{arc_value, refl}
use Rattle.tag_c.specs.declared.object.Kind.TheVariants.{Member, Cached}
use Rattle.tag_c.proofs.Refusing.{hand_behind}
use Rattle.tag_c.proofs.rounds.tags_listen_on_reserved.Goals as goal

pub returns-in-Member-clause-kept : goal.returns-in-Member-clause-kept
returns-in-Member-clause-kept c = let member = c.in-Member.member in λ no. absurd (no
    (hand_behind c.args.hand.now.object.value c.in-Some.object.now (Member member) (arc_value member.shared).tags
    c.in-Some.ensures.some c.in-Member.is refl))

pub returns-in-Cached-clause-kept : goal.returns-in-Cached-clause-kept
returns-in-Cached-clause-kept c = let member = c.in-Cached.member in λ no. absurd (no
    (hand_behind c.args.hand.now.object.value c.in-Some.object.now (Cached member) (arc_value member.shared).tags
    c.in-Some.ensures.some c.in-Cached.is refl))
