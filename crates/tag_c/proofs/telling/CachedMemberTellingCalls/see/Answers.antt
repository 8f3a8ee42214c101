-- After a reserved tag the hand sees to the ordinary ones that it kept.
use Rattle.tag_c.proofs.Uses.{arc_value, refl, subst, sym}
use Rattle.tag_pool.specs.declared.kind.Kind.{Kind}
use Rattle.tag_c.specs.Bell.{told_of}
use Rattle.tag_c.specs.Telling.{SeesOver}
use Rattle.tag_c.proofs.Endings.{done_in_both, seen}
use Rattle.tag_c.proofs.telling.CachedMemberTellingCalls.see.Goals as goal

pub returns-in-Reserved : goal.returns-in-Reserved
returns-in-Reserved c = let tags = (arc_value c.args.self.now.shared).tags in let freed = c.args.freed in let old = c.args.self.now.cache in
    let between = c.see_to.new.self in let new = c.see_to-kept.new.self in let told = c.of-told.result in
    let kept = c.of.result in
    let first = seen freed told old between c.in-Reserved.is c.deref.ensures c.of-told.ensures c.see_to.ensures.does in
    let second = seen 0 kept between new refl c.deref-in-Reserved.ensures c.of.ensures c.see_to-kept.ensures.does in (
      refl,
      subst (λ (k : Kind). SeesOver k freed c.with.result tags old new) (sym c.in-Reserved.is) (record {
        reserved = told;
        ordinary = kept;
        between = between;
        first = first;
        second = second;
        all = c.with.ensures;
        done = done_in_both tags 0 (told_of kept) between new first.done second;
      }),
    )
