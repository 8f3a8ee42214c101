-- Reserved tags are seen to at once.
use Rattle.tag_c.proofs.Uses.{arc_value, Caching, Ok, pos, Result, subst, sym, TagFault, ℕ}
use Rattle.tag_pool.specs.declared.kind.Kind.{Kind}
use Rattle.tag_pool.specs.declared.kind.Kind.TheVariants.{Reserved}
use Rattle.tag_c.specs.Telling.{EndsGiving, Sees, Tells}
use Rattle.tag_c.proofs.Endings.{as_is, ends_as, sees_at_once}
use Rattle.tag_c.proofs.cached.CachedMember.end_giving.Goals as goal
use Rattle.tag_c.proofs.cached.CachedMember.end_giving.Goals.{After-tell}

-- the call ended by seeing to this many
ended : (c : After-tell) → EndsGiving (Ok c.in-Ok.freed) (Tells Reserved) c.args.told.now c.tell.new.told c.tell.result
    (arc_value c.args.self.now.shared).tags (Caching c.args.self.now.cache) (Caching c.tell.new.self.cache)
ended c = let freed = c.in-Ok.freed in record {
  refused = tt;
  ends = ends_as (Sees Reserved freed) (Tells Reserved freed) (pos 0)
      (λ told sees. sees_at_once Reserved freed told _ _ _ sees) c.tell.ensures.1;
}

pub returns-in-Reserved : goal.returns-in-Reserved
returns-in-Reserved c = let tags = (arc_value c.args.self.now.shared).tags in let old = Caching c.args.self.now.cache in
    let new = Caching c.tell.new.self.cache in let before = c.args.told.now in let after = c.tell.new.told in (
      c.tell.ensures.0,
      as_is (λ z. EndsGiving c.args.given (Tells c.args.kind) before after z tags old new) c.tell.type_inv
          (subst (λ (k : Kind). EndsGiving c.args.given (Tells k) before after c.tell.result tags old new)
          (sym c.in-Reserved.is)
          (subst (λ (a : Result ℕ TagFault). EndsGiving a (Tells Reserved) before after c.tell.result tags old new)
          (sym c.in-Ok.is) (ended c))),
    )
