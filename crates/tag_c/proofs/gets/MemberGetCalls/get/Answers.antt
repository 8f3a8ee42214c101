-- A first try that wins is the get, and otherwise the call after it is made last.
use Rattle.tag_c.proofs.Uses.{Bare, DoesGet, Ok, refl, Some, subst, Unfinished}
use Rattle.tag_search.specs.declared.search.Unfinished.TheVariants.{Full, Lost}
use Rattle.tag_pool.specs.FirstTry.{BeginsGet}
use Rattle.tag_pool.specs.declared.kind.Kind.TheVariants.{Ordinary}
use Rattle.tag_c.specs.Telling.{Tells}
use Rattle.tag_c.proofs.Begun.{called, seen_in}
use Rattle.tag_c.proofs.Looking.{gets_alone}
use Rattle.tag_c.proofs.Runs.{tag_fits}
use Rattle.tag_c.proofs.gets.MemberGetCalls.get.Goals as goal

pub get_code-requires : goal.get_code-requires
get_code-requires c = tag_fits c.deref.result.now _ (Ok (record { answer = Some c.in-Ok.won; left = 0 })) refl
    c.in-Ok.ensures.won.gets.tag

pub get_past_full-requires : goal.get_past_full-requires
get_past_full-requires c = (
  c.args.self.now,
  (
    refl,
    seen_in Full c.args.self.now c.deref.result.now c.begin_get.new.hand
        c.deref.ensures (subst (λ (x : Unfinished). BeginsGet c.deref.result.now.tags x c.args.self.now.hand
        c.begin_get.new.hand) c.in-Err-Full.field-0-is c.in-Err-Full.ensures.begins),
  ),
)

pub get_past_lost-requires : goal.get_past_lost-requires
get_past_lost-requires c = (
  c.args.self.now,
  (
    refl,
    seen_in (Lost c.in-Err-Lost.from c.in-Err-Lost.found) c.args.self.now
        c.deref.result.now c.begin_get.new.hand c.deref.ensures
        (subst (λ (x : Unfinished). BeginsGet c.deref.result.now.tags x c.args.self.now.hand
        c.begin_get.new.hand) c.in-Err-Lost.field-0-is c.in-Err-Lost.ensures.begins),
  ),
)

pub returns-in-Ok : goal.returns-in-Ok
returns-in-Ok c = (
  refl,
  gets_alone DoesGet (Tells Ordinary) (Bare c.args.self.now.hand) (Bare c.begin_get.new.hand)
      (Ok (record { answer = Some c.in-Ok.won; left = 0 })) c.deref.ensures c.in-Ok.ensures.won refl
      c.get_code.ensures.code c.get_code.type_inv,
)

pub returns-in-Err-Full : goal.returns-in-Err-Full
returns-in-Err-Full c = let rest = c.get_past_full in
    called c.args.told.now rest.new.told rest.result c.args.self.now rest.new.self rest.type_inv
    (rest.ensures c.args.self.now (
      refl,
      seen_in Full c.args.self.now c.deref.result.now c.begin_get.new.hand
          c.deref.ensures (subst (λ (x : Unfinished). BeginsGet c.deref.result.now.tags x c.args.self.now.hand
          c.begin_get.new.hand) c.in-Err-Full.field-0-is c.in-Err-Full.ensures.begins),
    ))

pub returns-in-Err-Lost : goal.returns-in-Err-Lost
returns-in-Err-Lost c = let rest = c.get_past_lost in
    called c.args.told.now rest.new.told rest.result c.args.self.now rest.new.self rest.type_inv
    (rest.ensures c.args.self.now (
      refl,
      seen_in (Lost c.in-Err-Lost.from c.in-Err-Lost.found) c.args.self.now c.deref.result.now
          c.begin_get.new.hand c.deref.ensures
          (subst (λ (x : Unfinished). BeginsGet c.deref.result.now.tags x c.args.self.now.hand
          c.begin_get.new.hand) c.in-Err-Lost.field-0-is c.in-Err-Lost.ensures.begins),
    ))
