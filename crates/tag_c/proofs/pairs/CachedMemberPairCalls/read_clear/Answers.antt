-- Once the read has found a value the user still holds the tag, so the clear succeeds.
use Rattle.tag_c.proofs.Uses.{arc_value, Caching, IsRefusal, refl}
use Rattle.tag_c.specs.Pairs.{DoesReadClear}
use Rattle.tag_c.specs.Telling.{GivesAndTells, Tells, TellsOfKind}
use Rattle.tag_c.proofs.Calling.{as_stored}
use Rattle.tag_c.proofs.Endings.{ends_giving_as, kind_in, tells_of_kind}
use Rattle.tag_c.proofs.Reading.{cleared_read_over, refused_read}
use Rattle.tag_c.proofs.pairs.CachedMemberPairCalls.read_clear.Goals as goal
use Rattle.tag_c.proofs.pairs.CachedMemberPairCalls.read_clear.Goals.{After-end_giving}

-- the call cleared the tag, and was not refused
reads_and_clears : (c : After-end_giving) → GivesAndTells (DoesReadClear c.args.tag c.in-Ok.found)
    (TellsOfKind c.args.tag) c.args.told.now c.end_giving.new.told (as_stored c.end_giving.result)
    (arc_value c.args.self.now.shared).tags (Caching c.args.self.now.cache) (Caching c.end_giving.new.self.cache)
    × ¬ (IsRefusal (as_stored c.end_giving.result))
reads_and_clears c = let reads = c.in-Ok.ensures.does in let given = c.clear_quietly-given in
    let tag = c.args.tag in let passes = reads.refusals.passes in let clears = given.ensures.does in
    cleared_read_over tag c.in-Ok.found c.deref.ensures c.end_giving.type_inv (Caching c.args.self.now.cache)
    (Caching c.read.new.self) c.deref-2.ensures (Caching given.new.self) (Caching c.end_giving.new.self.cache)
    given.result passes (reads.same.kept tag passes.1.0).0 (reads, refl) clears.refusals clears
    (ends_giving_as (Tells c.kind-kind.result) (TellsOfKind tag) given.result
    (λ freed told tells. tells_of_kind tag freed told (kind_in tag c.kind-kind.ensures c.deref-3.ensures) tells)
    c.end_giving.ensures.1)

pub returns-clause-calls : goal.returns-clause-calls
returns-clause-calls c = (c.end_giving.ensures.0, (reads_and_clears c).0)

pub returns-clause-kept : goal.returns-clause-kept
returns-clause-kept c = λ refusal. absurd ((reads_and_clears c).1 refusal)

pub returns-in-Err-clause-calls : goal.returns-in-Err-clause-calls
returns-in-Err-clause-calls c = (
  refl,
  refused_read c.args.tag c.args.value.now c.deref.ensures c.fault_code.type_inv (Caching c.args.self.now.cache)
      (Caching c.read.new.self) c.in-Err.fault c.fault_code.ensures c.in-Err.ensures.does.refusals,
)
