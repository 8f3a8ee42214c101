-- Once the read has found a value the hand still holds the tag, so the clear succeeds.
use Rattle.tag_c.proofs.Uses.{Bare, refl, sym, ◌∙◌}
use Rattle.tag_pool.specs.declared.kind.Kind.TheVariants.{Ordinary, Reserved}
use Rattle.tag_c.proofs.Endings.{ends_of_kind, kind_in}
use Rattle.tag_c.proofs.Reading.{cleared_read_held, refused_read}
use Rattle.tag_c.proofs.pairs.MemberPairCalls.read_clear.Goals as goal

pub clear_held_quietly-requires-clause-held : goal.clear_held_quietly-requires-clause-held
clear_held_quietly-requires-clause-held c = let reads = c.in-Ok.ensures.does in
    (reads.reads.same.kept c.args.tag reads.refusals.passes.1.0).0

pub returns-in-Ordinary-clause-calls : goal.returns-in-Ordinary-clause-calls
returns-in-Ordinary-clause-calls c = let tag = c.args.tag in let clear = c.clear_held_quietly in
    let call = c.look_and_tell in (
      call.ensures.0,
      cleared_read_held tag c.in-Ok.found c.deref.ensures c.deref-2.ensures call.type_inv c.args.self.now.hand
          c.read.new.hand clear.new.hand c.in-Ok.ensures.does clear.ensures.clears clear.ensures.back clear.ensures.bound
          (ends_of_kind tag 1 Ordinary (kind_in tag (sym c.in-Ordinary.is ∙ c.kind.ensures) c.deref-3.ensures)
          call.ensures.1),
    )

pub returns-in-Reserved-clause-calls : goal.returns-in-Reserved-clause-calls
returns-in-Reserved-clause-calls c = let tag = c.args.tag in let clear = c.clear_held_quietly in
    let call = c.look_and_tell-in-Reserved in (
      call.ensures.0,
      cleared_read_held tag c.in-Ok.found c.deref.ensures c.deref-2.ensures call.type_inv c.args.self.now.hand
          c.read.new.hand clear.new.hand c.in-Ok.ensures.does clear.ensures.clears clear.ensures.back clear.ensures.bound
          (ends_of_kind tag 1 Reserved (kind_in tag (sym c.in-Reserved.is ∙ c.kind.ensures) c.deref-3.ensures)
          call.ensures.1),
    )

pub returns-in-Err-clause-calls : goal.returns-in-Err-clause-calls
returns-in-Err-clause-calls c = (
  refl,
  refused_read c.args.tag c.args.value.now c.deref.ensures c.fault_code.type_inv (Bare c.args.self.now.hand)
      (Bare c.read.new.hand) c.in-Err.fault c.fault_code.ensures c.in-Err.ensures.does.refusals,
)
