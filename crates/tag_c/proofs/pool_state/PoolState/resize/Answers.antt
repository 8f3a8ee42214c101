-- All hands are there after a resize; a refusal leaves the tags and the cells as they were, for the cause that is told.
use Rattle.std.specs.Prelude.{◌≡◌}
use Rattle.tag_c.proofs.Uses.{All, All-take, ap, hands_of, IsHandOf, refl, reserved_of, ResizeCause, subst, sym, Pool, total_of, ℕ, ◌∙◌}
use Rattle.tag_c.proofs.Collected.{as_many, as_many_there}
use Rattle.tag_c.proofs.Resizing.{resizes, refused_ends}
use Rattle.tag_c.proofs.pool_state.PoolState.resize.Goals as goal

pub resize-requires : goal.resize-requires
resize-requires c = let parted = c.part-tags.ensures in
    subst (λ (tags : Pool ℕ). All (IsHandOf tags) c.part-tags.result.1.items) (sym parted.tags) parted.own

pub slice_bounds-members-end : goal.slice_bounds-members-end
slice_bounds-members-end c =
    let were : c.len.result ≡ hands_of c.part-tags.result.0 =
    (let len = c.len.ensures in let cells = c.part-tags.ensures.cells in let tags = c.part-tags.ensures.tags in
    let enough = c.args.self.enough in cc) in
    sym (as_many_there c.part-tags.result.0 c.in-Ok.tags c.part-tags.result.1.items c.in-Ok.hands.items c.args.request.1
    (c.in-Ok.ensures.may refl) c.in-Ok.ensures.ok c.len.result were c.deref.result.now c.deref.ensures.value)

pub with_cells-shared-requires-clause-own : goal.with_cells-shared-requires-clause-own
with_cells-shared-requires-clause-own c = All-take (IsHandOf c.in-Ok.tags) c.len.result c.deref.result.now
    (subst (All (IsHandOf c.in-Ok.tags)) (sym c.deref.ensures.value) c.in-Ok.ensures.ok.own)

pub with_cells-shared-requires-clause-all : goal.with_cells-shared-requires-clause-all
with_cells-shared-requires-clause-all c =
    let were : c.len.result ≡ hands_of c.part-tags.result.0 =
    (let len = c.len.ensures in let cells = c.part-tags.ensures.cells in let tags = c.part-tags.ensures.tags in
    let enough = c.args.self.enough in cc) in let parted = c.part-tags.result in
    as_many_there parted.0 c.in-Ok.tags parted.1.items c.in-Ok.hands.items c.args.request.1
    (c.in-Ok.ensures.may refl) c.in-Ok.ensures.ok c.len.result were c.deref.result.now c.deref.ensures.value
    ∙ were ∙ sym (as_many parted.0 c.in-Ok.tags parted.1.items c.in-Ok.hands.items c.args.request.1
    (c.in-Ok.ensures.may refl) c.in-Ok.ensures.ok)

pub returns-in-Ok-clause-own : goal.returns-in-Ok-clause-own
returns-in-Ok-clause-own c = subst (λ (tags : Pool ℕ). All (IsHandOf tags) c.in-Ok.hands.items)
    (sym c.with_cells-shared.ensures.tags) c.in-Ok.ensures.ok.own

pub returns-in-Ok-clause-ends : goal.returns-in-Ok-clause-ends
returns-in-Ok-clause-ends c = let parted = c.part-tags.ensures in
    resizes c.args.request.1 c.args.self.tags c.part-tags.result.0 c.args.request.2.items parted.kept.0
    c.part-tags.result.1.items parted.tags parted.kept.1 c.in-Ok.tags c.with_cells-shared.result.tags c.in-Ok.hands.items
    c.with_cells-shared.ensures.tags parted.own (c.in-Ok.ensures.may refl) c.in-Ok.ensures.ok

pub invariant_of-shared : goal.invariant_of-shared
invariant_of-shared c = let self = c.args.self in let parted = c.part-tags.ensures in
    let same : c.in-Err.field-0.pool ≡ self.tags = c.in-Err.ensures.err.0 ∙ parted.tags in record {
      total_is = (ap total_of same ∙ self.total_is.0, self.total_is.1);
      reserved_is = ap reserved_of same ∙ self.reserved_is;
      own = subst (λ (t : Pool ℕ). All (IsHandOf t) c.part-tags.result.2.items) (sym same)
          (subst (All (IsHandOf self.tags)) (let cells = parted.cells in cc) self.own);
      enough = let cells = parted.cells in let enough = self.enough in let count = ap hands_of same in cc;
    }

pub returns-in-Err-clause-ends : goal.returns-in-Err-clause-ends
returns-in-Err-clause-ends c = let e = c.in-Err.ensures in let fault = c.in-Err.field-0 in let parted = c.part-tags.ensures in
    refused_ends c.args.request.1 c.args.self.tags c.part-tags.result.0 c.args.request.2.items parted.kept.0
    c.part-tags.result.1.items parted.tags parted.kept.1 c.requires.range parted.own fault.hands.items e.err.1
    (λ (other : ResizeCause). fault.cause ≡ other)
    record { missing = e.missing; too_deep = e.too_deep; in_use = e.in_use; waiting = e.waiting; memory = e.memory }
    fault.cause refl c.status_of.result c.status_of.ensures fault.pool e.err.0
