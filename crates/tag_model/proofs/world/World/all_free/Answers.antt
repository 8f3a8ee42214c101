-- An opened world is kept soundly.
use Rattle.std.specs.Prelude.{◌≡◌}
use Rattle.tag_model.proofs.Uses.{Free, IsSound, KeptWorld, replicate, subst, sym}
use Rattle.tag_model.proofs.KeptFacts.{sound-opened}
use Rattle.tag_model.proofs.world.World.all_free.Goals as goal

pub invariant_of-result : goal.invariant_of-result
invariant_of-result c =
    let layout = c.in_ok-open.ensures.layout in let places = c.in_ok-open.ensures.all_free in
    let won = c.in_ok-vec.ensures.items_if_clones_equal (λ y e. e) in
    let back = c.in_ok-vec-2.ensures.items_if_clones_equal (λ y e. e) in
    let now : KeptWorld = record {
      layout = c.in_ok-open.field-0.layout;
      places = c.in_ok-open.field-0.places;
      won = c.in_ok-vec.field-0.items;
      back = c.in_ok-vec-2.field-0.items;
    } in
    let free : KeptWorld = record {
      layout = c.args.layout;
      places = replicate c.args.layout.depth Free;
      won = replicate c.args.callers 0;
      back = replicate c.args.callers 0;
    } in
    let same : now ≡ free = λ i. record { layout = layout i; places = places i; won = won i; back = back i } in
    subst IsSound (sym same) (sound-opened c.args.layout c.args.callers c.requires.0 c.requires.1)
