-- Worlds as they are kept: sums and counts of their lists, and the lists after an event.
use Rattle.std.specs.Prelude.{◌*◌, ◌+◌, ◌<◌, ◌≡◌, ◌≤◌}
use Rattle.tag_model.proofs.Uses.{after, ap, arith, back_by, Balances, caller_of, callers_of, Event, Free, fun_ext, get_or, get_or-replicate, get_or-set_other, get_or-set_same, get_or_past, Global, Happens, IsInLayout, IsSound, KeptWorld, Layout, le-sum_below, length, length-replicate, length-set}
use Rattle.tag_model.proofs.Uses.{List, MayHappen, MovesTags, mul-le-mul_right, opened, Place, place_after, plus_at, refl, replicate, set, subst, sum_below, sum_below-bound, sym, Vec, with_items, with_items_is, won_by, World, world_of, ℕ, ◌∙◌}
use Rattle.tag_model.proofs.MaskFacts.{in_mask-past}
use Rattle.tag_model.proofs.BalanceFacts.{balances-after, balances-opened}

-- past the depth nothing is named but what stays free
pub free-past : (l : Layout) (event : Event) (tag : ℕ) → IsInLayout l event → l.depth ≤ tag
    → place_after l event tag Free ≡ Free
free-past l event tag within past = grind (arith, in_mask-past)

-- one count that grew
pub get_or-plus_at : (counts : List ℕ) (caller more k : ℕ) → caller < length counts
    → get_or (set counts caller (get_or counts caller 0 + more)) k 0 ≡ plus_at caller more (λ c. get_or counts c 0) k
get_or-plus_at counts caller more k h = grind (arith, get_or-set_same, get_or-set_other)

-- the places after an event, at every tag
pub moved-everywhere : (l : Layout) (event : Event) (old new : List Place) → IsInLayout l event → length old ≡ l.depth
    → MovesTags l event old new
    → (tag : ℕ) → get_or new tag Free ≡ place_after l event tag (get_or old tag Free)
moved-everywhere l event old new within long moves tag =
    grind (arith, moves.moved, free-past l event tag, get_or_past)

-- the lists after an event hold the world after it
pub world-after :
    (l : Layout) (event : Event) (old new : List Place) (won back : List ℕ) → IsInLayout l event → length old ≡ l.depth
    → MovesTags l event old new
    → caller_of event < length won → caller_of event < length back
    → (let w : World = record {
      place = λ t. get_or old t Free;
      won = λ c. get_or won c 0;
      back = λ c. get_or back c 0;
    } in
    let v : World = record {
      place = λ t. get_or new t Free;
      won = λ c. get_or (set won (caller_of event) (get_or won (caller_of event) 0 + won_by event)) c 0;
      back = λ c. get_or (set back (caller_of event) (get_or back (caller_of event) 0 + back_by event)) c 0;
    } in v ≡ after l event w)
world-after l event old new won back within long moves in_won in_back =
    let places = fun_ext (moved-everywhere l event old new within long moves) in
    let wons = fun_ext (λ c. get_or-plus_at won (caller_of event) (won_by event) c in_won) in
    let backs = fun_ext (λ c. get_or-plus_at back (caller_of event) (back_by event) c in_back) in
    λ i. record { place = places i; won = wons i; back = backs i }

-- the lists of an opened world hold it
pub world-opened : (depth callers : ℕ)
    → (let v : World = record {
      place = λ t. get_or (replicate depth Free) t Free;
      won = λ c. get_or (replicate callers 0) c 0;
      back = λ c. get_or (replicate callers 0) c 0;
    } in v ≡ opened)
world-opened depth callers =
    let places = fun_ext (λ t. same depth t Free) in let counts = fun_ext (λ c. same callers c 0) in
    λ i. record { place = places i; won = counts i; back = counts i }
  where
    same : {X : Type 0} (n k : ℕ) (x : X) → get_or (replicate n x) k x ≡ x
    same n k x = grind (arith, get_or-replicate, get_or_past, length-replicate)

-- what a sound world keeps is far from overflow
module _ (kept : KeptWorld) (sound : IsSound kept) where
  pub got-fits : sum_below (λ c. get_or kept.won c 0) (length kept.won) ≤ 64 * 281474976710656
  got-fits =
      let each = sum_below-bound (λ c. get_or kept.won c 0) (length kept.won) 281474976710656 sound.unspent in
      let few = mul-le-mul_right 281474976710656 sound.few_callers in omega arith

  pub back-fits : sum_below (λ c. get_or kept.back c 0) (length kept.won) ≤ 64 * 281474976710656
  back-fits = let got = got-fits in let balance = sound.balances in omega arith

  pub back_of-fits : (caller : ℕ) → caller < length kept.won → get_or kept.back caller 0 ≤ 64 * 281474976710656
  back_of-fits caller h = let one = le-sum_below (λ c. get_or kept.back c 0) (length kept.won) caller h in
      let all = back-fits in omega arith

-- what is kept after an event that brings the tags to these places
abbrev pub kept_after : KeptWorld → Event → List Place → KeptWorld
kept_after old event places = record {
  layout = old.layout;
  places = places;
  won = set old.won (caller_of event) (get_or old.won (caller_of event) 0 + won_by event);
  back = set old.back (caller_of event) (get_or old.back (caller_of event) 0 + back_by event);
}

module _ (old : KeptWorld) (event : Event) (places : List Place) (sound : IsSound old)
    (may : MayHappen old.layout (callers_of old) (world_of old) event)
    (moves : MovesTags old.layout event old.places places) where
  pub happens-kept : Happens old event (kept_after old event places)
  happens-kept = record {
    setup = record { layout = refl; callers = length-set old.won (caller_of event) _ };
    could = may;
    world = world-after old.layout event old.places places old.won old.back may.in_layout sound.tags moves may.caller
        (subst (λ (n : ℕ). caller_of event < n) (sym sound.both_counts) may.caller);
  }

  pub sound-kept : IsSound (kept_after old event places)
  sound-kept =
      let same : length (set old.won (caller_of event) (get_or old.won (caller_of event) 0 + won_by event))
      ≡ length old.won = length-set old.won (caller_of event) _ in
      let same_back : length (set old.back (caller_of event) (get_or old.back (caller_of event) 0 + back_by event))
      ≡ length old.back = length-set old.back (caller_of event) _ in
      let both = sound.both_counts in let some = sound.some_caller in let few = sound.few_callers in
      let long = sound.tags in let long_new = moves.tags in
      record {
        tags = omega arith;
        some_caller = omega arith;
        few_callers = omega arith;
        both_counts = omega arith;
        unspent = λ caller h. grind (arith, get_or-set_same, get_or-set_other, sound.unspent caller, may.unspent);
        balances =
            subst (λ (n : ℕ). Balances old.layout n (world_of (kept_after old event places))) (sym same)
            (subst (Balances old.layout (callers_of old)) (sym happens-kept.world)
            (balances-after old.layout (callers_of old) event (world_of old) may sound.balances));
      }

-- an opened world is kept soundly
pub sound-opened : (l : Layout) (callers : ℕ) → 1 ≤ callers → callers ≤ 64
    → IsSound (record {
      layout = l;
      places = replicate l.depth Free;
      won = replicate callers 0;
      back = replicate callers 0;
    })
sound-opened l callers some few =
    let kept : KeptWorld = record {
      layout = l;
      places = replicate l.depth Free;
      won = replicate callers 0;
      back = replicate callers 0;
    } in
    let long : length (replicate {A = ℕ} callers 0) ≡ callers = length-replicate callers 0 in
    record {
      tags = length-replicate l.depth Free;
      some_caller = omega arith;
      few_callers = omega arith;
      both_counts = refl;
      unspent = λ caller h. (let within : caller < callers = subst (λ (n : ℕ). caller < n) long h in
          let none : get_or (replicate {A = ℕ} callers 0) caller 0 ≡ 0 = get_or-replicate callers caller 0 0 within in
          omega arith);
      balances = subst (Balances l (callers_of kept)) (sym (world-opened l.depth callers))
          (balances-opened l (callers_of kept));
    }

-- the vectors written over hold what is kept after the event
pub written-after :
    (old : KeptWorld) (event : Event) (layout : Layout) (won back : Vec ℕ Global) (moved : List Place)
    (more_won more_back : List ℕ)
    → layout ≡ old.layout → won.items ≡ old.won → back.items ≡ old.back
    → more_won ≡ set old.won (caller_of event) (get_or old.won (caller_of event) 0 + won_by event)
    → more_back ≡ set old.back (caller_of event) (get_or old.back (caller_of event) 0 + back_by event)
    → (let v : KeptWorld = record {
      layout = layout;
      places = moved;
      won = (with_items won more_won).items;
      back =
          (with_items back more_back).items;
    } in v ≡ kept_after old event moved)
written-after old event layout won back moved more_won more_back same is_won is_back to_won to_back =
    let long_won : length more_won ≡ won.len = ap length to_won ∙ length-set old.won (caller_of event) _
    ∙ ap length (sym is_won) ∙ sym won.ok.0 in
    let long_back : length more_back ≡ back.len = ap length to_back ∙ length-set old.back (caller_of event) _
    ∙ ap length (sym is_back) ∙ sym back.ok.0 in
    let w = with_items_is won more_won long_won ∙ to_won in
    let b = with_items_is back more_back long_back ∙ to_back in
    λ i. record { layout = same i; places = moved; won = w i; back = b i }
