-- Runs of two lists, and of one event more.
use Rattle.std.specs.Prelude.{◌++◌, ◌+◌, ◌∷◌, ◌≡◌}
use Rattle.tag_model.proofs.Uses.{[], after, after_all, ap, append_assoc, arith, callers_of, Event, Happens, IsFirstFault, KeptWorld, Layout, length, length-append, List, MayHappen, MayRun, Ran, refl, StopsAt, subst, sym, World, world_of, ℕ, ◌∙◌}
use Rattle.tag_model.specs.declared.event.EventFault.{EventFault}
use Rattle.tag_model.specs.Laws.{RunsJoin}

module _ (l : Layout) where
  pub after_all-append : (first second : List Event) (w : World)
      → after_all l (first ++ second) w ≡ after_all l second (after_all l first w)
  after_all-append [] second w = refl
  after_all-append (event ∷ first) second w = after_all-append first second (after l event w)

  module _ (callers : ℕ) where
    pub may_run-append : (first second : List Event) (w : World) → MayRun l callers w first
        → MayRun l callers (after_all l first w) second → MayRun l callers w (first ++ second)
    may_run-append [] second w one two = two
    may_run-append (event ∷ first) second w one two = (one.0, may_run-append first second (after l event w) one.1 two)

    pub may_run-first : (first second : List Event) (w : World) → MayRun l callers w (first ++ second)
        → MayRun l callers w first
    may_run-first [] second w run = tt
    may_run-first (event ∷ first) second w run = (run.0, may_run-first first second (after l event w) run.1)

    pub may_run-second : (first second : List Event) (w : World) → MayRun l callers w (first ++ second)
        → MayRun l callers (after_all l first w) second
    may_run-second [] second w run = run
    may_run-second (event ∷ first) second w run = may_run-second first second (after l event w) run.1

    stops_in_first : (first second : List Event) (w : World) (place : ℕ) (fault : EventFault)
        → StopsAt l callers w first place fault → StopsAt l callers w (first ++ second) place fault
    stops_in_first first second w place fault stop = record {
      before = stop.before;
      event = stop.event;
      rest = stop.rest ++ second;
      parts = ap (λ (xs : List Event). xs ++ second) stop.parts
          ∙ append_assoc stop.before (stop.event ∷ stop.rest) second;
      index_is = stop.index_is;
      may_run = stop.may_run;
      fault_is = stop.fault_is;
    }

    stops_in_second :
        (first second : List Event) (w : World) (place : ℕ) (fault : EventFault) → MayRun l callers w first
        → StopsAt l callers (after_all l first w) second place fault
        → StopsAt l callers w (first ++ second) (length first + place) fault
    stops_in_second first second w place fault run stop = record {
      before = first ++ stop.before;
      event = stop.event;
      rest = stop.rest;
      parts = ap (λ (xs : List Event). first ++ xs) stop.parts
          ∙ sym (append_assoc first stop.before (stop.event ∷ stop.rest));
      index_is = ap (λ (n : ℕ). length first + n) stop.index_is ∙ sym (length-append first stop.before);
      may_run = may_run-append first stop.before w run stop.may_run;
      fault_is = subst (λ (v : World). IsFirstFault l callers v stop.event fault)
          (sym (after_all-append first stop.before w)) stop.fault_is;
    }

    pub joins : (w : World) (first second : List Event) → RunsJoin l callers w first second
    joins w first second = record {
      world = after_all-append first second w;
      may_run = (
        λ run. (may_run-first first second w run, may_run-second first second w run),
        λ runs. may_run-append
            first second w runs.0 runs.1,
      );
      stops_in_first = stops_in_first first second w;
      stops_in_second = stops_in_second first second w;
    }

-- nothing that can happen has a fault
pub may-has_no_fault : (l : Layout) (callers : ℕ) (w : World) (event : Event) (fault : EventFault)
    → MayHappen l callers w event → IsFirstFault l callers w event fault → ⊥
may-has_no_fault l callers w event fault may not = grind (arith, may.places)

-- a run and one event more
module _ (old now : KeptWorld) (before : List Event) (event : Event) (ran : Ran old before now) where
  pub ran-more : (new : KeptWorld) → Happens now event new → Ran old (before ++ event ∷ []) new
  ran-more new happens =
      let layout = ran.setup.layout in let callers = ran.setup.callers in let world = ran.world in
      let may : MayHappen old.layout (callers_of old) (after_all old.layout before (world_of old)) event =
      subst (λ (x : Layout × ℕ × World). MayHappen x.0 x.1 x.2 event) (λ j. (layout j, callers j, world j))
      happens.could in
      record {
        setup = record { layout = happens.setup.layout ∙ layout; callers = happens.setup.callers ∙ callers };
        could = may_run-append old.layout (callers_of old) before (event ∷ []) (world_of old) ran.could (may, tt);
        world =
            happens.world ∙ ap (λ (l : Layout). after l event (world_of now)) layout ∙ ap (after old.layout event) world
            ∙ sym (after_all-append old.layout before (event ∷ []) (world_of old));
      }

  fault-moved : (fault : EventFault) → IsFirstFault now.layout (callers_of now) (world_of now) event fault
      → IsFirstFault old.layout (callers_of old) (after_all old.layout before (world_of old)) event fault
  fault-moved fault is =
      subst (λ (x : Layout × ℕ × World). IsFirstFault x.0 x.1 x.2 event fault)
      (λ j. (ran.setup.layout j, ran.setup.callers j, ran.world j)) is

  pub stops-here : (rest : List Event) (fault : EventFault)
      → IsFirstFault now.layout (callers_of now) (world_of now) event fault
      → StopsAt old.layout (callers_of old) (world_of old) (before ++ event ∷ rest) (length before) fault
  stops-here rest fault is = record {
    before = before;
    event = event;
    rest = rest;
    parts = refl;
    index_is = refl;
    may_run = ran.could;
    fault_is = fault-moved fault is;
  }

  pub cannot-stop : (rest : List Event) (fault : EventFault)
      → MayRun old.layout (callers_of old) (world_of old) (before ++ event ∷ rest)
      → IsFirstFault now.layout (callers_of now) (world_of now) event fault → ⊥
  cannot-stop rest fault may is =
      may-has_no_fault old.layout (callers_of old) (after_all old.layout before (world_of old)) event fault
      (may_run-second old.layout (callers_of old) before (event ∷ rest) (world_of old) may).0 (fault-moved fault is)
