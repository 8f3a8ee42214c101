-- Hands are unchanged by the checks of a resize, so a resize of them is one of the hands passed in.
use Rattle.std.specs.Prelude.{◌∷◌, ◌≡◌}
use Rattle.tag_pool.proofs.Uses.{[], arith, Caller, Hand, Kind, length-map, List, Ordinary, Pool, Record, refl, Reserved, subst, suc, sym, ℕ, ◌∙◌}
use Rattle.step_ledger.proofs.Seats.{within}
use Rattle.tag_core.proofs.Entries.{entry, entry_of_map}
use Rattle.tag_core.specs.Callers as core
use Rattle.tag_model.proofs.HoldingFacts.{same_then_same}
use Rattle.tag_pool.specs.Gathering.{callers_of, shape_of}
use Rattle.tag_pool.specs.Hands.{caller_of}
use Rattle.tag_pool.specs.Holding.{IsUnchanged}
use Rattle.tag_pool.specs.Resizing.{GoesOnAfter, hints_of, IsResized}
use Rattle.tag_pool.specs.Using.{AreUnchanged}
use Rattle.tag_pool.proofs.NextMaps.{leads_after, reopened_after}
use Rattle.tag_pool.proofs.Unchanged.{unchanged-numbers, unchanged-records}

module _ {R : Type 0} where
  caller_trans : (a b c : Caller R) → core.IsUnchanged a b → core.IsUnchanged b c → core.IsUnchanged a c
  caller_trans a b c ab bc = record {
    known = bc.known ∙ ab.known;
    slots = λ tag. bc.slots tag ∙ ab.slots tag;
    same_map = bc.same_map ∙ ab.same_map;
  }

  callers_trans : (olds mids news : List (Caller R)) → core.AreUnchanged olds mids → core.AreUnchanged mids news
      → core.AreUnchanged olds news
  callers_trans olds mids news first then = record {
    count = then.count ∙ first.count;
    each = λ n a c p q.
        let low = within olds n a p in let long = first.count in let mid = entry mids n (omega arith) in
        caller_trans a mid.0 c (first.each n a mid.0 p mid.1) (then.each n mid.0 c mid.1 q);
  }

  one_trans : (a b c : Hand R) → IsUnchanged a b → IsUnchanged b c → IsUnchanged a c
  one_trans a b c ab bc = record {
    same = same_then_same ab.same bc.same;
    sets = λ kind. record {
      caller = caller_trans (caller_of a kind) (caller_of b kind) (caller_of c kind) (ab.sets kind).caller
          (bc.sets kind).caller;
      holds = λ tag. let x = (ab.sets kind).holds tag in let y = (bc.sets kind).holds tag in
          ((λ h. x.0 (y.0 h)), (λ h. y.1 (x.1 h)));
      hint = (bc.sets kind).hint ∙ (ab.sets kind).hint;
    };
    split = bc.split ∙ ab.split;
  }

  pub unchanged-trans : (olds mids news : List (Hand R)) → AreUnchanged olds mids → AreUnchanged mids news
      → AreUnchanged olds news
  unchanged-trans olds mids news first then = record {
    count = then.count ∙ first.count;
    each = λ n a c p q.
        let low = within olds n a p in let long = first.count in let mid = entry mids n (omega arith) in
        one_trans a mid.0 c (first.each n a mid.0 p mid.1) (then.each n mid.0 c mid.1 q);
  }

  -- the callers of unchanged hands are unchanged
  unchanged-callers : (olds news : List (Hand R)) → AreUnchanged olds news → (kind : Kind)
      → core.AreUnchanged (callers_of olds kind) (callers_of news kind)
  unchanged-callers olds news same kind = record {
    count = length-map news (part kind) ∙ same.count ∙ sym (length-map olds (part kind));
    each = λ n x y p q.
        let a = entry_of_map (part kind) olds n x p in let b = entry_of_map (part kind) news n y q in
        subst (λ (z : Caller R × Caller R). core.IsUnchanged z.0 z.1) (λ j. (a.2 j, b.2 j))
        ((same.each n a.0 b.0 a.1 b.1).sets kind).caller;
  }
    where
      part : Kind → Hand R → Caller R
      part kind hand = caller_of hand kind

  -- and their hints are the same
  unchanged-hints : (olds news : List (Hand R)) → AreUnchanged olds news → (kind : Kind)
      → hints_of news kind ≡ hints_of olds kind
  unchanged-hints [] [] same kind = refl
  unchanged-hints [] (b ∷ news) same kind = let e = same.count in absurd (omega arith)
  unchanged-hints (a ∷ olds) [] same kind = let e = same.count in absurd (omega arith)
  unchanged-hints (a ∷ olds) (b ∷ news) same kind = let e = same.count in
      (λ j. ((same.each 0 a b refl refl).sets kind).hint j
      ∷ unchanged-hints olds news record { count = omega arith; each = λ n x y p q. same.each (suc n) x y p q } kind j)

  -- a resize of unchanged hands is a resize of the hands before
  pub resized_from : (pool : Pool R) (olds mids : List (Hand R)) (total : ℕ) (new : Pool R) (resized : List (Hand R))
      → AreUnchanged olds mids → IsResized pool mids total new resized → IsResized pool olds total new resized
  resized_from pool olds mids total new resized same is = record {
    rest = is.rest;
    ordinary = record {
      next = is.ordinary.next;
      goes_on = subst (λ (z : List (Record R)). GoesOnAfter (shape_of pool Ordinary) z (shape_of new Ordinary))
          (unchanged-records olds mids same Ordinary) is.ordinary.goes_on;
      callers = reopened_after new.ordinary (callers_of olds Ordinary) (callers_of mids Ordinary)
          (callers_of resized Ordinary) (unchanged-callers olds mids same Ordinary) is.ordinary.callers;
      own = is.ordinary.own;
      leads = leads_after pool.ordinary new.ordinary (callers_of olds Ordinary) (callers_of mids Ordinary)
          (unchanged-callers olds mids same Ordinary) is.ordinary.leads;
      free = is.ordinary.free;
    };
    reserved_callers = callers_trans (callers_of olds Reserved) (callers_of mids Reserved) (callers_of resized Reserved)
        (unchanged-callers olds mids same Reserved) is.reserved_callers;
    hints = λ kind. is.hints kind ∙ unchanged-hints olds mids same kind;
    numbers = is.numbers ∙ unchanged-numbers olds mids same;
    own = is.own;
  }
