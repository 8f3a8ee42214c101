-- What a call adds to the counts of one side of a hand: tags won and tags given back.
use Rattle.std.proofs.Common.{◌≡◌, ℕ, ◌+◌, suc, List, [], ◌∷◌, Option, refl, sym, ap, ◌∙◌, subst, arith}
use Rattle.tag_board.proofs.Uses.{Layout, Record, Word, Look, LookAside, record_of, record_after, count_of, count_of_run, Visit, Side, caller_in, hint_in, Run, record_after_runs, MakesLooks, looks_from}
use Rattle.tag_search.specs.Shared.{record_after_all}
use Rattle.tag_pool.specs.Runs.{Gives}
use Rattle.tag_pool.specs.Sides.{GetsBatch, Misses, Posts, Puts, Searches, Takes}

-- the record counts this many more tags won and given back than the other, for the same caller
pub record Counts {R : Type 0} (won back : ℕ) (old new : Record R) : Type 0 where
  pub won_is : new.won ≡ old.won + won
  pub back_is : new.back ≡ old.back + back

-- the side counts this many more tags, and its round robin is unchanged
pub record Tallies {R : Type 0} (won back : ℕ) (old new : Side R) : Type 0 where
  pub counts : Counts won back (record_of (caller_in old)) (record_of (caller_in new))
  pub round : (hint_in new).round_robin ≡ (hint_in old).round_robin

module _ {R : Type 0} where
  pub nothing_counted : (r : Record R) → Counts 0 0 r r
  nothing_counted r = record { won_is = omega arith; back_is = omega arith }

  -- looks add nothing to the counts
  looks_count : (found : List (ℕ × ℕ)) (word : ℕ) (r : Record R)
      → Counts 0 0 r (record_after_all (looks_from word found) r)
  looks_count [] word r = nothing_counted r
  looks_count (pair ∷ found) word r =
      let s : Record R = record_after (Word (LookAside word pair.1)) (record_after (Word (Look word pair.0)) r) in
      let rest = looks_count found (suc word) s in let won = rest.won_is in let back = rest.back_is in
      record { won_is = omega arith; back_is = omega arith }

  runs_won : (runs : List Run) (r : Record R) → (record_after_runs runs r).won ≡ r.won
  runs_won [] r = refl
  runs_won (run ∷ runs) r = let rest = runs_won runs r in omega arith

  module _ (l : Layout) (old new : Side R) where
    pub searches : (visits : List Visit) (answer : Option ℕ)
        → Searches l visits answer (caller_in old) (caller_in new) (hint_in old) (hint_in new)
        → Tallies (count_of answer) 0 old new
    searches visits answer s = let back = s.gains.back in record {
      counts = record { won_is = s.gains.count; back_is = omega arith };
      round = s.hint.round_robin;
    }

    pub gets_batch : (n : ℕ) (answer : Option (ℕ × ℕ)) → GetsBatch l n answer old new
        → Tallies (count_of_run answer) 0 old new
    gets_batch n answer g = let back = g.gains.back in record {
      counts = record { won_is = g.gains.count; back_is = omega arith };
      round = g.hint.round_robin;
    }

    pub puts : (tag : ℕ) → Puts l tag old new → Tallies 0 1 old new
    puts tag p = record {
      counts = record {
        won_is = ap (λ (r : Record R). r.won) p.put.known;
        back_is = ap (λ (r : Record R). r.back) p.put.known;
      };
      round = p.hint.round_robin;
    }

    pub gives : (tags : List ℕ) (n : ℕ) → (record_of (caller_in new)).back ≡ (record_of (caller_in old)).back + n
        → Gives l tags old new → Tallies 0 n old new
    gives tags n back g =
        let won = ap (λ (r : Record R). r.won) g.gives.known ∙ runs_won g.gives.runs (record_of (caller_in old)) in
        record {
          counts = record { won_is = omega arith; back_is = back };
          round = g.hint.round_robin;
        }

  module _ (old new : Side R) where
    -- what the side counts, where one step or more led to this record and its hint is unchanged
    counted : (won back : ℕ) (after : Record R) → record_of (caller_in new) ≡ after
        → Counts won back (record_of (caller_in old)) after → hint_in new ≡ hint_in old → Tallies won back old new
    counted won back after known counts hint = record {
      counts = subst (λ (r : Record R). Counts won back (record_of (caller_in old)) r) (sym known) counts;
      round = ap (λ h. h.round_robin) hint;
    }

    pub finds : (found : List (ℕ × ℕ)) → MakesLooks (looks_from 0 found) old new → Tallies 0 0 old new
    finds found f = counted 0 0 _ f.known (looks_count found 0 (record_of (caller_in old))) f.hint

    pub posts : (tag note : ℕ) → Posts tag note old new → Tallies 0 0 old new
    posts tag note p = counted 0 0 _ p.step.known record { won_is = refl; back_is = refl } p.hint

    pub takes : (tag : ℕ) → Takes tag old new → Tallies 0 0 old new
    takes tag t = counted 0 0 _ t.step.known record { won_is = refl; back_is = refl } t.hint

    pub misses : (tag : ℕ) → Misses tag old new → Tallies 0 0 old new
    misses tag m = counted 0 0 _ m.step.known record { won_is = refl; back_is = refl } m.hint
