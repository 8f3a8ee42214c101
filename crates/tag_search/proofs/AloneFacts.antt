-- The steps of a map's only caller are its whole history, so each finds what the caller's own earlier steps left.
use Rattle.std.specs.Prelude.{◌++◌, ◌<◌, ◌∷◌, ◌≡◌}
use Rattle.tag_search.proofs.Uses.{[], AloneBatchesChoose, AloneGetsChoose, ap, AreAlone, arith, batch_words, Bool, Cells, cells_after, cells_left, cells_of, cond, EachFinds, FindsIn, History, IsBatchChoice, IsChoice, List, own_after, Pool, pool_of, Quiet, Record, record_after, record_after_all}
use Rattle.tag_search.proofs.Uses.{refl, Shape, Step, steps_by, subst, sym, Word, Words, words_after_all, words_left, WordStep, ℕ, ◌∙◌}
use Rattle.std.proofs.lemmas.Bool.{eq-eqb}

-- the steps of a record after more steps on words
pub own_of_record : {R : Type 0} (steps : List WordStep) (r : Record R) → (record_after_all steps r).steps
    ≡ own_after steps r.steps
own_of_record [] r = refl
own_of_record (step ∷ steps) r = own_of_record steps (record_after (Word step) r)

-- each step found what the earlier ones left
abbrev pub EachFound : {R : Type 0} → List (Step R) → Type 0
EachFound [] = Unit {0}
EachFound (step ∷ older) = FindsIn step (cells_left older) × EachFound older

module _ {R : Type 0} where
  -- the newest step is caller 0's own
  own_first : (x : ℕ × Step R) (older : History R) → x.0 < 1 → steps_by 0 (x ∷ older) ≡ x.1 ∷ steps_by 0 older
  own_first x older below = ap (λ (b : Bool). cond b (x.1 ∷ steps_by 0 older) (steps_by 0 older))
      (eq-eqb x.0 0 (omega arith))

  -- a history of one caller leaves the words that the caller's own list leaves
  pub same_cells : (h : History R) → EachFinds 1 h → cells_of h ≡ cells_left (steps_by 0 h)
  same_cells [] finds = refl
  same_cells (x ∷ older) finds =
      ap (cells_after x.1) (same_cells older finds.4)
      ∙ sym (ap (λ (own : List (Step R)). cells_left own) (own_first x older finds.0))

  -- each step of the list found what the list's earlier ones left
  pub each_found : (h : History R) → EachFinds 1 h → EachFound (steps_by 0 h)
  each_found [] finds = tt
  each_found (x ∷ older) finds =
      let here = subst (λ (c : Cells). FindsIn x.1 c) (same_cells older finds.4) finds.2 in
      subst (λ (own : List (Step R)). EachFound own) (sym (own_first x older finds.0)) (here, each_found older finds.4)

  -- the same for an earlier part of the list
  found_older : (newer older : List (Step R)) → EachFound (newer ++ older) → EachFound older
  found_older [] older found = found
  found_older (step ∷ newer) older found = found_older newer older found.1

  -- steps on words in such a list are quiet from the words that the earlier ones left
  pub found_quiet : (steps : List WordStep) (older : List (Step R)) → EachFound (own_after steps older)
      → Quiet steps (words_left older) × EachFound older
  found_quiet [] older found = (tt, found)
  found_quiet (step ∷ steps) older found = let rest = found_quiet steps (Word step ∷ older) found in
      ((rest.1.0, rest.0), rest.1.1)

  -- the words that they leave
  pub left_after : (steps : List WordStep) (older : List (Step R)) → words_left (own_after steps older)
      ≡ words_after_all steps (words_left older)
  left_after [] older = refl
  left_after (step ∷ steps) older = left_after steps (Word step ∷ older)

  -- a change that quiet steps make to any pool, such steps make to what the earlier ones left
  pub found_changes : (Change : Pool → Pool → Type 0) (steps : List WordStep) (older : List (Step R))
      → EachFound (own_after steps older)
      → ((w : Words) → Quiet steps w → Change (pool_of w) (pool_of (words_after_all steps w)))
      → Change (pool_of (words_left older)) (pool_of (words_left (own_after steps older)))
  found_changes Change steps older found quietly =
      subst (λ (w : Words). Change (pool_of (words_left older)) (pool_of w)) (sym (left_after steps older))
      (quietly (words_left older) (found_quiet steps older found).0)

  -- the steps of a lone caller found what its earlier ones left
  lone_found : (k : Shape) (h : History R) (newer older : List (Step R)) (steps : List WordStep)
      → AreAlone k h newer older steps → EachFound (own_after steps older)
  lone_found k h newer older steps lone =
      let found = each_found h (subst (λ (callers : ℕ). EachFinds callers h) lone.one lone.lawful.finds) in
      found_older newer (own_after steps older) (subst (λ (all : List (Step R)). EachFound all) lone.own found)

-- a get by a lone caller
pub alone_choice : (R : Type 0) → AloneGetsChoose R
alone_choice R k h newer older steps lone l visits answer get =
    found_changes (λ p q. IsChoice l p visits answer q) steps older (lone_found k h newer older steps lone) get.alone

-- a get of several tags by a lone caller
pub alone_batch_choice : (R : Type 0) → AloneBatchesChoose R
alone_batch_choice R k h newer older steps lone l n first answer get =
    found_changes (λ p q. IsBatchChoice l n p (batch_words l first) answer q) steps older
    (lone_found k h newer older steps lone) get.alone
