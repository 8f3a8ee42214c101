-- One line more submitted.
use Rattle.loop_device.proofs.Uses.{[], ap, arith, get_or, Io, length, List, Queue, share_of, State, Submits, subst, sym, take, TakesTurns, ℕ, ◌∙◌}
use Rattle.std.proofs.Common.{◌≡◌, ◌≢◌, ◌+◌, ◌%◌, ◌<◌, ◌∷◌, ◌++◌}
use Rattle.loop_device.proofs.Turns.{one_more, share_with, share_without}

some_line : (ios : List Io) → 0 < length ios → Io
some_line [] low = absurd (omega arith)
some_line (io ∷ ios) low = io

module _ (tags : Queue ℕ) (room : ℕ) (items ios : List Io) (same : items ≡ ios) (number submitters index : ℕ)
    (low : index < length items) (first mid : State)
    (so_far : TakesTurns (Submits tags room ios) (share_of number submitters (take index ios)) first mid) where
  within : index < length ios
  within = subst (λ (l : List Io). index < length l) same low

  -- a line of another submitter
  pub passed_over : index % submitters ≢ number
      → TakesTurns (Submits tags room ios) (share_of number submitters (take (index + 1) ios)) first mid
  passed_over other =
      let low = within in
      subst (λ (lines : List ℕ). TakesTurns (Submits tags room ios) lines first mid)
      (sym (share_without number submitters ios index (some_line ios (omega arith)) low other)) so_far

  -- a line of this one
  pub submits_more : (d : Io) → index % submitters ≡ number → (last : State)
      → Submits tags room ios (get_or items index d).line mid last
      → TakesTurns (Submits tags room ios) (share_of number submitters (take (index + 1) ios)) first last
  submits_more d mine last turn =
      let joined = share_with number submitters ios index d within mine
      ∙ ap (λ (l : List Io). share_of number submitters (take index ios) ++ (get_or l index d).line ∷ []) (sym same) in
      subst (λ (lines : List ℕ). TakesTurns (Submits tags room ios) lines first last) (sym joined)
      (one_more (Submits tags room ios) (share_of number submitters (take index ios)) (get_or items index d).line
      first mid last so_far turn)
