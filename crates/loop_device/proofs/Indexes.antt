-- Where a line stands among lines that ascend.
use Rattle.loop_device.proofs.Uses.{ap, arith, at_from_Contains, Contains, Err, get_or, Io, IsBinarySearchResult, IsNonDecreasingBy, IsNonDecreasingBy-from_default, length, LinesAscend, List, nat_cmp, nat_tests, ordering_index, ranked, subst, sym, ℕ, ◌∙◌}
use Rattle.std.proofs.Common.{◌≡◌, ◌<◌, ◌≤◌}

module _ (ios : List Io) (ascend : LinesAscend ios) where
  -- a line stands at one index
  pub same_index : (i j : ℕ) (d : Io) → i < length ios → j < length ios
      → (get_or ios i d).line ≡ (get_or ios j d).line → i ≡ j
  same_index i j d low high same = grind (arith, ascend i j d, ascend j i d)

  -- the comparisons with a line rise along the lines
  comparisons_rise : (io : Io) → IsNonDecreasingBy (λ found. ordering_index (nat_cmp found.line io.line)) ios
  comparisons_rise io = IsNonDecreasingBy-from_default (λ found. ordering_index (nat_cmp found.line io.line)) ios io
      (λ i j le in_range.
      let rise : (get_or ios i io).line ≤ (get_or ios j io).line = grind (
        arith,
        ascend i j io,
        λ (same : i ≡ j). ap
            (λ k. (get_or ios k io).line) same,
      ) in
      grind (arith, nat_tests))

  -- where the line's index has another line, the line is not there
  pub absent_beside : (io : Io) (index : ℕ) → index < length ios → (get_or ios index io).line ≡ io.line
      → (get_or ios index io ≡ io → ⊥) → Contains ios io → ⊥
  absent_beside io index low same differs has =
      let h = at_from_Contains ios io has in
      let there : get_or ios h.0 io ≡ io = h.2 io in
      let here = same_index h.0 index io h.1 low (ap (λ (found : Io). found.line) there ∙ sym same) in
      differs (subst (λ k. get_or ios k io ≡ io) here there)

  -- where a search finds a gap, the line is not there
  pub absent_between : (io : Io) (gap : ℕ) → IsBinarySearchResult (λ found. nat_cmp found.line io.line) ios (Err gap)
      → Contains ios io → ⊥
  absent_between io gap parted has =
      let h = at_from_Contains ios io has in
      let there : (get_or ios h.0 io).line ≡ io.line = ap (λ (found : Io). found.line) (h.2 io) in
      let parts = parted (comparisons_rise io) in
      let below : h.0 < gap → (get_or ios h.0 io).line < io.line = λ lt. ranked _ io.line _ (sym (parts.0 h.0 io
      (omega arith) lt)) in
      let above : gap ≤ h.0 → io.line < (get_or ios h.0 io).line = λ le. ranked _ io.line _ (sym (parts.1 h.0 io le
      h.1)) in
      grind (arith, below, above)
