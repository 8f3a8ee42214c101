-- How often lines are carried out, item after item.
use Rattle.loop_device.proofs.Uses.{[], AllWithin, ap, AreOfLog, arith, CarriesEachOnce, common_steps, Contains, count_by-le-length, count_by_more_no, count_by_more_yes, Done, ext_get_or, get_or, get_or-map, get_or_default, get_or_default_zero, HoldsAt, Io, IsLost, IsTwice, length, length-map, LinesAscend, List, map, nat_tests, refl, replicate, set, subst, sym, take, times, ℕ, ◌∙◌}
use Rattle.std.proofs.Common.{◌≡◌, ◌≢◌, ◌<◌, ◌≤◌, ◌+◌, ◌==◌, ◌∷◌}
use Rattle.std.specs.List.{All}
use Rattle.loop_device.proofs.Indexes.{same_index}

-- how often each line is carried out
abbrev pub tallied : List Io → List Done → List ℕ
tallied ios done = map (λ io. times done io.line) ios

module _ (done : List Done) (i : ℕ) (d : Done) (low : i < length done) where
  -- an item is one more of its line
  times_same : (line : ℕ) → (get_or done i d).io.line ≡ line → times (take (i + 1) done) line ≡ times (take i done)
      line + 1
  times_same line same = count_by_more_yes (λ (e : Done). e.io.line == line) done i d low (grind (arith, nat_tests))

  -- and none more of another
  times_other : (line : ℕ) → (get_or done i d).io.line ≢ line
      → times (take (i + 1) done) line ≡ times (take i done) line
  times_other line other = count_by_more_no (λ (e : Done). e.io.line == line) done i d low (grind (arith, nat_tests))

  -- the count at the item's index grows by one, and the others stay
  pub counted : (ios : List Io) → LinesAscend ios → (index : ℕ) → index < length ios
      → HoldsAt (λ found. found ≡ (get_or done i d).io) ios index
      → (counts : List ℕ) → counts ≡ tallied ios (take i done)
      → set counts index (get_or counts index 0 + 1) ≡ tallied ios (take (i + 1) done)
  counted ios ascend index within at counts are =
      let e = (get_or done i d).io in let before = tallied ios (take i done) in
      let after = tallied ios (take (i + 1) done) in
      let size : length before ≡ length ios = length-map ios (λ io. times (take i done) io.line) in
      let size' : length after ≡ length ios = length-map ios (λ io. times (take (i + 1) done) io.line) in
      let line_here : e.line ≡ (get_or ios index e).line = ap (λ (io : Io). io.line) (sym (at e)) in
      rw are (ext_get_or 0 _ _ (grind (arith, common_steps, size, size')) (λ k lt.
      let within' : k < length ios = grind (arith, common_steps, size) in
      let line = (get_or ios k e).line in
      let old : get_or before k 0 ≡ times (take i done) line =
      get_or-map (λ (io : Io). times (take i done) io.line) ios k e 0 within' in
      let new : get_or after k 0 ≡ times (take (i + 1) done) line =
      get_or-map (λ (io : Io). times (take (i + 1) done) io.line) ios k e 0 within' in
      let alone = same_index ios ascend k index e within' within in
      grind (arith, common_steps, old, new, line_here, alone, size, times_same line, times_other line)))

zeros : (ios : List Io) → replicate (length ios) 0 ≡ tallied ios []
zeros [] = refl
zeros (io ∷ ios) = ap (λ rest. 0 ∷ rest) (zeros ios)

-- before the first item each count is 0
pub none_yet : (ios : List Io) (counts : List ℕ) → counts ≡ replicate (length ios) 0 → counts ≡ tallied ios []
none_yet ios counts are = are ∙ zeros ios

-- there is a count for each line
pub count_at : (ios : List Io) (done : List Done) (counts : List ℕ) → counts ≡ tallied ios done
    → length counts ≡ length ios
count_at ios done counts are = ap length are ∙ length-map ios (λ io. times done io.line)

-- the count that was read at an index
pub read_count : (ios : List Io) (done : List Done) (counts : List ℕ) → counts ≡ tallied ios done → (index : ℕ)
    → index < length ios → (value : ℕ) → value ≡ get_or counts index value → value ≡ get_or counts index 0
read_count ios done counts are index low value is = is ∙ get_or_default_zero counts index value (omega (
  arith,
  low,
  count_at ios done counts are,
))

-- no line is counted more often than there are items
pub counts_few : (ios : List Io) (done : List Done) (i : ℕ) (counts : List ℕ) → counts ≡ tallied ios (take i done)
    → (index : ℕ) → index < length ios
    → i ≤ length done → (value : ℕ) → value ≡ get_or counts index value → value ≤ i
counts_few [] done i counts are index low within value is = absurd (omega arith)
counts_few (io ∷ ios) done i counts are index low within value is =
    let read = read_count (io ∷ ios) (take i done) counts are index low value is ∙ ap (λ xs. get_or xs index 0) are
    ∙ get_or-map (λ (io : Io). times (take i done) io.line) (io ∷ ios) index io 0 low in
    let most = count_by-le-length (λ (e : Done). e.io.line == (get_or (io ∷ ios) index io).line) (take i done) in
    grind (arith, common_steps, read, most)

-- what a count at an index says of the line there
module _ (ios : List Io) (ascend : LinesAscend ios) (done : List Done) (counts : List ℕ) (are : counts ≡ tallied ios
    done) where
  count_is : (index : ℕ) (d : Io) → index < length ios → get_or counts index 0 ≡ times done (get_or ios index d).line
  count_is index d low = ap (λ xs. get_or xs index 0) are ∙ get_or-map (λ (io : Io). times done io.line) ios index d
      0 low

  -- a line below another stands before it
  line_below : (k index : ℕ) (d e : Io) → k < length ios → index < length ios
      → (get_or ios k d).line < (get_or ios index e).line → k < index
  line_below k index d e low within less =
      let there = ap (λ (io : Io). io.line) (get_or_default ios index e d within) in
      grind (arith, there, ascend index k d, λ (same : k ≡ index). ap (λ j. (get_or ios j d).line) same)

  -- what holds of all counts holds of how often each line is carried out
  pub of_counts : (P : ℕ → Type 0) → All P counts → All (λ io. P (times done io.line)) ios
  of_counts P all k d low = subst P (count_is k d low) (all k 0 (omega (arith, low, count_at ios done counts are)))

  -- what holds of the counts before an index holds of the lines below its line
  pub of_counts_before : (P : ℕ → Type 0) (index : ℕ) (e : Io) → index < length ios → AllWithin P counts 0 index
      → All (λ io. io.line < (get_or ios index e).line → P (times done io.line)) ios
  of_counts_before P index e within before k d low less =
      let earlier : k < index = line_below k index d e low within less in
      subst P (count_is k d low) (before k 0 (omega arith) earlier)

  -- the line at an index is among the lines
  among : (index : ℕ) (io : Io) → index < length ios → io ≡ get_or ios index io
      → Contains (map (λ io. io.line) ios) io.line
  among index io low is = (
    index,
    omega (arith, low, length-map ios (λ (io : Io). io.line)),
    get_or-map (λ (io : Io). io.line) ios index io io.line low ∙ ap (λ (io : Io). io.line) (sym is),
  )

  -- the line at the index, where its count is above 1 and none before it is
  pub is_twice : AreOfLog ios done → (index : ℕ) (io : Io) → index < length ios → io ≡ get_or ios index io
      → 1 < get_or counts index 0
      → AllWithin (λ n. n ≤ 1) counts 0 index → IsTwice ios done io.line
  is_twice known index io low is twice before = record {
    known = known;
    among = among index io low is;
    twice = let t : get_or counts index 0 ≡ times done io.line = count_is index io low ∙ ap (λ (io : Io). times done
        io.line) (sym is) in omega (arith, t, twice);
    least = subst (λ (e : Io). All (λ io. io.line < e.line → times done io.line ≤ 1) ios) (sym is) (of_counts_before
        (λ n. n ≤ 1) index io low before);
  }

  -- the line at the index, where its count is 0 and none before it is
  pub is_lost : AreOfLog ios done → All (λ n. n ≤ 1) counts → (index : ℕ) (io : Io) → index < length ios
      → io ≡ get_or ios index io → get_or counts index 0 ≡ 0
      → AllWithin (λ n. 0 < n) counts 0 index → IsLost ios done io.line
  is_lost known few index io low is lost before = record {
    known = known;
    none_twice = of_counts (λ n. n ≤ 1) few;
    among = among index io low is;
    lost = sym (count_is index io low ∙ ap (λ (io : Io). times done io.line) (sym is)) ∙ lost;
    least = subst (λ (e : Io). All (λ io. io.line < e.line → 0 < times done io.line) ios) (sym is) (of_counts_before
        (λ n. 0 < n) index io low before);
  }

  -- each line is carried out once, where each count is 1
  pub is_once : AreOfLog ios done → All (λ n. n ≤ 1) counts → All (λ n. 0 < n) counts → CarriesEachOnce ios done
  is_once known few some = record {
    known = known;
    once = λ k d low. let f = of_counts (λ n. n ≤ 1) few k d low in let s = of_counts (λ n. 0 < n) some k d low in
        omega (arith, f, s);
  }
