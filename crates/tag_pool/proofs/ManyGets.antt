-- One get after another: what the hand gains by them together, and that it holds what it held once it gave them back.
use Rattle.std.specs.Prelude.{◌*◌, ◌+◌, ◌++◌, ◌-◌, ◌<◌, ◌^◌, ◌∷◌, ◌≡◌, ◌≢◌, ◌≤◌}
use Rattle.tag_pool.proofs.Uses.{[], All-push, ap, AreHeldOnce, arith, Contains, Contains-append_left, Contains-get_or, Contains-push, Contains-push_cases, get_or, Gets, Hand, Holds, HoldsLess, HoldsMore, HoldsSame, inl, inr, length, List, min, mul-le-mul_right, None, Option, Ordinary, Pool, refl, reserved_of, Shape, Some, subst, suc, sym, total_of, whole, ℕ, ⊎_elim, ◌∙◌}
use Rattle.std.proofs.Math.Nat.{mul-suc, suc-mul}
use Rattle.std.proofs.lemmas.List.Quantifiers.{all_pairs_push}
use Rattle.tag_search.specs.Gains.{count_of}
use Rattle.tag_pool.specs.Gets.{left_free}
use Rattle.tag_pool.specs.Hands.{HasRoom}
use Rattle.tag_pool.specs.Many.{FallsShort, GivesBackAny, WinsInTurn, WinsMany}
use Rattle.tag_pool.proofs.Numbering.{ordinary_at}
use Rattle.tag_pool.proofs.WaitsKeep.{found_none}

module _ {R : Type 0} (pool : Pool R) where
  -- one more get after the others
  turn_more : (tags : List ℕ) (tag left : ℕ) (old mid new : Hand R) → WinsInTurn pool tags left old mid
      → Gets pool Ordinary (Some tag) mid new
      → WinsInTurn pool (tags ++ tag ∷ []) (left + left_free Ordinary mid new) old new
  turn_more [] tag left old mid new won got =
      subst (λ (h : Hand R). WinsInTurn pool (tag ∷ []) (left + left_free Ordinary mid new) h new) won.1
      (new, 0, got, (refl, refl), let none = won.0 in omega arith)
  turn_more (first ∷ tags) tag left old mid new won got = (
    won.0,
    won.1 + left_free Ordinary mid new,
    won.2,
    turn_more tags tag won.1 won.0 mid new won.3 got,
    (let sum = won.4 in omega arith),
  )

  module _ (tags : List ℕ) (tag left : ℕ) (old mid new : Hand R) (won : WinsMany pool tags left old mid)
      (got : Gets pool Ordinary (Some tag) mid new) where
    -- the tag won is none of those won before, which the hand holds
    other_tag : (t : ℕ) → Contains tags t → t ≢ tag
    other_tag t in_list e = got.more.fresh tag refl (subst (λ (x : ℕ). Holds mid x) e (won.more.joined t in_list))

    gains_more : HoldsMore (Contains (tags ++ tag ∷ [])) old new
    gains_more = record {
      fresh = λ t c. ⊎_elim (λ before. won.more.fresh t before)
          (λ is. λ had. got.more.fresh tag refl (subst (λ (x : ℕ). Holds mid x) (sym is) (won.more.kept t had).0))
          (Contains-push_cases tags tag t c);
      joined = λ t c. ⊎_elim (λ before. (got.more.kept t (won.more.joined t before)).0)
          (λ is. got.more.joined t (sym is)) (Contains-push_cases tags tag t c);
      kept = λ t has. let x = won.more.kept t has in let y = got.more.kept t x.0 in (y.0, y.1 ∙ x.1);
      none_else = λ t has. ⊎_elim
          (λ was. ⊎_elim (λ before. inl before) (λ c. inr (Contains-append_left tags (tag ∷ []) t c)) (won.more.none_else t was))
          (λ is. inr (subst (Contains (tags ++ tag ∷ [])) (sym is) (Contains-push tags tag)))
          (got.more.none_else t has);
    }

    pub one_more : WinsMany pool (tags ++ tag ∷ []) (left + left_free Ordinary mid new) old new
    one_more = record {
      more = gains_more;
      ordinary = All-push (λ t. (reserved_of pool ≤ t) × (t < total_of pool)) tags tag won.ordinary
          (let is = got.tag tag refl in ((ordinary_at (reserved_of pool) tag is.1).above, is.0));
      distinct = all_pairs_push (λ a b. a ≢ b) tags tag won.distinct
          (λ k d low. other_tag (get_or tags k d) (Contains-get_or tags k d low));
      gets = turn_more tags tag left old mid new won.gets got;
    }

  -- a get that won a tag leaves room for one fewer
  some_number : (first tag : ℕ) (number : Option ℕ) → Some tag ≡ whole first number → count_of number ≡ 1
  some_number first tag None e = absurd cc
  some_number first tag (Some n) e = refl

  pub room_left : (n tag : ℕ) (old new : Hand R) → Gets pool Ordinary (Some tag) old new → HasRoom old Ordinary (1 + n)
      → HasRoom new Ordinary n
  room_left n tag old new got room = let gains = got.set.changed.searches.gains in
      let life = ap (λ (k : Shape). k.life) gains.shape in let count = gains.count in
      let one = some_number (reserved_of pool) tag got.number got.answer_is in omega arith

  module _ (won : List ℕ) (between : ℕ) (old full tried : Hand R) (wins : WinsMany pool won between old full)
      (none : Gets pool Ordinary None full tried) where
    -- a get that found none leaves the hand what it had won
    pub held_once : AreHeldOnce tried won
    held_once = (
      λ k d low. ((found_none pool Ordinary full tried none).same.kept (get_or won k d)
          (wins.more.joined (get_or won k d) (Contains-get_or won k d low))).0,
      wins.distinct,
    )

    -- so once it gave that back it holds what it held
    held_again : (new : Hand R) → HoldsLess (Contains won) tried new → HoldsSame old new
    held_again new less = let same = (found_none pool Ordinary full tried none).same in record {
      kept = λ t has. let x = wins.more.kept t has in let y = same.kept t x.0 in
          let z = less.kept t (λ c. wins.more.fresh t c has) y.0 in (z.0, z.1 ∙ y.1 ∙ x.1);
      none_else = λ t has. ⊎_elim (λ was. was) (λ c. absurd (less.gone t c has))
          (wins.more.none_else t (same.none_else t (less.none_else t has)));
    }

    pub falls_short : (n left : ℕ) (new : Hand R) → length won < n → GivesBackAny pool won tried new
        → left ≡ min (between + left_free Ordinary full tried + length won) (2 ^ 64 - 1)
        → FallsShort pool n left old new
    falls_short n left new few gives left_is = record {
      won = won;
      few = few;
      between = between;
      full = full;
      wins = wins;
      tried = tried;
      none = none;
      gives = gives;
      left_is = left_is;
      same = held_again new gives.less;
    }

-- the sum of what was left so far, as far as a word counts it
pub sum_more : (left sum here now : ℕ) → left ≡ min sum (2 ^ 64 - 1) → now ≡ min (left + here) (2 ^ 64 - 1)
    → now ≡ min (sum + here) (2 ^ 64 - 1)
sum_more left sum here now is more = omega arith

-- the steps of one more get, and of one that found none and of what followed it
pub steps_more : (i most mid new old : ℕ) → mid ≤ i * most + old → new ≤ most + mid → new ≤ (i + 1) * most + old
steps_more i most mid new old so more =
    let one : (i + 1) * most ≡ suc i * most = ap (λ (n : ℕ). n * most) (let e : i + 1 ≡ suc i = omega arith in e) in
    let split = suc-mul i most in omega arith

pub steps_short : (n i most tried new old : ℕ) → i < n → tried ≤ (i + 1) * most + old → new ≤ i + tried
    → new ≤ n * (most + 1) + old
steps_short n i most tried new old low so few =
    let less = mul-le-mul_right most (let l : i + 1 ≤ n = omega arith in l) in
    let one : n * (most + 1) ≡ n * suc most = ap (λ (m : ℕ). n * m) (let e : most + 1 ≡ suc most = omega arith in e) in
    let split = mul-suc n most in omega arith
