-- Tags that are given back.
use Rattle.tag_cache.proofs.Uses.{[], ap, AreOrdinary, arith, back_of, bit_from, Cache, Contains, count_of, count_ones, dite, get_or, GivesBatch, GivesKept, GivesList, GivesOne, Hand, HoldsSame, IsIn, IsKept, KeepsNone, kept_tags, length, List, one_in-tags, Ordinary}
use Rattle.tag_cache.proofs.Uses.{place_one, Pool, Record, record_of, refl, reused_of, subst, sym, tags_in, tags_in-length, tags_in-one, Tallies, won_of, ℕ, ℕ_discrete, ◌∙◌}
use Rattle.std.specs.Prelude.{All, ◌+◌, ◌<◌, ◌^◌, ◌↔◌, ◌∷◌, ◌≡◌, ◌≢◌, ◌≤◌}
use Rattle.std.proofs.lemmas.List.Elements.{Contains-get_or}
use Rattle.tag_pool.specs.Runs.{Run, record_after_runs}
use Rattle.tag_pool.specs.Sides as side
use Rattle.tag_pool.specs.Hands as hands
use Rattle.tag_pool.specs.Holding as hand_holding
use Rattle.tag_cache.proofs.Below.{held_below}
use Rattle.tag_cache.proofs.Reusing.{no_count, none_kept}
use Rattle.tag_cache.proofs.Steady.{rests_unchanged}
use Rattle.tag_cache.proofs.Windows.{none_in}
use Rattle.tag_cache.proofs.Tallying.{Moves, clears_moves, rests as rests_side}

-- the list of a mask has exactly the tags of its window, and as many as the mask has bits
pub listed_in : (first mask : ℕ) → mask < 2 ^ 64 → (tag : ℕ) → Contains (tags_in first mask) tag ↔ IsIn first mask tag
listed_in first mask fits tag = (
  (λ c. place_one first mask tag (tags_in-one first mask fits tag c)),
  (λ i. one_in-tags first mask fits tag (bit_from first mask tag i.0 ∙ i.1)),
)

-- runs of freed tags win nothing
runs_win : {R : Type 0} (runs : List Run) (r : Record R) → (record_after_runs runs r).won ≡ r.won
runs_win [] r = refl
runs_win (run ∷ runs) r = let rest = runs_win runs r in
    let one : (record_after_runs (run ∷ runs) r).won ≡ (record_after_runs runs r).won + 0 = refl in omega arith

module _ {R : Type 0} (pool : Pool R) where
  pub gives_moves : (tag : ℕ) (a b : Hand R) → GivesOne pool tag a b → Moves 0 1 a b
  gives_moves tag a b g = clears_moves pool tag a b g.clears

  pub list_moves : (list : List ℕ) (a b : Hand R) → GivesList pool list a b → Moves 0 (length list) a b
  list_moves list a b g = let known = g.gives.set.changed.gives.known in
      let runs = runs_win g.gives.set.changed.gives.runs (record_of (side.caller_of a.ordinary)) in
      let won : won_of b Ordinary ≡ won_of a Ordinary = ap (λ (r : Record R). r.won) known ∙ runs in
      let back = g.back in let r = rests_side a.reserved b.reserved g.gives.set.other in
      let rw = r.won_is in let rb = r.back_is in record { won_is = omega arith; back_is = omega arith }

  -- what is said of a mask is said of the list of its tags
  pub mask_gives : (first mask : ℕ) → mask < 2 ^ 64 → (a b : Hand R) → GivesBatch pool (tags_in first mask) a b
      → back_of b Ordinary ≡ back_of a Ordinary + count_ones mask → GivesList pool (tags_in first mask) a b
  mask_gives first mask fits a b gives back = let count = tags_in-length first mask fits in
      record { gives = gives; back = omega arith }

  -- the kept tags are in the list of them, and no others
  pub kept_in : (cache : Cache R) (tag : ℕ) → Contains (kept_tags cache) tag ↔ IsKept cache tag
  kept_in cache tag = listed_in cache.first cache.kept cache.wide.0 tag

  pub kept_count : (cache : Cache R) → length (kept_tags cache) ≡ count_of cache
  kept_count cache = tags_in-length cache.first cache.kept cache.wide.0

  -- either nothing is kept, or the kept tags went back together
  pub by_kept : (P : Type 0) (cache : Cache R) (a b : Hand R) → GivesKept pool cache a b
      → (KeepsNone cache → b ≡ a → P) → (GivesList pool (kept_tags cache) a b → P) → P
  by_kept P cache a b g none some = dite (ℕ_discrete cache.kept 0)
      (λ (e : cache.kept ≡ 0). let empty : KeepsNone cache = λ tag k. none_in cache.first cache.kept tag e k in
      none empty (g.none empty))
      (λ (ne : cache.kept ≢ 0). some (g.some (λ n. ne (none_kept cache n))))

  -- as many tags were given back as were kept, and none won
  pub kept_moves : (cache : Cache R) (a b : Hand R) → GivesKept pool cache a b → Moves 0 (count_of cache) a b
  kept_moves cache a b g = by_kept (Moves 0 (count_of cache) a b) cache a b g
      (λ none same. subst (λ (n : ℕ). Moves 0 n a b) (sym (no_count cache none)) (rests_unchanged a b same).moves)
      (λ l. subst (λ (n : ℕ). Moves 0 n a b) (kept_count cache) (list_moves (kept_tags cache) a b l))

  -- all of them ordinary ones
  pub kept_back : (cache : Cache R) (a b : Hand R) → GivesKept pool cache a b
      → back_of b Ordinary ≡ back_of a Ordinary + count_of cache
  kept_back cache a b g = by_kept (back_of b Ordinary ≡ back_of a Ordinary + count_of cache) cache a b g
      (λ none same. let zero = no_count cache none in let e = ap (λ (h : Hand R). back_of h Ordinary) same in omega arith)
      (λ l. let count = kept_count cache in let back = l.back in omega arith)

  -- the hand holds the kept tags no more, and keeps all others
  pub kept_less : (cache : Cache R) (a b : Hand R) → GivesKept pool cache a b → hand_holding.HoldsLess (IsKept cache) a b
  kept_less cache a b g = by_kept (hand_holding.HoldsLess (IsKept cache) a b) cache a b g
      (λ none same. record {
        gone = λ tag k. absurd (none tag k);
        kept = λ tag n h. (
          subst (λ (x : Hand R). hands.Holds x tag) (sym same) h,
          ap (λ (x : Hand R). hands.slot_of x tag) same,
        );
        none_else = λ tag h. subst (λ (x : Hand R). hands.Holds x tag) same h;
      })
      (λ l. let less = l.gives.less in record {
        gone = λ tag k. less.gone tag ((kept_in cache tag).1 k);
        kept = λ tag n h. less.kept tag (λ c. n ((kept_in cache tag).0 c)) h;
        none_else = less.none_else;
      })

  -- the user's tags stay if exactly the kept ones go
  pub flushed : (old new : Cache R) → GivesKept pool old old.hand new.hand → KeepsNone new → HoldsSame old new
  flushed old new g none = let less = kept_less old old.hand new.hand g in record {
    kept = λ tag h. let x = less.kept tag h.1 h.0 in ((x.0, none tag), x.1);
    none_else = λ tag h. (less.none_else tag h.0, λ k. less.gone tag k h.0);
  }

  -- a tag that was kept and went back is counted as before
  pub flush_tallies : (old new : Cache R) → GivesKept pool old old.hand new.hand → KeepsNone new
      → reused_of new ≡ reused_of old → Tallies 0 0 old new
  flush_tallies old new g none reused = let m = kept_moves old old.hand new.hand g in
      let won = m.won_is in let back = m.back_is in let zero = no_count new none in
      record { handed = omega arith; taken = omega arith }

module _ {R : Type 0} (cache : Cache R) where
  -- the hand holds the kept tags, which are ordinary
  pub kept_held : All (hands.Holds cache.hand) (kept_tags cache)
  kept_held k d l = (cache.own (get_or (kept_tags cache) k d)
      ((kept_in_list (get_or (kept_tags cache) k d)) (Contains-get_or (kept_tags cache) k d l))).0
    where
      kept_in_list : (tag : ℕ) → Contains (kept_tags cache) tag → IsKept cache tag
      kept_in_list tag = (listed_in cache.first cache.kept cache.wide.0 tag).0

  pub kept_ordinary : (pool : Pool R) → hands.IsHandOf pool cache.hand → AreOrdinary pool (kept_tags cache)
  kept_ordinary pool own k d l = let tag = get_or (kept_tags cache) k d in
      let mine = cache.own tag ((listed_in cache.first cache.kept cache.wide.0 tag).0
      (Contains-get_or (kept_tags cache) k d l)) in
      (subst (λ (s : ℕ). s ≤ tag) own.2 mine.1, held_below pool cache.hand tag own mine.0)
