-- A seat gives back all slots that it has, and takes those of its tags after the step, in order.
use Rattle.std.specs.Prelude.{◌+◌, ◌<◌, ◌∷◌, ◌≡◌, ◌≢◌, ◌≤◌}
use Rattle.tag_core.proofs.Uses.{[], Act, ap, arith, Bool, carried_after, chain, cond, dite, eq-eqb, get_elem?, gives, homes_after, keeps, length, length-set, List, map, ne_eqb, none, refl, set, set_else, set_here, some, some-injective, subst, suc, sym, tags_from, takes, Valid}
use Rattle.tag_core.proofs.Uses.{value_of, zero, ℕ, ℕ_discrete, ◌∙◌}
use mathlib.Core.Option as maybe

module _ (S : Type 0) where
  abbrev Homes : Type 0
  Homes = List (maybe.Option S)

  abbrev Held : Type 0
  Held = List (ℕ × S)

  abbrev give_all : Held → Act S
  give_all [] = keeps
  give_all (x ∷ cs) = chain gives (give_all cs)

  abbrev take_all : Held → Act S
  take_all [] = keeps
  take_all (x ∷ xs) = chain (take_all xs) (takes x.0 x.1)

  -- all slots that are carried go back, and others are taken
  abbrev pub trade : Held → Held → Act S
  trade cs xs = chain (give_all cs) (take_all xs)

  gone : (cs : Held) → carried_after cs (give_all cs) ≡ []
  gone [] = refl
  gone (x ∷ cs) = gone cs

  got : (xs : Held) → carried_after [] (take_all xs) ≡ xs
  got [] = refl
  got (x ∷ xs) = ap (λ (z : Held). x ∷ z) (got xs)

  -- what is carried after a trade
  pub traded : (cs xs : Held) → carried_after cs (trade cs xs) ≡ xs
  traded cs xs = ap (λ (z : Held). carried_after z (take_all xs)) (gone cs) ∙ got xs

  -- ---- giving back

  put_all : Homes → Held → Homes
  put_all hs [] = hs
  put_all hs (x ∷ cs) = put_all (set hs x.0 (some x.1)) cs

  given : (hs : Homes) (cs : Held) → homes_after hs cs (give_all cs) ≡ put_all hs cs
  unfolding put_all
  given hs [] = refl
  given hs (x ∷ cs) = given (set hs x.0 (some x.1)) cs

  can_give : (hs : Homes) (cs : Held) → Valid hs cs (give_all cs)
  can_give hs [] = tt
  can_give hs (x ∷ cs) = (tt, can_give (set hs x.0 (some x.1)) cs)

  put_long : (hs : Homes) (cs : Held) → length (put_all hs cs) ≡ length hs
  unfolding put_all
  put_long hs [] = refl
  put_long hs (x ∷ cs) = put_long (set hs x.0 (some x.1)) cs ∙ length-set hs x.0 (some x.1)

  -- the tag is among those from a on
  abbrev In : (ℕ → ℕ) → ℕ → ℕ → ℕ → Type 0
  In f a n t = (a ≤ t) × (t < a + n) × (f t ≡ 1)

  -- what the list has of the tag t
  record Put (hs hs' : Homes) (cs : Held) (f : ℕ → ℕ) (a n t : ℕ) : Type 0 where
    inside : In f a n t → (v : S) × (value_of cs t ≡ some v) × (get_elem? hs' t ≡ some (some v))
    outside : ¬ In f a n t → get_elem? hs' t ≡ get_elem? hs t

  -- the tags from one on, where it is among them and where it is not
  tags_here : (f : ℕ → ℕ) (a n : ℕ) → f a ≡ 1 → tags_from f a (suc n) ≡ a ∷ tags_from f (suc a) n
  tags_here f a n one = grind (arith, eq-eqb)

  tags_else : (f : ℕ → ℕ) (a n : ℕ) → f a ≢ 1 → tags_from f a (suc n) ≡ tags_from f (suc a) n
  tags_else f a n other = grind (arith, ne_eqb)

  -- a slot that goes back is at home
  put_here : (f : ℕ → ℕ) (n a t : ℕ) (hs hs' : Homes) (x : ℕ × S) (cs : Held) → f a ≡ 1 → x.0 ≡ a → a < length hs
      → Put (set hs x.0 (some x.1)) hs' cs f (suc a) n t → Put hs hs' (x ∷ cs) f a (suc n) t
  put_here f n a t hs hs' x cs one is low more =
      grind (arith, eq-eqb, ne_eqb, set_here hs x.0 (some x.1), set_else hs x.0 t (some x.1), more.inside, more.outside)

  -- a tag that the list has not changes nothing
  put_else : (f : ℕ → ℕ) (n a t : ℕ) (hs hs' : Homes) (cs : Held) → f a ≢ 1
      → Put hs hs' cs f (suc a) n t → Put hs hs' cs f a (suc n) t
  put_else f n a t hs hs' cs other more = grind (arith, more.inside, more.outside)

  puts : (f : ℕ → ℕ) (n a : ℕ) (hs : Homes) (cs : Held) → a + n ≤ length hs → map (λ x. x.0) cs ≡ tags_from f a n
      → (t : ℕ) → Put hs (put_all hs cs) cs f a n t
  unfolding put_all
  puts f zero a hs [] near e t = record { inside = λ i. absurd (omega (arith, i.0, i.1)); outside = λ _. refl }
  puts f zero a hs (x ∷ cs) near e t = absurd cc
  puts f (suc n) a hs cs near e t =
      dite (ℕ_discrete (f a) 1) (λ one. here (puts f n (suc a)) cs one (e ∙ tags_here f a n one))
      (λ other. put_else f n a t hs (put_all hs cs) cs other
      (puts f n (suc a) hs cs (omega arith) (e ∙ tags_else f a n other) t))
    where
      here : ((hs : Homes) (cs : Held) → suc a + n ≤ length hs → map (λ x. x.0) cs ≡ tags_from f (suc a) n → (t : ℕ)
          → Put hs (put_all hs cs) cs f (suc a) n t) → (cs : Held) → f a ≡ 1
          → map (λ x. x.0) cs ≡ a ∷ tags_from f (suc a) n → Put hs (put_all hs cs) cs f a (suc n) t
      here more [] one e = absurd cc
      here more (x ∷ cs) one e = let long = length-set hs x.0 (some x.1) in
          put_here f n a t hs (put_all (set hs x.0 (some x.1)) cs) x cs one (cc) (omega arith)
          (more (set hs x.0 (some x.1)) cs (omega arith) (cc) t)

  -- ---- taking

  record Taken (f : ℕ → ℕ) (a n : ℕ) (hs : Homes) : Type 0 where
    list : Held
    tags : map (λ x. x.0) list ≡ tags_from f a n
    valid : Valid hs [] (take_all list)
    here : (t : ℕ) → In f a n t
        → (v : S) × (get_elem? hs t ≡ some (some v)) × (value_of list t ≡ some v) ×
        (get_elem? (homes_after hs [] (take_all list)) t ≡ some none)
    away : (t : ℕ) → ¬ In f a n t → get_elem? (homes_after hs [] (take_all list)) t ≡ get_elem? hs t
    long : length (homes_after hs [] (take_all list)) ≡ length hs

  -- a tag from here on is this one, or one behind it
  in_more : (f : ℕ → ℕ) (a n t : ℕ) → In f (suc a) n t → In f a (suc n) t
  in_more f a n t i = grind arith

  in_less : (f : ℕ → ℕ) (a n t : ℕ) → (t ≡ a → f a ≢ 1) → In f a (suc n) t → In f (suc a) n t
  in_less f a n t other i = grind arith

  takings : (f : ℕ → ℕ) (n a : ℕ) (hs : Homes) → a + n ≤ length hs
      → ((t : ℕ) → In f a n t → (y : S) × (get_elem? hs t ≡ some (some y))) → Taken f a n hs
  takings f zero a hs near home =
      record {
        list = [];
        tags = refl;
        valid = tt;
        here = λ t i. absurd
            (omega (arith, i.0, i.1));
        away = λ t o. refl;
        long = refl;
      }
  takings f (suc n) a hs near home =
      let ih = takings f n (suc a) hs (omega arith) (λ t i. home t (in_more f a n t i)) in
      dite (ℕ_discrete (f a) 1) (one_more ih)
      (λ other. record {
        list = ih.list;
        tags = ih.tags ∙ sym (tags_else f a n other);
        valid = ih.valid;
        here = λ t i. ih.here t (in_less f a n t (λ _. other) i);
        away = λ t o. ih.away t (λ i. o (in_more f a n t i));
        long = ih.long;
      })
    where
      one_more : Taken f (suc a) n hs → f a ≡ 1 → Taken f a (suc n) hs
      one_more ih one =
          let mine = home a (omega arith, omega arith, one) in
          let hs1 : Homes = homes_after hs [] (take_all ih.list) in
          let wide : length hs1 ≡ length hs = ih.long in
          let still : get_elem? hs1 a ≡ some (some mine.0) = ih.away a (λ i. let g = i.0 in absurd (omega arith))
          ∙ mine.1 in record {
            list = (a, mine.0) ∷ ih.list;
            tags = ap (λ (l : List ℕ). a ∷ l) ih.tags ∙ sym (tags_here f a n one);
            valid = (ih.valid, still);
            here = λ t i. dite (ℕ_discrete t a)
                (λ (same : t ≡ a). (
                  mine.0,
                  ap (get_elem? hs) same ∙ mine.1,
                  ap (λ (b : Bool). cond b (some mine.0) (value_of ih.list t)) (eq-eqb a t (sym same)),
                  ap (get_elem? (set hs1 a none)) same ∙ set_here hs1 a none (omega arith),
                ))
                (λ (ne : t ≢ a). let w = ih.here t (in_less f a n t (λ e. absurd (ne e)) i) in (
                  w.0,
                  w.1,
                  ap (λ (b : Bool). cond b (some mine.0) (value_of ih.list t))
                      (ne_eqb a t (λ (z : a ≡ t). ne (sym z))) ∙ w.2,
                  set_else hs1 a t none ne ∙ w.3,
                ));
            away = λ t o. let ne : t ≢ a = (λ (z : t ≡ a). o (omega arith, omega arith, ap f z ∙ one)) in
                set_else hs1 a t none ne ∙ ih.away t (λ i. o (in_more f a n t i));
            long = length-set hs1 a none ∙ ih.long;
          }

  -- ---- both

  -- what is carried and what is at home after an act by which the tags carried are those of f' and no more those of f
  pub record Moved (f f' : ℕ → ℕ) (n : ℕ) (hs : Homes) (cs : Held) : Type 0 where
    pub act : Act S
    pub list : Held
    pub valid : Valid hs cs act
    pub list_is : carried_after cs act ≡ list
    pub tags : map (λ x. x.0) list ≡ tags_from f' 0 n
    pub out : (t : ℕ) → t < n → f' t ≡ 1 → get_elem? (homes_after hs cs act) t ≡ some none
    pub returned : (t : ℕ) → t < n → f t ≡ 1 → f' t ≢ 1
        → (v : S) × (value_of cs t ≡ some v) × (get_elem? (homes_after hs cs act) t ≡ some (some v))
    pub same : (t : ℕ) → t < n → f t ≢ 1 → f' t ≢ 1 → get_elem? (homes_after hs cs act) t ≡ get_elem? hs t
    pub kept : (t : ℕ) → t < n → f t ≡ 1 → f' t ≡ 1 → (v : S) × (value_of cs t ≡ some v) × (value_of list t ≡ some v)
    pub taken : (t : ℕ) → t < n → f t ≢ 1 → f' t ≡ 1 → (v : S) × (get_elem? hs t ≡ some (some v))
        × (value_of list t ≡ some v)
    pub long : length (homes_after hs cs act) ≡ length hs

  -- there is such an act where the slots to be taken are at home
  pub moves : (f f' : ℕ → ℕ) (n : ℕ) (hs : Homes) (cs : Held) → n ≤ length hs → map (λ x. x.0) cs ≡ tags_from f 0 n
      → ((t : ℕ) → t < n → f t ≢ 1 → f' t ≡ 1 → (y : S) × (get_elem? hs t ≡ some (some y))) → Moved f f' n hs cs
  moves f f' n hs cs near e home =
      let hs1 : Homes = put_all hs cs in
      let p : (t : ℕ) → Put hs hs1 cs f 0 n t = puts f n 0 hs cs (omega arith) e in
      let in_all : (g : ℕ → ℕ) (t : ℕ) → t < n → g t ≡ 1 → In g 0 n t = (λ g t l o. (omega arith, omega arith, o)) in
      let off : (g : ℕ → ℕ) (t : ℕ) → g t ≢ 1 → ¬ In g 0 n t = (λ g t o i. o i.2) in
      let k = takings f' n 0 hs1 (let wide : length (put_all hs cs) ≡ length hs = put_long hs cs in omega arith)
      (λ t i. let l : t < n = omega (arith, i.1) in dite (ℕ_discrete (f t) 1)
      (λ (one : f t ≡ 1). let w = (p t).inside (in_all f t l one) in (w.0, w.2))
      (λ (no : f t ≢ 1). let w = home t l no i.2 in (w.0, (p t).outside (off f t no) ∙ w.1))) in
      let after : homes_after hs cs (trade cs k.list) ≡ homes_after hs1 [] (take_all k.list) =
      (λ i. homes_after (given hs cs i) (gone cs i) (take_all k.list)) in record {
        act = trade cs k.list;
        list = k.list;
        valid = (
          can_give hs cs,
          subst (λ (z : Homes × Held). Valid z.0 z.1 (take_all k.list))
              (λ i. (sym (given hs cs) i, sym (gone cs) i)) k.valid,
        );
        list_is = traded cs k.list;
        tags = k.tags;
        out = λ t l o. ap (λ (z : Homes). get_elem? z t) after ∙ (k.here t (in_all f' t l o)).3;
        returned = λ t l o no. let w = (p t).inside (in_all f t l o) in
            (w.0, w.1, ap (λ (z : Homes). get_elem? z t) after ∙ k.away t (off f' t no) ∙ w.2);
        same = λ t l no no'. ap (λ (z : Homes). get_elem? z t) after ∙ k.away t (off f' t no')
            ∙ (p t).outside (off f t no);
        kept = λ t l o o'. let w = (p t).inside (in_all f t l o) in let g = k.here t (in_all f' t l o') in
            let one : g.0 ≡ w.0 = some-injective g.0 w.0 (some-injective (some g.0) (some w.0) (sym g.1 ∙ w.2)) in
            (w.0, w.1, g.2 ∙ ap some one);
        taken = λ t l no o'. let g = k.here t (in_all f' t l o') in (g.0, sym ((p t).outside (off f t no)) ∙ g.1, g.2);
        long = ap length after ∙ k.long ∙ put_long hs cs;
      }
