-- Words in which clap finds no fault enter one of the three subcommands.
use Rattle.std.proofs.Common.{◌≡◌, ◌⊎◌, inl, inr, ℕ, Bool, true, false, not, cond, ◌&&◌, ◌||◌, List, [], ◌∷◌, Option, Some, None, is_some, find, slice_index_or, option_map, refl, sym, ap, subst, codes}
use Rattle.std.specs.Prelude.{IfSome, fold}
use Rattle.std.proofs.lemmas.Slice.Eq.{bytes_eq-Decides}
use Rattle.clap.specs.Lexer.{long_of}
use Rattle.clap.specs.declared.error.kind.ErrorKind.TheVariants.{DisplayHelp, InvalidSubcommand}
use Rattle.std.specs.Str.{bytes_eq}
use Rattle.clap.specs.Kinds.{Kinds, or_else}
use Rattle.clap.specs.Faults.{fault_of, word_fault, other_fault, step_fault, turn_fault, walk_fault, check_fault, settle_fault, defaults_fault, level_fault, entered_fault}
use Rattle.clap.specs.Simple.{App, Shape, argument_words, built, entered, label_of, names_of, rows_at, subcommand_of}
use Rattle.clap.specs.Walk.{Held, Names, Outcome, Row, Rule, Step, Text, Waiting, Walk, after_flag, after_step, answers_to, arg_by_index, finished, long_or_other, nothing_held, plain_word, settled, short_or_plain, subcommand_met, subcommand_or_other, to_positional, walk, walk_from, walked, walked_from, word_met, done, waits, plain, refused, idle, option, positional, next, trailing, subcommand, value}
use Rattle.tagplay.specs.CommandLine.{command_line, Enters, EntersOne, script}

-- the parts of a fault that is none
first_none : (xs ys : Kinds) → or_else xs ys ≡ [] → xs ≡ []
first_none [] ys e = refl
first_none (k ∷ ks) ys e = e

rest_none : (xs ys : Kinds) → or_else xs ys ≡ [] → ys ≡ []
rest_none [] ys e = e
rest_none (k ∷ ks) ys e = cc

-- the word is not `help`
abbrev IsOther : Text → Type 0
IsOther name = bytes_eq name (codes "help") ≡ false

abbrev StopsAtOther : Option (Text × List Text) → Type 0
StopsAtOther stop = IfSome stop (λ p. IsOther p.0)

-- the subcommand that a step names
abbrev named : Step → Option Text
named (next waiting) = None
named (trailing position) = None
named (subcommand name) = Some name
named value = None

abbrev NamesOther : Step → Type 0
NamesOther step = IfSome (named step) IsOther

plain_other : (c : List Rule) (waiting : Waiting) (word : Text) (h : Held) → NamesOther (plain_word c waiting word h).1
plain_other c idle word h = tt
plain_other c (option id) word h = tt
plain_other c positional word h = tt

flag_other : (c : List Rule) (waiting : Waiting) (word : Text) (h : Held) (o : Outcome)
    → NamesOther (after_flag c waiting word h o).1
flag_other c waiting word h done = tt
flag_other c waiting word h (waits id) = tt
flag_other c waiting word h plain = plain_other c waiting word h
flag_other c waiting word h refused = plain_other c waiting word h

short_other : (c : List Rule) (waiting : Waiting) (word : Text) (flags : Option Text) (h : Held)
    → NamesOther (short_or_plain c waiting word flags h).1
short_other c waiting word (Some flags) h = flag_other c waiting word _ _
short_other c waiting word None h = plain_other c waiting word h

long_other : (c : List Rule) (waiting : Waiting) (word : Text) (name : Option (Text × Option Text)) (h : Held)
    → NamesOther (long_or_other c waiting word name h).1
long_other c waiting word (Some p) h = flag_other c waiting word _ _
long_other c waiting word None h = short_other c waiting word _ h

-- a word that names `help` is a fault
other_named : (s : Shape) (name word : Text) (h : Held) → s.disable_help_subcommand ≡ false
    → other_fault s (Some name) word h ≡ [] → IsOther name
other_named s name word h on none = go (bytes_eq name (codes "help")) s.disable_help_subcommand on none
  where
    go : (is off : Bool) → off ≡ false → cond (is && not off) (DisplayHelp ∷ InvalidSubcommand ∷ []) [] ≡ []
        → is ≡ false
    go false off e f = refl
    go true true e f = cc
    go true false e f = cc

met_other : (s : Shape) (met : Option Text) (waiting : Waiting) (position : ℕ) (word : Text) (h : Held)
    → s.disable_help_subcommand ≡ false → other_fault s met word h ≡ []
    → NamesOther (subcommand_or_other s.rules met waiting position word h).1
met_other s (Some name) waiting position word h on none = other_named s name word h on none
met_other s None waiting position word h on none = go (bytes_eq word (45 ∷ 45 ∷ []))
  where
    go : (b : Bool) → NamesOther (cond b (h, trailing position) (long_or_other s.rules waiting word (long_of word) h)).1
    go true = tt
    go false = long_other s.rules waiting word (long_of word) h

word_other : (s : Shape) (names : Names) (is_trailing : Bool) (waiting : Waiting) (position : ℕ) (word : Text)
    (h : Held)
    → s.disable_help_subcommand ≡ false → word_fault s names is_trailing waiting word h ≡ []
    → NamesOther (word_met s.rules names is_trailing waiting position word h).1
word_other s names true waiting position word h on none = tt
word_other s names false waiting position word h on none =
    met_other s (subcommand_met names waiting word) waiting position word h on none

-- a step that names another leads to another
stepped : (c : List Rule) (word : Text) (w : Walk) (h : Held) (step : Step) → w.stopped ≡ None → NamesOther step
    → StopsAtOther (after_step c word w h step).stopped
stepped c word w h (next waiting) none other = subst StopsAtOther (sym none) tt
stepped c word w h (trailing position) none other = subst StopsAtOther (sym none) tt
stepped c word w h (subcommand name) none other = other
stepped c word w h value none other = go (arg_by_index c w.position)
  where
    go : (a : Option Rule) → StopsAtOther (to_positional c a word w h).stopped
    go None = subst StopsAtOther (sym none) tt
    go (Some a) = tt

turned : (s : Shape) (names : Names) (w : Walk) (word : Text) → s.disable_help_subcommand ≡ false
    → turn_fault s names w word ≡ [] → StopsAtOther w.stopped → StopsAtOther (walked s.rules names w word).stopped
unfolding walked
turned s names w word on none other = go w.stopped refl none other
  where
    met : Held × Step
    met = word_met s.rules names w.is_trailing w.waiting w.position word w.held

    go : (stopped : Option (Text × List Text)) → w.stopped ≡ stopped
        → cond (is_some stopped) [] (or_else (word_fault s names w.is_trailing w.waiting word w.held)
        (step_fault s w.position met.0 met.1)) ≡ []
        → StopsAtOther stopped → StopsAtOther (walked_from s.rules names stopped w word).stopped
    go (Some p) is none other = other
    go None is none other = stepped s.rules word w met.0 met.1 is
        (word_other s names w.is_trailing w.waiting w.position word w.held on (first_none _ _ none))

-- a walk without a fault stops at no `help`
walk_other : (s : Shape) (names : Names) (words : List Text) (w : Walk) → s.disable_help_subcommand ≡ false
    → walk_fault s names w words ≡ [] → StopsAtOther w.stopped
    → StopsAtOther (fold (walked s.rules names) w words).stopped
unfolding walk_fault
walk_other s names [] w on none other = other
walk_other s names (word ∷ words) w on none other =
    walk_other s names words (walked s.rules names w word) on (rest_none _ _ none)
    (turned s names w word on (first_none _ _ none) other)

-- the one met is one of three
abbrev IsOneOf : Shape → Shape → Shape → Option Shape → Type 0
IsOneOf a b c met = (met ≡ Some a) ⊎ ((met ≡ Some b) ⊎ (met ≡ Some c))

-- the first of four that passes is one of the first three if the last does not
among_three : (test : Shape → Bool) (a b c d : Shape) → is_some (find test (a ∷ b ∷ c ∷ d ∷ [])) ≡ true → test d ≡ false
    → IsOneOf a b c (find test (a ∷ b ∷ c ∷ d ∷ []))
among_three test a b c d some last = go (test a) (test b) (test c) (test d) some last
  where
    go : (x y z u : Bool) → is_some (cond x (Some a) (cond y (Some b) (cond z (Some c) (cond u (Some d) None)))) ≡ true
        → u ≡ false → IsOneOf a b c (cond x (Some a) (cond y (Some b) (cond z (Some c) (cond u (Some d) None))))
    go true y z u some last = inl refl
    go false true z u some last = inr (inl refl)
    go false false true u some last = inr (inr refl)
    go false false false true some last = cc
    go false false false false some last = cc

-- the command line as clap builds it
abbrev app : App
app = built command_line

-- its subcommand at this place
abbrev sub : ℕ → Shape
sub k = slice_index_or app.subs k script

-- the name of the built subcommand `help`, met the other way round
other_help : (name : Text) → IsOther name → bytes_eq (codes "help") name || false ≡ false
other_help name other = go (bytes_eq (codes "help") name) refl
  where
    go : (b : Bool) → bytes_eq (codes "help") name ≡ b → b || false ≡ false
    go true is =
        let same : bytes_eq name (codes "help") ≡ true =
        (bytes_eq-Decides name (codes "help")).1 (sym ((bytes_eq-Decides (codes "help") name).0 is)) in
        cc
    go false is = refl

-- the subcommand at which a walk stopped, of these, with its matches
abbrev met_of : List Shape → Text × List Text → Option (Text × List Row)
met_of subs p = option_map (λ s. rows_at s p.1) (find (λ s. answers_to p.0 (label_of s)) subs)

entered_among : (a b c d : Shape) (p : Text × List Text) → is_some (met_of (a ∷ b ∷ c ∷ d ∷ []) p) ≡ true
    → answers_to p.0 (label_of d) ≡ false
    → Enters (met_of (a ∷ b ∷ c ∷ d ∷ []) p) a.name
    ⊎ (Enters (met_of (a ∷ b ∷ c ∷ d ∷ []) p) b.name ⊎ Enters (met_of (a ∷ b ∷ c ∷ d ∷ []) p) c.name)
entered_among a b c d p some last = elim (among_three (λ s. answers_to p.0 (label_of s)) a b c d (found _ some) last) [
  | inl e ↦ inl (_, ap (option_map (λ s. rows_at s p.1)) e)
  | inr more ↦ elim more [
    | inl e ↦ inr (inl (_, ap (option_map (λ s. rows_at s p.1)) e))
    | inr e ↦ inr (inr (_, ap (option_map (λ s. rows_at s p.1)) e))
  ]
]
  where
    found : (o : Option Shape) → is_some (option_map (λ s. rows_at s p.1) o) ≡ true → is_some o ≡ true
    found None some = some
    found (Some s) some = refl

entered_one : (stop : Option (Text × List Text)) → is_some (entered app stop) ≡ true → StopsAtOther stop
    → EntersOne (entered app stop)
entered_one None some other = cc
entered_one (Some p) some other = entered_among (sub 0) (sub 1) (sub 2) (sub 3) p some (other_help p.0 other)

required : (rows : List Row) (has : Bool) → check_fault app.top rows has ≡ [] → has ≡ true
required rows true none = refl
required rows false none = cc

-- a level without a fault has none in its walk, and passes its last checks
level_parts : (s : Shape) (names : Names) (h : Held) (words : List Text) (has : Bool) (below : Kinds)
    → level_fault s names h words has below ≡ []
    → (walk_fault s names (walk_from h) words ≡ [])
    × (check_fault s (finished s.rules (walk s.rules names h words).held) has ≡ [])
level_parts s names h words has below none =
    let end = (walk s.rules names h words).held in
    let settle = settle_fault s.rules s.args_override_self end in
    let defaults = defaults_fault (settled s.rules end).rows s.rules in
    let check = check_fault s (finished s.rules end) has in
    let walks = walk_fault s names (walk_from h) words in
    let last = or_else settle (or_else defaults check) in (
      first_none walks (or_else below last) none,
      rest_none defaults check (rest_none settle (or_else defaults check)
          (rest_none below last (rest_none walks (or_else below last) none))),
    )

pub enters : (words : List Text) → fault_of command_line words ≡ [] → EntersOne (subcommand_of command_line words)
enters words none =
    let given = argument_words command_line words in
    let end = walk app.top.rules (names_of app) nothing_held given in
    let has = is_some (entered app end.stopped) in
    let parts = level_parts app.top (names_of app) nothing_held given has (entered_fault app end.stopped) none in
    entered_one end.stopped (required (finished app.top.rules end.held) has parts.1)
    (walk_other app.top (names_of app) given (walk_from nothing_held) refl parts.0 tt)
