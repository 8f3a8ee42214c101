-- Lists of steps by one caller alone, one after the other.
use Rattle.std.specs.Prelude.{◌++◌, ◌∷◌, ◌≡◌}
use Rattle.tag_search.specs.Uses.{[], ap, List, Quiet, refl, subst, sym, Words, words_after, words_after_all, WordStep, ◌∙◌}
use Rattle.tag_search.specs.Plain.{Plain, plain_words, RunsAlone}

-- the words after a concatenation are those after the second list, from those after the first
pub words_after-append : (xs ys : List WordStep) (w : Words)
    → words_after_all (xs ++ ys) w ≡ words_after_all ys (words_after_all xs w)
words_after-append [] ys w = refl
words_after-append (x ∷ xs) ys w = words_after-append xs ys (words_after x w)

-- two quiet lists, the second from where the first ended, make up a quiet list
pub quiet-append : (xs ys : List WordStep) (w : Words) → Quiet xs w
    → Quiet ys (words_after_all xs w) → Quiet (xs ++ ys) w
quiet-append [] ys w quiet more = more
quiet-append (x ∷ xs) ys w quiet more = (quiet.0, quiet-append xs ys (words_after x w) quiet.1 more)

-- the empty list of steps leads from a state to itself
pub runs_nothing : (p : Plain) → RunsAlone p [] p
runs_nothing p = record { layout = refl; quiet = tt; leaves = refl }

-- the steps of two calls in a row
pub runs_on : (p q r : Plain) (xs ys : List WordStep) → RunsAlone p xs q → RunsAlone q ys r → RunsAlone p (xs ++ ys) r
runs_on p q r xs ys a b = record {
  layout = b.layout ∙ a.layout;
  quiet = quiet-append xs ys (plain_words p) a.quiet (subst (Quiet ys) a.leaves b.quiet);
  leaves = b.leaves ∙ ap (words_after_all ys) a.leaves ∙ sym (words_after-append xs ys (plain_words p));
}
