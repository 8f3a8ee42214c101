-- Orders carried out one after another, and the world of a plain caller.
use Rattle.tag_script.proofs.Uses.{[], ap, append-nil, IsRun, line_of, List, obeyed, ObeysAll, Order, over, Plain, plain_words, plain_world_of, pool_of, text_of, ℕ, ◌∙◌}
use Rattle.std.proofs.Common.{◌≡◌, ◌∷◌, ◌++◌}
use Rattle.std.proofs.lemmas.List.Concat.{flat_map-append}
use Rattle.tag_model.specs.declared.totals.Totals.{Totals}
use Rattle.tag_script.specs.declared.answer.Answer.{Answer}
use Rattle.tag_script.specs.declared.plain_caller.PlainCaller.{PlainCaller}

-- one more order, in the world that the earlier ones left
pub obeys_more : {W : Type 0} (answers : W → Order → Answer → W → Type 0) {old between new : W} {done : List Order}
    {said : List Answer}
    (order : Order) (answer : Answer) → ObeysAll answers old done said between → answers between order answer new
    → ObeysAll answers old (done ++ order ∷ []) (said ++ answer ∷ []) new
obeys_more answers order answer over now = obeyed now over
obeys_more answers order answer (obeyed first obeys) now = obeyed first (obeys_more answers order answer obeys now)

-- the lines of one more answer
pub text_more : (said : List Answer) (answer : Answer) → text_of (said ++ answer ∷ []) ≡ text_of said ++ line_of answer
text_more said answer = flat_map-append line_of said (answer ∷ [])
    ∙ ap (λ (t : List ℕ). text_of said ++ t) (append-nil (line_of answer))

-- the orders are carried out, and the text has the lines of their answers
pub record HasRun {W : Type 0} (answers : W → Order → Answer → W → Type 0) (orders : List Order) (first last : W)
    (text : List ℕ)
    : Type 0 where
  pub said : List Answer
  pub text_is : text ≡ text_of said
  pub obeys : ObeysAll answers first orders said last

-- a run on worlds is a run on their images, if each answer is
pub obeys_as : {A B : Type 0} (R : A → Order → Answer → A → Type 0) (S : B → Order → Answer → B → Type 0) (f : A → B)
    → ((p q : A) (order : Order) (answer : Answer) → R p order answer q → S (f p) order answer (f q))
    → {p q : A} {orders : List Order} {said : List Answer} → ObeysAll R p orders said q → ObeysAll S (f p) orders said (f q)
obeys_as R S f carry over = over
obeys_as R S f carry (obeyed {old = p} {between = q} {order = order} {answer = answer} first obeys) =
    obeyed (carry p q order answer first) (obeys_as R S f carry obeys)

-- the same, for the output of the run
pub run_as : {A B : Type 0} (S : B → Order → Answer → B → Type 0) (counts : B → Totals → Type 0) (f : A → B) (p : A)
    (orders : List Order) (text : List ℕ)
    → IsRun (λ q order answer r. S (f q) order answer (f r)) (λ q totals. counts (f q) totals) p orders text
    → IsRun S counts (f p) orders text
run_as S counts f p orders text told = record {
  said = told.said;
  last = f told.last;
  totals = told.totals;
  obeys = obeys_as (λ q order answer r. S (f q) order answer (f r)) S f (λ q r order answer h. h) told.obeys;
  counted = told.counted;
  text_is = told.text_is;
}

-- a plain caller whose words are equal has the same world
pub same_world : (p : PlainCaller) (q : Plain) → q.layout ≡ p.port.layout → plain_words q ≡ plain_words p.port
    → plain_world_of (record p { port = q }) ≡ plain_world_of p
same_world p q layout words = λ z. record {
  layout = layout z;
  least = p.least;
  pool = pool_of (words z);
  hint = p.hint;
  won = p.won;
  back = p.back;
}
