-- The output of orders, one after another, on any world.
use Rattle.tag_script.specs.Uses.{[], List, Order, Totals, ℕ}
use Rattle.std.specs.Prelude.{◌≡◌, ◌∷◌, ◌++◌}
use Rattle.tag_script.specs.declared.answer.Answer.{Answer}
use Rattle.tag_script.specs.Answers.{text_of}
use Rattle.tag_script.specs.Texts.{total_line}

-- the orders one after another, each answered in the world that the earlier ones left
pub data ObeysAll {W : Type 0} (answers : W → Order → Answer → W → Type 0) : W → List Order → List Answer → W
    → Type 0 where
  over : {w : W} → ObeysAll answers w [] [] w
  obeyed : {old between new : W} {order : Order} {orders : List Order} {answer : Answer} {rest : List Answer}
      → answers old order answer between → ObeysAll answers between orders rest new
      → ObeysAll answers old (order ∷ orders) (answer ∷ rest) new

-- the output of orders: the lines of their answers, and the line of the totals of the last world
pub record IsRun {W : Type 0} (answers : W → Order → Answer → W → Type 0) (counts : W → Totals → Type 0) (first : W)
    (orders : List Order) (text : List ℕ) : Type 0 where
  pub said : List Answer
  pub last : W
  pub totals : Totals
  pub obeys : ObeysAll answers first orders said last
  pub counted : counts last totals
  pub text_is : text ≡ text_of said ++ total_line totals
