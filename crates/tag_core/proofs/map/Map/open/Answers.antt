-- Nobody won a tag or gave one back before a new map.
use Rattle.tag_core.proofs.Uses.{ap, get_or, List, Shape, StartsAtZero, subst, sym, ℕ, ◌∙◌}
use Rattle.tag_core.proofs.Passing.{zeros}
use Rattle.tag_core.proofs.map.Map.open.Goals as goal

pub lay_out-requires-clause-blank : goal.lay_out-requires-clause-blank
lay_out-requires-clause-blank g c = (
  λ n. ap (λ (z : List ℕ). get_or z n 0) c.of.ensures ∙ zeros 64 n,
  λ n. ap (λ (z : List ℕ). get_or z n 0) c.of-2.ensures ∙ zeros 64 n,
)

pub returns-in-Ok-clause-map : goal.returns-in-Ok-clause-map
returns-in-Ok-clause-map g c =
    let is = c.in-Ok.ensures.new.0 in record {
      layout_is = ap (λ (k : Shape). k.layout) is;
      callers_is = ap (λ (k : Shape). k.callers) is;
      life_is = ap (λ (k : Shape). k.life) is;
      starts = subst StartsAtZero (sym is) (
        λ n. ap (λ (z : List ℕ). get_or z n 0) c.of.ensures ∙ zeros 64 n,
        λ n. ap (λ (z : List ℕ). get_or z n 0) c.of-2.ensures ∙ zeros 64 n,
      );
    }
