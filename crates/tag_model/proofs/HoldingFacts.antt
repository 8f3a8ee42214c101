-- One change of the tags that are held after another, and changes of nothing.
use Rattle.std.specs.Prelude.{ℕ, ◌↔◌}
use Rattle.std.proofs.Common.{inl, inr, refl, ⊎_elim, ◌∙◌}
use Rattle.tag_model.specs.Holding.{Holding, HoldsLess, HoldsMore, HoldsSame}

module _ {Owner Value : Type 0} {by : Holding Owner Value} where
  pub same_itself : (a : Owner) → HoldsSame by a a
  same_itself a = record { kept = λ tag has. (has, refl); none_else = λ tag has. has }

  module _ {a b c : Owner} where
    pub same_then_same : HoldsSame by a b → HoldsSame by b c → HoldsSame by a c
    same_then_same s t = record {
      kept = λ tag has. let x = s.kept tag has in let y = t.kept tag x.0 in (y.0, y.1 ∙ x.1);
      none_else = λ tag has. s.none_else tag (t.none_else tag has);
    }

    module _ {named : ℕ → Type 0} where
      pub same_then_less : HoldsSame by a b → HoldsLess by named b c → HoldsLess by named a c
      same_then_less s l = record {
        gone = l.gone;
        kept = λ tag no has. let x = s.kept tag has in let y = l.kept tag no x.0 in (y.0, y.1 ∙ x.1);
        none_else = λ tag has. s.none_else tag (l.none_else tag has);
      }

      pub less_then_same : HoldsLess by named a b → HoldsSame by b c → HoldsLess by named a c
      less_then_same l s = record {
        gone = λ tag is has. l.gone tag is (s.none_else tag has);
        kept = λ tag no has. let x = l.kept tag no has in let y = s.kept tag x.0 in (y.0, y.1 ∙ x.1);
        none_else = λ tag has. l.none_else tag (s.none_else tag has);
      }

      pub same_then_more : HoldsSame by a b → HoldsMore by named b c → HoldsMore by named a c
      same_then_more s m = record {
        fresh = λ tag is has. m.fresh tag is (s.kept tag has).0;
        joined = m.joined;
        kept = λ tag has. let x = s.kept tag has in let y = m.kept tag x.0 in (y.0, y.1 ∙ x.1);
        none_else = λ tag has. ⊎_elim (λ was. inl (s.none_else tag was)) (λ is. inr is) (m.none_else tag has);
      }

      pub more_then_same : HoldsMore by named a b → HoldsSame by b c → HoldsMore by named a c
      more_then_same m s = record {
        fresh = m.fresh;
        joined = λ tag is. (s.kept tag (m.joined tag is)).0;
        kept = λ tag has. let x = m.kept tag has in let y = s.kept tag x.0 in (y.0, y.1 ∙ x.1);
        none_else = λ tag has. m.none_else tag (s.none_else tag has);
      }

  -- the same tags, named in another way
  module _ {a b : Owner} {P Q : ℕ → Type 0} (like : (tag : ℕ) → P tag ↔ Q tag) where
    pub less_like : HoldsLess by P a b → HoldsLess by Q a b
    less_like l = record {
      gone = λ tag is. l.gone tag ((like tag).1 is);
      kept = λ tag no. l.kept tag (λ is. no ((like tag).0 is));
      none_else = l.none_else;
    }

    pub more_like : HoldsMore by P a b → HoldsMore by Q a b
    more_like m = record {
      fresh = λ tag is. m.fresh tag ((like tag).1 is);
      joined = λ tag is. m.joined tag ((like tag).1 is);
      kept = m.kept;
      none_else = λ tag has. ⊎_elim (λ was. inl was) (λ is. inr ((like tag).0 is)) (m.none_else tag has);
    }
