-- The tag has its own number in one of the two sets, so the get there is the get of this tag alone.
use Rattle.std.specs.Prelude.{◌≡◌}
use Rattle.tag_pool.proofs.Uses.{arith, Kind, Option, Ordinary, Reserved, reserved_of, rules, subst, sym, with_side, ℕ}
use Rattle.tag_pool.specs.Exact.{GetsExactly}
use Rattle.tag_pool.specs.Gets.{left_free}
use Rattle.tag_pool.specs.Hands.{HasRoom}
use Rattle.tag_pool.proofs.ExactGets.{exact_of, in_ordinary, in_reserved}
use Rattle.tag_pool.proofs.Getting.{whole_reserved}
use Rattle.tag_pool.proofs.pool.Pool.get_exactly_quietly.Goals as goal

pub returns-then-tag-self-clause-does : goal.returns-then-tag-self-clause-does
returns-then-tag-self-clause-does g c = let pool = c.args.self.now in let hand = c.args.hand.now in
    let new = c.get_exactly.new.self in let answer = c.in-Ok.found.answer in
    let is = in_reserved (reserved_of pool) c.args.tag c.if-tag-self.true in record {
      refusals = record {
        first = tt;
        passes = (
          c.in_ok-find.ensures.refusals.passes.0,
          (
            subst (λ (kind : Kind). HasRoom hand kind 1) is.kind_is
                (c.get_exactly.ensures.room.0 (search rules)),
            tt,
          ),
        );
        same = tt;
      };
      gets = subst (λ (o : Option ℕ). GetsExactly pool c.args.tag o hand (with_side hand Reserved new))
          (sym (whole_reserved answer)) (exact_of pool hand c.requires.hand c.args.tag _ Reserved is new
          c.get_exactly.ensures.side.0 answer c.in-Ok.ensures.gets);
      left = subst (λ (k : Kind). c.in-Ok.found.left ≡ left_free k hand (with_side hand Reserved new)) is.kind_is
          c.in-Ok.ensures.left;
      bound = let most = c.get_exactly.ensures.bound in omega arith;
    }

pub returns-clause-does : goal.returns-clause-does
returns-clause-does g c = let pool = c.args.self.now in let hand = c.args.hand.now in
    let new = c.get_exactly-2.new.self in let found = c.in-Ok-get_exactly in
    let is = in_ordinary (reserved_of pool) c.args.tag c.if-tag-self.false in record {
      refusals = record {
        first = tt;
        passes = (
          c.in_ok-find.ensures.refusals.passes.0,
          (
            subst (λ (kind : Kind). HasRoom hand kind 1) is.kind_is
                (c.get_exactly-2.ensures.room.0 (search rules)),
            tt,
          ),
        );
        same = tt;
      };
      gets = subst (λ (o : Option ℕ). GetsExactly pool c.args.tag o hand (with_side hand Ordinary new))
          (sym c.ordinary_tag-answer.ensures) (exact_of pool hand c.requires.hand c.args.tag _ Ordinary is new
          c.get_exactly-2.ensures.side.0 found.field-0.answer found.ensures.gets);
      left = subst (λ (k : Kind). found.field-0.left ≡ left_free k hand (with_side hand Ordinary new)) is.kind_is
          found.ensures.left;
      bound = let most = c.get_exactly-2.ensures.bound in omega arith;
    }
