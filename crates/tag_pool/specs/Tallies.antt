-- How many tags a hand has won and given back.
use Rattle.std.specs.Prelude.{◌+◌}
use Rattle.tag_pool.specs.Uses.{record_of, ℕ}
use Rattle.tag_pool.specs.declared.hand.Hand.{Hand}
use Rattle.tag_pool.specs.declared.kind.Kind.{Kind}
use Rattle.tag_pool.specs.declared.kind.Kind.TheVariants.{Ordinary, Reserved}
use Rattle.tag_pool.specs.Hands.{back_of, caller_of}

-- the number of tags of a set that the hand has won
abbrev pub won_of : {R : Type 0} → Hand R → Kind → ℕ
won_of hand kind = (record_of (caller_of hand kind)).won

-- the number of tags of both sets that the hand has won
abbrev pub won_in_both : {R : Type 0} → Hand R → ℕ
won_in_both hand = won_of hand Ordinary + won_of hand Reserved

-- the number of tags of both sets that the hand has given back
abbrev pub back_in_both : {R : Type 0} → Hand R → ℕ
back_in_both hand = back_of hand Ordinary + back_of hand Reserved
