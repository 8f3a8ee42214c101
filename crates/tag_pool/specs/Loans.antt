-- Hands whose callers lend their records, so that all hands of a pool are together for a while.
use Rattle.tag_pool.specs.Uses.{List}
use Rattle.tag_core.specs.Lending as core
use Rattle.tag_core.specs.declared.loans.Loans.{Loans}
use Rattle.tag_core.specs.declared.record.Record.{Record}
use Rattle.tag_pool.specs.declared.hand.Hand.{Hand}
use Rattle.tag_pool.specs.declared.kind.Kind.{Kind}
use Rattle.tag_pool.specs.declared.kind.Kind.TheVariants.{Ordinary, Reserved}
use Rattle.tag_pool.specs.declared.loans.LentSide.{LentSide}
use Rattle.tag_pool.specs.declared.loans.LentHand.{LentHand}
use Rattle.tag_pool.specs.declared.loans.Lent.{Lent}
use Rattle.tag_pool.specs.declared.pool.Pool.{Pool}
use Rattle.tag_pool.specs.declared.side.Side.{Side}
use Rattle.tag_pool.specs.Sets.{InBoth}
use Rattle.tag_pool.specs.Hands.{map_of}

-- the side as it was when its caller lent its record
abbrev pub side_before : {R : Type 0} → LentSide R → Side R
side_before lent = lent.was.value

-- the hand as it was when its callers lent their records
abbrev pub hand_before : {R : Type 0} → LentHand R → Hand R
hand_before lent = record {
  reserved_count = lent.reserved_count;
  reserved = side_before lent.reserved;
  ordinary = side_before lent.ordinary;
}

-- the loans of a set
abbrev pub loans_of : {R : Type 0} → Lent R → Kind → Loans R
loans_of lent Ordinary = lent.ordinary
loans_of lent Reserved = lent.reserved

-- the records lent in a set, the latest first
abbrev pub lent_of : {R : Type 0} → Lent R → Kind → List (Record R)
lent_of lent kind = core.lent (loans_of lent kind)

-- hands of this pool lent them
abbrev pub AreLoansOf : {R : Type 0} → Pool R → Lent R → Type 0
AreLoansOf pool lent = InBoth (λ kind. core.AreLoansOf (map_of pool kind) (loans_of lent kind))
