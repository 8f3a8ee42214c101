-- A meeting of hands wins nothing and gives nothing back.
use Rattle.tag_cache.proofs.Uses.{arith, Hand, Ordinary, Reserved}
use Rattle.tag_pool.specs.Holding.{IsUnchanged}
use Rattle.tag_cache.proofs.Steady.{Rests}
use Rattle.tag_cache.proofs.Tallying.{record_rests}

module _ {R : Type 0} where
  pub meets_rests : (a b : Hand R) → IsUnchanged a b → Rests a b
  meets_rests a b u = let o = record_rests a.ordinary b.ordinary (u.sets Ordinary).caller.known in
      let r = record_rests a.reserved b.reserved (u.sets Reserved).caller.known in
      let ow = o.won_is in let ob = o.back_is in let rw = r.won_is in let rb = r.back_is in record {
        held = u.same;
        moves = record { won_is = omega arith; back_is = omega arith };
      }
