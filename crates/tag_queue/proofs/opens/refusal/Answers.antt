-- A fault of the pool becomes that of the same name, unless it is memory beside too large a cap.
use Rattle.std.specs.Prelude.{◌^◌, ◌≡◌, ◌≤◌}
use Rattle.tag_queue.proofs.Uses.{arith, inl, refl, ℕ}
use Rattle.tag_pool.specs.declared.fault.OpenFault.{OpenFault}
use Rattle.tag_pool.specs.declared.fault.OpenFault.TheVariants as pool
use Rattle.tag_queue.specs.Faults.{IsRefusal, of_pool}
use Rattle.tag_queue.specs.declared.fault.QueueOpenFault.{QueueOpenFault}
use Rattle.tag_queue.proofs.opens.refusal.Goals.{in_default-via-in-Memory+else-cap-gt-MAX_CAP, in_default-via-in_default}
use Rattle.tag_queue.proofs.opens.refusal.Goals as goal

same_name : (cap : ℕ) (fault : OpenFault) (told : QueueOpenFault) → (fault ≡ pool.Memory → cap ≤ 2 ^ 56)
    → told ≡ of_pool fault → IsRefusal cap fault told
same_name cap pool.Memory told low is = inl (low refl, is)
same_name cap pool.TotalTooLarge told low is = is
same_name cap pool.ReservedTooLarge told low is = is
same_name cap pool.ShiftTooLarge told low is = is
same_name cap pool.CallerCount told low is = is
same_name cap pool.LifeTooLong told low is = is

pub returns-in_default : goal.returns-in_default
returns-in_default c = elim c.in_default.branch [
  | in_default-via-in-Memory+else-cap-gt-MAX_CAP w ↦ let low = w.if-cap-gt-MAX_CAP.false in
      same_name c.args.cap c.args.fault c.from.result (λ is. omega arith) c.from.ensures
  | in_default-via-in_default w ↦ same_name c.args.cap c.args.fault c.from.result
      (λ is. absurd (w.in_default.not-Memory is)) c.from.ensures
]
