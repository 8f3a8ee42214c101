-- What is read of a log with times, line after line.
use Rattle.loop_device.proofs.Uses.{[], All-push, ap, append_assoc, AreTimed, arith, Err, FailsTimed, IsTimed, IsTimedFaultOf, last_time, length, length-append, line_words, List, Log, map, names_in, names_of, NeverFall, none, Ok, Progress, progress_of, ReadsTimed, refl, Result, SaysTimed, subst, sym, TellsCause, timed, timed_entry, ℕ, ◌∙◌}
use Rattle.std.proofs.Common.{◌≡◌, ◌+◌, ◌≤◌, ◌∷◌, ◌++◌, append-nil}
use Rattle.std.specs.Prelude.{IfErr, fold}
use Rattle.std.specs.List.{All}
use Rattle.std.proofs.lemmas.List.Quantifiers.{all_pairs_push}
use Rattle.loop_device.specs.declared.fault.LogFault.{LogFault}
use Rattle.loop_device.specs.declared.timed_reader.TimedReader.{TimedReader}
use Rattle.loop_device.proofs.LogFacts.{IsReadTo, begun, read_on, finished}

-- one more line with its time
timed_more : {lines plains : List (List ℕ)} {times : List ℕ} (line plain : List ℕ) (time : ℕ)
    → AreTimed lines times plains → IsTimed line time plain
    → AreTimed (lines ++ line ∷ []) (times ++ time ∷ []) (plains ++ plain ∷ [])
timed_more line plain time none now = timed now none
timed_more line plain time (timed first more) now = timed first (timed_more line plain time more now)

-- the last of one more time
last_more : (first : ℕ) (times : List ℕ) (time : ℕ) → fold (λ last time. time) first (times ++ time ∷ []) ≡ time
last_more first [] time = refl
last_more first (t ∷ times) time = last_more t times time

-- of the lines after the header, all but `rest` have been read without their times, with this progress
pub record IsTimedTo (lines : List (List ℕ)) (p : Progress) (last : ℕ) (rest : List (List ℕ)) : Type 0 where
  pub before : List (List ℕ)
  pub times : List ℕ
  pub plain : List (List ℕ)
  pub parts : lines ≡ before ++ rest
  pub timed_are : AreTimed before times plain
  pub never_fall : NeverFall times
  pub below : All (λ t. t ≤ last) times
  pub last_is : last ≡ last_time times
  pub number : p.number ≡ length before + 2
  pub read : (future : List (List ℕ)) → IsReadTo (plain ++ future) p future

-- before the first line
pub timed_begun : (lines : List (List ℕ)) (p : Progress) (last : ℕ)
    → p ≡ record { number = 2; names = []; ios = []; waits = 0 } → last ≡ 0 → IsTimedTo lines p last lines
timed_begun lines p last e zero = record {
  before = [];
  times = [];
  plain = [];
  parts = refl;
  timed_are = none;
  never_fall = λ i j d lt small. absurd (omega (arith, small));
  below = λ k d lt. absurd (omega (arith, lt));
  last_is = zero;
  number = ap (λ q. q.number) e;
  read = λ future. begun future p e;
}

-- a line that is read goes from the rest to what was read
pub timed_on : (lines : List (List ℕ)) (old new : TimedReader) (line : List ℕ) (rest : List (List ℕ))
    → IsTimedTo lines (progress_of old.reader) old.last (line ∷ rest) → ReadsTimed old line new
    → IsTimedTo lines (progress_of new.reader) new.last rest
timed_on lines old new line rest so reads = record {
  before = so.before ++ line ∷ [];
  times = so.times ++ new.last ∷ [];
  plain = so.plain ++ reads.plain ∷ [];
  parts = so.parts ∙ sym (append_assoc so.before (line ∷ []) rest);
  timed_are = timed_more line reads.plain new.last so.timed_are reads.timed;
  never_fall = all_pairs_push (λ (a b : ℕ). a ≤ b) so.times new.last so.never_fall
      (λ k d lt. omega (arith, so.below k d lt, reads.later));
  below = All-push (λ (t : ℕ). t ≤ new.last) so.times new.last
      (λ k d lt. omega (arith, so.below k d lt, reads.later)) (omega arith);
  last_is = sym (last_more 0 so.times new.last);
  number = omega (arith, reads.reads.number, so.number, length-append so.before (line ∷ []));
  read = λ future.
      subst (λ ls. IsReadTo ls (progress_of new.reader) future) (sym (append_assoc so.plain (reads.plain ∷ []) future))
      (read_on (so.plain ++ reads.plain ∷ future) (progress_of old.reader) (progress_of new.reader) reads.plain future
      (so.read (reads.plain ∷ future)) reads.reads);
}

-- where no line is left the log has what was read
pub timed_finished : (lines : List (List ℕ)) (p : Progress) (last : ℕ) (log : Log) → IsTimedTo lines p last []
    → names_of log.names.items ≡ p.names → log.ios.items ≡ p.ios → log.waits ≡ p.waits → SaysTimed lines log
timed_finished lines p last log so names ios waits = record {
  times = so.times;
  plain = so.plain;
  timed = subst (λ ls. AreTimed ls so.times so.plain) (sym (so.parts ∙ append-nil so.before)) so.timed_are;
  never_fall = so.never_fall;
  says = finished so.plain p log (subst (λ ls. IsReadTo ls p []) (append-nil so.plain) (so.read [])) names ios waits;
}

-- a line that is not read is the first faulty one
timed_faulty : (lines : List (List ℕ)) (old : TimedReader) (line : List ℕ) (rest : List (List ℕ)) (fault : LogFault)
    → IsTimedTo lines (progress_of old.reader) old.last (line ∷ rest) → FailsTimed old line fault
    → IsTimedFaultOf lines fault
timed_faulty lines old line rest fault so fails =
    let all = subst (λ ls. IsReadTo ls (progress_of old.reader) []) (append-nil so.plain) (so.read []) in
    let names : (progress_of old.reader).names ≡ names_in [] so.plain = all.names in
    record {
      before = so.before;
      line = line;
      rest = rest;
      parts = so.parts;
      times = so.times;
      plain = so.plain;
      timed = so.timed_are;
      never_fall = so.never_fall;
      entries = all.entries;
      said = sym (sym (append-nil (map Ok all.entries)) ∙ all.said);
      number = fails.number ∙ so.number;
      cause = subst (λ n. TellsCause (timed_entry (last_time so.times) (names_in [] so.plain) n (line_words line)) fault.cause)
          (sym fails.number)
          (subst (λ ns. TellsCause (timed_entry (last_time so.times) ns (progress_of old.reader).number (line_words line))
          fault.cause) names
          (subst (λ l. TellsCause (timed_entry l (progress_of old.reader).names (progress_of old.reader).number
          (line_words line)) fault.cause) so.last_is fails.cause));
    }

-- the same where a reader tells it
pub timed_faulty_in : (lines : List (List ℕ)) (old : TimedReader) (line : List ℕ) (rest : List (List ℕ))
    (result : Result Log LogFault)
    → IsTimedTo lines (progress_of old.reader) old.last (line ∷ rest) → IfErr result (FailsTimed old line)
    → IfErr result (IsTimedFaultOf lines)
timed_faulty_in lines old line rest (Ok log) so told = tt
timed_faulty_in lines old line rest (Err fault) so told = timed_faulty lines old line rest fault so told
