-- What a reader has given after several reads, and when reading stops.
use Rattle.std.proofs.Common.{◌≡◌, ◌≢◌, ℕ, ◌+◌, ◌<◌, ◌≤◌, List, [], ◌∷◌, ◌++◌, length, Option, Some, None, refl, sym, ap, ◌∙◌, append_assoc, arith}
use Rattle.std.proofs.lemmas.List.{length-append}
use Rattle.std.specs.Io.KnownBytes.{Consumes}
use Rattle.tag_lines.specs.declared.lines.TheConstants.{MAX_INPUT}
use Rattle.tag_runs.specs.declared.fault.RunFault.{RunFault}
use Rattle.tag_runs.specs.declared.fault.RunFault.TheVariants.{TooLong}
use Rattle.tag_runs.specs.Input.{ReadsAll, StopsReading}

-- two reads in a row give the concatenation of their bytes
pub consumes_both : (before between after : Option (List ℕ)) (front part : List ℕ)
    → Consumes before between front → Consumes between after part → Consumes before after (front ++ part)
consumes_both None between after front part first second = tt
consumes_both (Some xs) None after front part first second = absurd first
consumes_both (Some xs) (Some ys) None front part first second = absurd second
consumes_both (Some xs) (Some ys) (Some zs) front part first second =
    first ∙ ap (λ rest. front ++ rest) second ∙ sym (append_assoc front part zs)

-- a second read that gives nothing adds nothing
pub consumes_once : (before between after : Option (List ℕ)) (front part : List ℕ)
    → Consumes before between front → Consumes between after part → length part ≡ 0 → Consumes before after front
consumes_once None between after front part first second none = tt
consumes_once (Some xs) None after front part first second none = absurd first
consumes_once (Some xs) (Some ys) None front part first second none = absurd second
consumes_once (Some xs) (Some ys) (Some zs) front [] first second none = first ∙ ap (λ rest. front ++ rest) second
consumes_once (Some xs) (Some ys) (Some zs) front (b ∷ part) first second none = absurd (omega arith)

-- bytes within the size limit, and a fault other than `TooLong`
pub stops_short : (fault : RunFault) (before after : Option (List ℕ)) (bytes : List ℕ)
    → ReadsAll before after bytes → fault ≢ TooLong → StopsReading fault before after
stops_short fault before after bytes reads other = record {
  taken = bytes;
  consumed = reads.consumed;
  too_long = (λ e. absurd (other e), λ long. absurd (omega (arith, reads.short, long)));
}

-- two reads that together exceed the size limit stop with `TooLong`
pub stops_long : (before between after : Option (List ℕ)) (front part : List ℕ)
    → Consumes before between front → Consumes between after part → MAX_INPUT < length front + length part
    → StopsReading TooLong before after
stops_long before between after front part first second long = record {
  taken = front ++ part;
  consumed = consumes_both before between after front part first second;
  too_long = (λ e. rw (length-append front part) long, λ more. refl);
}

-- two reads that together stay within the size limit
pub reads_both : (before between after : Option (List ℕ)) (front part : List ℕ)
    → Consumes before between front → Consumes between after part → length front + length part ≤ MAX_INPUT
    → ReadsAll before after (front ++ part)
reads_both before between after front part first second short = record {
  consumed = consumes_both before between after front part first second;
  short = rw (length-append front part) short;
}
