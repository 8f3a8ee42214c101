-- Where each number is among those of the records, a record of each number is among them.
use Rattle.tag_core.proofs.Uses.{gathered, has_record}
use Rattle.tag_core.proofs.map.Map.finish.Goals as goal

pub end-requires-clause-all : goal.end-requires-clause-all
end-requires-clause-all g c n l = has_record (λ r. r.number) (gathered c.args.gathering) n (c.requires.all n l)
