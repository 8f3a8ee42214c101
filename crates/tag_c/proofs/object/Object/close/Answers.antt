-- The object is a pool here, and the totals are those with which its tags were gathered.
use Rattle.tag_c.proofs.Refusing.{ends_of}
use Rattle.tag_c.proofs.object.Object.close.Goals as goal

pub returns-in-Ok : goal.returns-in-Ok
returns-in-Ok c = ends_of c.args.self.kind c.in-Pool.pool c.in-Pool.is c.in-Ok.totals c.in-Ok.ensures.ok
