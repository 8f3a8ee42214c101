-- Under the option some tag is known if any is kept.
use Rattle.tag_cache.proofs.Reusing.{keeps_with_care}
use Rattle.tag_cache.proofs.cache.Cache.count.Goals as goal

pub returns-clause-careful : goal.returns-clause-careful
returns-clause-careful g c = keeps_with_care c.args.self.now
