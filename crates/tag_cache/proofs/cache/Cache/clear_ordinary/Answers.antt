-- The tag goes the way that the cache calls for.
use Rattle.tag_cache.proofs.Uses.{ap, arith, back_of, CallsFor, GiveBack, GiveBackAll, Hand, inr, IsHandOf, Keep, KeepInstead, Ordinary, subst, sym, Way}
use Rattle.tag_cache.proofs.Giving.{kept_back}
use Rattle.tag_cache.proofs.Going.{ordinary_back}
use Rattle.tag_cache.proofs.cache.Cache.clear_ordinary.Goals as goal

pub keep-requires-clause-can : goal.keep-requires-clause-can
keep-requires-clause-can g c = (subst (λ (w : Way). CallsFor w c.args.tag c.args.self.now) c.in-Keep.is c.way.ensures).1

pub keep-requires-clause-place : goal.keep-requires-clause-place
keep-requires-clause-place g c = (subst (λ (w : Way). CallsFor w c.args.tag c.args.self.now) c.in-Keep.is c.way.ensures).2

pub keep-requires-clause-other : goal.keep-requires-clause-other
keep-requires-clause-other g c = (subst (λ (w : Way). CallsFor w c.args.tag c.args.self.now) c.in-Keep.is c.way.ensures).0

pub returns-in-Keep : goal.returns-in-Keep
returns-in-Keep g c = let e = c.keep.ensures in
    let back = ap (λ (h : Hand g.row.R.Denot). back_of h Ordinary) e.hand in record {
      cache = subst (λ (h : Hand g.row.R.Denot). IsHandOf c.args.pool.now h) (sym e.hand) c.requires.cache;
      way = record {
        way = Keep;
        why = subst (λ (w : Way). CallsFor w c.args.tag c.args.self.now) c.in-Keep.is c.way.ensures;
        goes = record { hand = e.hand; also = e.also };
      };
      freed = omega arith;
      knows = e.knows;
    }

pub keep_instead-requires-clause-can : goal.keep_instead-requires-clause-can
keep_instead-requires-clause-can g c = (subst (λ (w : Way). CallsFor w c.args.tag c.args.self.now) c.in-KeepInstead.is c.way.ensures).1

pub keep_instead-requires-clause-other : goal.keep_instead-requires-clause-other
keep_instead-requires-clause-other g c = (subst (λ (w : Way). CallsFor w c.args.tag c.args.self.now) c.in-KeepInstead.is c.way.ensures).0

pub returns-in-KeepInstead : goal.returns-in-KeepInstead
returns-in-KeepInstead g c = let e = c.keep_instead.ensures in
    let back = kept_back c.args.pool.now c.args.self.now c.args.self.now.hand c.keep_instead.new.self.hand e.goes.gives in
    let count = e.freed in record {
      cache = e.cache;
      way = record {
        way = KeepInstead;
        why = subst (λ (w : Way). CallsFor w c.args.tag c.args.self.now) c.in-KeepInstead.is c.way.ensures;
        goes = e.goes;
      };
      freed = omega arith;
      knows = e.knows;
    }

pub give_back-requires-clause-other : goal.give_back-requires-clause-other
give_back-requires-clause-other g c = inr (subst (λ (w : Way). CallsFor w c.args.tag c.args.self.now) c.in-GiveBack.is c.way.ensures).0

pub returns-in-GiveBack : goal.returns-in-GiveBack
returns-in-GiveBack g c = let e = c.give_back.ensures in record {
  cache = e.cache;
  way = record {
    way = GiveBack;
    why = subst (λ (w : Way). CallsFor w c.args.tag c.args.self.now) c.in-GiveBack.is c.way.ensures;
    goes = e.goes;
  };
  freed = ordinary_back c.args.pool.now c.args.tag c.args.self.now.hand c.give_back.new.self.hand c.requires.cache.2
      c.requires.ordinary e.goes.gives;
  knows = λ leaves. e.knows;
}

pub returns-in-GiveBackAll : goal.returns-in-GiveBackAll
returns-in-GiveBackAll g c = let e = c.give_back_all.ensures in record {
  cache = e.cache;
  way = record {
    way = GiveBackAll;
    why = subst (λ (w : Way). CallsFor w c.args.tag c.args.self.now) c.in-GiveBackAll.is c.way.ensures;
    goes = e.goes;
  };
  freed = e.freed;
  knows = λ leaves. e.knows;
}
