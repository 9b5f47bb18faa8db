use Rattle.txc_chan.specs.ChanView.{ChanView}
use Rattle.txc_txn.proofs.Building.{fine_all, fine_more, made_all, made_more}
use Rattle.txc_txn.proofs.plain.Plain.build.Goals as goal

pub loop-decl-preserved : goal.loop-decl-preserved
loop-decl-preserved g c = record {
  made = made_more (λ (held : ChanView). held.logged) c.loop-decl.chans.items c.push.new.self.items c.in_ok-chan.chan
      c.args.decls.now c.loop-decl.decl-index
      c.loop-decl-test.true c.in_ok-push.ensures.items c.loop-decl.invariant.made c.in_ok-chan.ensures.ok;
  fine = fine_more c.args.decls.now c.loop-decl.decl-index c.loop-decl-test.true c.in_ok-chan.ensures.fine
      c.loop-decl.invariant.fine;
}

pub returns-clause-ok : goal.returns-clause-ok
returns-clause-ok g c = made_all _ c.args.decls.now c.loop-decl.decl-index c.loop-decl-test.false
    c.loop-decl.invariant.made

pub returns-clause-fine : goal.returns-clause-fine
returns-clause-fine g c = fine_all c.args.decls.now c.loop-decl.decl-index c.loop-decl-test.false
    c.loop-decl.invariant.fine
