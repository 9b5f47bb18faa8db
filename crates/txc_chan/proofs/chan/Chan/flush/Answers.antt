use Rattle.std.proofs.Common.{subst, ◌+◌, rules, ◌≡◌, ◌∙◌, ap, [], ◌++◌, length, map, slice_index_or}
use Rattle.txc_base.specs.declared.act.Act.TheVariants.{Took}
use Rattle.txc_base.specs.Log.{entries}
use Rattle.txc_chan.proofs.ActLemmas.{still_fits}
use Rattle.txc_chan.proofs.FlushLemmas.{flushes}
use Rattle.txc_chan.specs.Chan.{IsSoundChan}
use Rattle.txc_chan.proofs.chan.Chan.flush.Goals as goal

pub invariant_of-self-2 : goal.invariant_of-self-2
invariant_of-self-2 g c =
    let now = c.self.inside in
    let done = c.in_ok-all.ensures in
    let log : g.K.Log.entries c.record_takes.new.log ≡ (g.K.Log.entries now.log) ++ entries c.args.tag
    (map (Took 0) c.in_ok-all.all.items) = search rules in
    let count : c.len-count.result ≡ length c.in_ok-all.all.items = c.len-count.ensures
    ∙ ap (λ l. length (slice_index_or l 0 [])) done.ok in
    let more : g.K.Log.undoable c.self.inside.log + c.len-count.result ≡ g.K.Log.undoable c.record_takes.new.log =
    search rules in
    record {
      sound = subst (IsSoundChan _ _ _ _ _ _) more
          (flushes now.decl now.body c.take_all.new.self now.closed now.written now.backs (g.K.Log.entries now.log) _
          (g.K.Log.undoable now.log) c.len-count.result c.args.tag c.in_ok-all.all.items c.self.invariant.sound
          (search rules) done.ok done.lists done.keeps done.room count log);
      fits = still_fits done.keeps c.self.invariant.fits;
    }
