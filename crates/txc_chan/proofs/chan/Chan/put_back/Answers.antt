use Rattle.std.proofs.Common.{subst, ◌+◌, rules, ◌≡◌, sym, ap, ◌∙◌, false, not, [], ◌∷◌, ◌++◌, slice_get, Some, arith}
use Rattle.txc_base.specs.declared.act.Act.TheVariants.{PutBack}
use Rattle.txc_base.specs.InOrder.{written}
use Rattle.txc_base.specs.Operation.{next_back}
use Rattle.txc_chan.proofs.ActLemmas.{entry, puts, still_fits}
use Rattle.txc_chan.proofs.KeptLemmas.{counts_within}
use Rattle.txc_chan.specs.Body.{channel_of, lists_of}
use Rattle.txc_chan.specs.BodyCalls.{list_at}
use Rattle.txc_chan.specs.Chan.{IsSoundChan}
use Rattle.txc_chan.proofs.chan.Chan.put_back.Goals as goal

pub overflow_add-self : goal.overflow_add-self
overflow_add-self g c =
    let now = c.self.inside in
    omega (
      arith,
      counts_within now.decl now.body now.closed now.written now.backs (g.K.Log.entries now.log)
          (g.K.Log.undoable now.log) c.self.invariant.sound,
      c.in_ok-reserve.ensures.few,
    )

pub invariant_of-self-2 : goal.invariant_of-self-2
invariant_of-self-2 g c =
    let now = c.self.inside in
    let item = next_back (channel_of now.decl.kind now.body now.closed now.written now.backs) c.args.tag.seat
    c.in-Some.body in
    let log : g.K.Log.entries c.push_reserved.new.self ≡ (g.K.Log.entries now.log) ++ entry c.args.tag
    (PutBack c.args.reader item) ∷ [] = search rules in
    let unshut : now.closed ≡ false = search rules in
    let there : slice_get (lists_of now.body) c.args.reader ≡ Some (list_at now.body c.args.reader) = search rules in
    let more : g.K.Log.undoable c.self.inside.log + 1 ≡ g.K.Log.undoable c.push_reserved.new.self = search rules in
    record {
      sound = subst (IsSoundChan _ _ _ _ _ _) more
          (puts now.decl now.body c.put_back.new.self now.closed now.written now.backs (g.K.Log.entries now.log) _
          (g.K.Log.undoable now.log) c.args.tag c.args.reader c.in-Some.body c.self.invariant.sound
          there unshut (ap not (sym c.put_back_must_wait.ensures ∙ c.if-put_back_must_wait.false))
          (rw c.make_item-item.ensures at c.in_ok-put_back.ensures.lists) c.put_back.ensures.only.keeps
          c.put_back.ensures.only.room
          (c.put_back.ensures.only.items (written (g.K.Log.entries now.log)) c.self.invariant.sound.stocked) log);
      fits = still_fits c.put_back.ensures.only.keeps c.self.invariant.fits;
    }
