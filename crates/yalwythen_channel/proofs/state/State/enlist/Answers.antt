use Rattle.std.proofs.Common.{◌≡◌, ◌∙◌, refl, sym, ap, subst, false, max, length}
use Rattle.yalwythen_channel.specs.Requests.{is_late}
use Rattle.yalwythen_channel.specs.State.{TxnState}
use Rattle.yalwythen_channel.proofs.JoiningChannels.{joined, with_one_had_run, with_one_precedes}
use Rattle.yalwythen_channel.proofs.state.State.enlist.Goals as goal

pub returns-in-Ok : goal.returns-in-Ok
returns-in-Ok g c = rw (sym c.self.view_is) (record {
  done = λ zero. (
    refl,
    c.can_enlist.ensures.as_many,
    c.in-Ok.ensures.held,
    c.in-Ok.ensures.kinds,
    c.max-self-inside.ensures ∙ ap (max c.self.inside.clock) c.stamp-stamp.ensures,
  );
  answered = λ memory.
      joined g.K.Log.shelves c.stamp-stamp.result c.args.chan.logged.stamp (record {
        channels = c.self.inside.channels;
        tag = c.self.inside.tag;
        clock = c.self.inside.clock;
        status = c.self.inside.status;
        last = c.self.inside.last;
      }) c.call_result-in-Ok.result
      c.stamp-stamp.ensures
      (subst (λ (s : TxnState). false ≡ is_late g.K.Log.shelves c.stamp-stamp.result s) (sym c.self.view_is)
      c.if-is_late.ensures) c.if-not-can_enlist.ensures.few c.call_result-in-Ok.ensures.code
      (c.call_result-in-Ok.ensures.value ∙ c.len-number.ensures);
  marked = λ zero. c.in-Ok.ensures.marked;
  goes_on = λ zero. c.in-Ok.ensures.goes_on;
  saved = λ zero. c.in-Ok.ensures.saved;
  had_run = λ zero began at ops trace below had.
      with_one_had_run c.self.inside.channels.txn.tag began at ops trace (length c.self.inside.channels.kinds)
      c.args.chan.logged below had;
  precedes = λ zero at at' trace trace' precedes.
      with_one_precedes c.self.inside.channels.txn.tag at at' trace trace' (length c.self.inside.channels.kinds)
      c.args.chan.logged precedes;
  refused = λ fails. absurd (fails c.call_result-in-Ok.ensures.code);
  rest = (c.enlist.ensures.rest.0, c.enlist.ensures.rest.1, refl, refl, refl);
})
