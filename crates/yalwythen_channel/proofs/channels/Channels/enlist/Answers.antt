use Rattle.std.proofs.Common.{◌≡◌, ◌∙◌, refl, ap, subst, sym, length, ◌++◌, ◌∷◌, [], List}
use Rattle.txc_base.specs.declared.kind.Kind.{Kind}
use Rattle.txc_chan.specs.ChanView.{ChanView}
use Rattle.txc_txn.specs.Maps.{put_at}
use Rattle.txc_txn.specs.OpenTransaction.{IsMarkedSince}
use Rattle.txc_txn.specs.Plain.{chan_in}
use Rattle.yalwythen_channel.specs.Channels.{TxnChannels}
use Rattle.yalwythen_channel.specs.Opened.{IsOpenAt, IsSavedAt}
use Rattle.yalwythen_channel.proofs.JoiningChannels.{enlisted_marked, enlisted_open, enlisted_saved, enlisted_sound}
use Rattle.yalwythen_channel.proofs.channels.Channels.enlist.Goals as goal

pub invariant_of-self-2 : goal.invariant_of-self-2
invariant_of-self-2 g c =
    let kinds : c.push_reserved.new.self.items ≡ c.self.inside.kinds.items ++ c.args.chan.logged.decl.kind ∷ [] =
    c.push_reserved.ensures.items ∙ ap (λ (ks : List Kind). ks ++ c.kind-kind.result ∷ []) c.reserve.ensures.items
    ∙ ap (λ (k : Kind). c.self.inside.kinds.items ++ k ∷ []) c.kind-kind.ensures in
    rw (c.in_ok-push.ensures.ok, kinds)
    (enlisted_sound c.self.inside.plain c.self.inside.kinds.items c.args.chan c.self.inside.txn c.self.invariant)

pub returns-clause-marked : goal.returns-clause-marked
returns-clause-marked g c began marked =
    subst (λ (held : List ChanView). IsMarkedSince [] c.self.inside.txn
    (put_at began (length c.args.self.now.kinds) c.args.chan.logged) (chan_in held)) (sym c.in_ok-push.ensures.ok)
    (enlisted_marked [] c.self.inside.plain c.args.chan c.self.inside.txn began (length c.args.self.now.kinds)
    c.self.invariant.touched (c.self.invariant.as_many ∙ ap (λ (x : TxnChannels). length x.kinds) c.self.view_is)
    (subst (λ (x : TxnChannels). IsMarkedSince [] x.txn began (chan_in x.held)) (sym c.self.view_is) marked))

pub returns-clause-goes_on : goal.returns-clause-goes_on
returns-clause-goes_on g c began ops below opened =
    let before : TxnChannels = record {
      held = c.self.inside.plain;
      kinds = c.self.inside.kinds.items;
      txn = c.self.inside.txn;
      savepoints = c.self.inside.savepoints.items;
    } in
    enlisted_open before _ c.args.chan began ops (length c.args.self.now.kinds) c.in_ok-push.ensures.ok refl
    (c.self.invariant.as_many ∙ ap (λ (x : TxnChannels). length x.kinds) c.self.view_is) c.self.invariant.touched below
    (subst (λ (x : TxnChannels). IsOpenAt began ops x) (sym c.self.view_is) opened)

pub returns-clause-saved : goal.returns-clause-saved
returns-clause-saved g c savepoint at trace saved =
    let before : TxnChannels = record {
      held = c.self.inside.plain;
      kinds = c.self.inside.kinds.items;
      txn = c.self.inside.txn;
      savepoints = c.self.inside.savepoints.items;
    } in
    enlisted_saved before _ c.args.chan savepoint at trace (length c.args.self.now.kinds) c.in_ok-push.ensures.ok refl
    (c.self.invariant.as_many ∙ ap (λ (x : TxnChannels). length x.kinds) c.self.view_is) c.self.invariant.touched
    (subst (λ (x : TxnChannels). IsSavedAt savepoint at trace x) (sym c.self.view_is) saved)
