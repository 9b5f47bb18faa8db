use Rattle.std.proofs.Common.{sym, ◌∙◌, ap, subst, ⊎_elim, ℕ, List, slice_get, arith}
use Rattle.std.proofs.lemmas.Option.{slice_get_within}
use Rattle.std.proofs.Math.Nat.{eq-or-lt_of_le}
use Rattle.txc_chan.specs.ChanView.{ChanView}
use Rattle.txc_txn.specs.Plain.{chan_in}
use Rattle.txc_txn_history.specs.OneOrder.{Shows}
use Rattle.txc_table_audit.proofs.Left.{tells_here}
use Rattle.txc_table_audit.proofs.rerun.Rerun.find_wrong_account.Goals as goal

pub loop-chan-preserved : goal.loop-chan-preserved
loop-chan-preserved c n account lt at = ⊎_elim
    (λ here. subst (λ (held : List ChanView). Shows account (chan_in held n)) (ap (λ v. v.held) c.self.view_is)
    (subst (λ (k : ℕ). Shows account (chan_in c.self.inside.plain k)) (sym here)
    (tells_here c.args.accounts.now c.self.inside.plain c.loop-chan.chan c.index-accounts-chan.result c.in-Ok.left
    account c.index-accounts-chan.is c.in-Ok.ensures.ok
    (c.is_same_account.ensures.0 c.if-not-is_same_account.false) (ap (slice_get c.args.accounts.now) (sym here) ∙ at))))
    (λ below. c.loop-chan.invariant n account below at)
    (eq-or-lt_of_le (omega (arith, lt)))

pub returns : goal.returns
returns c n account at = c.loop-chan.invariant n account
    (omega (arith, c.loop-chan-test.false, slice_get_within c.args.accounts.now n account at)) at
