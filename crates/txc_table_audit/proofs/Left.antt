-- Accounts that tell what channels are left with.
use Rattle.std.proofs.Common.{◌≡◌, ◌∙◌, sym, ap, ℕ, Some, List, slice_get, slice_index_or}
use Rattle.std.proofs.lemmas.Option.{get_or_from_slice_get}
use Rattle.txc_chan.specs.Chan.{account_of}
use Rattle.txc_chan.specs.declared.account.Account.{Account}
use Rattle.txc_chan.specs.ChanView.{ChanView}
use Rattle.txc_txn.specs.Plain.{chan_in, missing}
use Rattle.txc_txn_history.specs.OneOrder.{Shows}

-- an account that was read tells its channel, if it is the same as the channel's
pub tells_here : (accounts : List Account) (held : List ChanView) (chan : ℕ) (read left account : Account)
    → read ≡ slice_index_or accounts chan read
    → left ≡ account_of (slice_index_or held chan missing) → (read.closed ≡ left.closed)
    × ((read.log ≡ left.log) × (read.remaining ≡ left.remaining))
    → slice_get accounts chan ≡ Some account → Shows account (chan_in held chan)
tells_here accounts held chan read left account is left_is same at =
    let here : account ≡ read = sym (get_or_from_slice_get accounts chan account read at) ∙ sym is in record {
      closed = ap (λ (a : Account). a.closed) here ∙ same.0 ∙ ap (λ (a : Account). a.closed) left_is;
      log = ap (λ (a : Account). a.log) here ∙ same.1.0 ∙ ap (λ (a : Account). a.log) left_is;
      lists = ap (λ (a : Account). a.remaining) here ∙ same.1.1 ∙ ap (λ (a : Account). a.remaining) left_is;
    }
