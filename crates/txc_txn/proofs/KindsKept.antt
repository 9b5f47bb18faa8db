-- The kinds of channels of a list stay.
use Rattle.std.proofs.Common.{◌≡◌, ◌∙◌, ap, ℕ, ◌<◌, List, length}
use Rattle.txc_base.specs.declared.kind.Kind.{Kind}
use Rattle.txc_chan.specs.ChanView.{ChanView}
use Rattle.txc_txn.specs.Maps.{kinds_of}
use Rattle.txc_txn.specs.Opening.{HasKinds}
use Rattle.txc_txn.specs.Plain.{chan_in}

-- channels that were held still are, and have their kinds
pub kinds_kept : (chans chans' : List ChanView) (kinds : List Kind) → HasKinds chans kinds
    → ((n : ℕ) → n < length chans → n < length chans')
    → kinds_of (chan_in chans') ≡ kinds_of (chan_in chans) → HasKinds chans' kinds
kinds_kept chans chans' kinds has held same = record {
  there = λ n lt. held n (has.there n lt);
  same = λ n lt. ap (λ f. f n) same ∙ has.same n lt;
}
