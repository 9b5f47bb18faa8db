-- How many acts of each sort are in a channel.
use Rattle.std.specs.Prelude.{◌≡◌, ℕ, ◌+◌, ◌&&◌, nat_eq, Bool, List, [], ◌∷◌, slice_index_or}
use Rattle.txc_base.specs.declared.act.Act.{Act}
use Rattle.txc_base.specs.Counts.{is_put, is_took, is_other}
use Rattle.txc_txn.specs.declared.deed.Deed.{Deed}
use Rattle.txc_txn.specs.declared.receipt.Receipt.{Receipt}
use Rattle.txc_chan.specs.Reserved.{one_if}
use Rattle.txc_table_seat.specs.declared.tally.Tally.{Tally}

-- how many of these acts are in a channel and pass a test
abbrev pub acts_that : (Act → Bool) → ℕ → List Deed → ℕ
acts_that test chan [] = 0
acts_that test chan (deed ∷ deeds) = one_if (nat_eq deed.chan chan && test deed.act) + acts_that test chan deeds

-- how many acts of these receipts are in a channel and pass a test
abbrev pub count_that : (Act → Bool) → ℕ → List Receipt → ℕ
count_that test chan [] = 0
count_that test chan (receipt ∷ receipts) = acts_that test chan receipt.acts + count_that test chan receipts

-- a tally of no acts
abbrev pub no_tally : Tally
no_tally = record { put = 0; took = 0; other = 0 }

-- a tally with one more act
abbrev pub more : Tally → Act → Tally
more tally act = record {
  put = tally.put + one_if (is_put act);
  took = tally.took + one_if (is_took act);
  other = tally.other + one_if (is_other act);
}

-- the sum of two tallies
abbrev pub sum : Tally → Tally → Tally
sum one other = record { put = one.put + other.put; took = one.took + other.took; other = one.other + other.other }

-- the number of all acts of a tally
abbrev pub total : Tally → ℕ
total tally = tally.put + tally.took + tally.other

-- the tally of these acts in a channel
abbrev pub tally_acts : ℕ → List Deed → Tally
tally_acts chan deeds = record {
  put = acts_that is_put chan deeds;
  took = acts_that is_took chan deeds;
  other = acts_that is_other chan deeds;
}

-- the tally of the acts of these receipts in a channel
abbrev pub done_in : ℕ → List Receipt → Tally
done_in chan receipts = record {
  put = count_that is_put chan receipts;
  took = count_that is_took chan receipts;
  other = count_that is_other chan receipts;
}

-- each of these tallies counts the acts of these receipts in its channel, and there is no act in any other channel
abbrev pub AreTallied : List Tally → List Receipt → Type 0
AreTallied tallies receipts = (n : ℕ) → slice_index_or tallies n no_tally ≡ done_in n receipts
