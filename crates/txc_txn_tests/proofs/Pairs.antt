-- The kinds of two channels that were borrowed.
use Rattle.std.proofs.Common.{◌≡◌, refl, ℕ, zero, suc, ◌<◌, [], ◌∷◌, arith, slice_get}
use Rattle.txc_chan.specs.ChanView.{ChanView}
use Rattle.txc_txn.specs.Maps.{kinds_of}
use Rattle.txc_txn_tests.specs.Borrowed.{two_in}

pub kind_of_two : (one two : ChanView) (n : ℕ) → n < 2
    → kinds_of (two_in one two) n ≡ slice_get (one.logged.decl.kind ∷ two.logged.decl.kind ∷ []) n
kind_of_two one two zero lt = refl
kind_of_two one two (suc zero) lt = refl
kind_of_two one two (suc (suc n)) lt = absurd (omega (arith, lt))
