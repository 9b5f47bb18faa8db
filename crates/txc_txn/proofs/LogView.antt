-- The kinds of the channels of a list.
use Rattle.std.proofs.Common.{◌≡◌, refl, sym, subst, ℕ, zero, suc, ◌<◌, List, [], ◌∷◌, map, length, arith, slice_get}
use Rattle.txc_base.specs.declared.kind.Kind.{Kind}
use Rattle.txc_chan.specs.ChanView.{ChanView}
use Rattle.txc_txn.specs.Maps.{kinds_of}
use Rattle.txc_txn.specs.Plain.{chan_in}

at_place : (chans : List ChanView) (n : ℕ) → n < length (map (λ (held : ChanView). held.logged.decl.kind) chans)
    → (kinds_of (chan_in chans) n ≡ slice_get (map (λ (held : ChanView). held.logged.decl.kind) chans) n)
    × (n < length chans)
at_place [] n lt = absurd (omega (arith, lt))
at_place (chan ∷ chans) zero lt = (refl, omega arith)
at_place (chan ∷ chans) (suc n) lt = let r = at_place chans n (omega (arith, lt)) in (r.0, omega (arith, r.1))

-- the kind with a number is that of the channel at its place
pub kind_at : (chans : List ChanView) (kinds : List Kind) (n : ℕ)
    → kinds ≡ map (λ (held : ChanView). held.logged.decl.kind) chans → n < length kinds
    → (kinds_of (chan_in chans) n ≡ slice_get kinds n) × (n < length chans)
kind_at chans kinds n is lt =
    subst (λ (ks : List Kind). n < length ks → (kinds_of (chan_in chans) n ≡ slice_get ks n) × (n < length chans))
    (sym is) (at_place chans n) lt
