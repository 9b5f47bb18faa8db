-- Channels as they were declared.
use Rattle.std.proofs.Common.{◌≡◌, refl, sym, ◌∙◌, ap, ℕ, zero, suc, ◌<◌, List, [], ◌∷◌, length, map, slice_get}
use Rattle.std.proofs.Common.{slice_index_or, arith}
use Rattle.std.proofs.lemmas.List.{length-map}
use Rattle.std.proofs.Math.ListN.{get_or-map}
use Rattle.txc_chan.specs.declared.decl.Decl.{Decl}
use Rattle.txc_chan.specs.ChanView.{ChanView}
use Rattle.txc_chan.specs.Logged.{opened}
use Rattle.txc_txn.specs.Maps.{kinds_of}
use Rattle.txc_txn.specs.Plain.{chan_in, missing}
use Rattle.txc_txn.specs.Opening.{HasKinds}
use Rattle.txc_chan.specs.Decls.{kinds_in}
use Rattle.txc_txn.specs.Opening.{opening_map}

-- the kinds of channels as they are declared
opening_kinds : (decls : List Decl) (n : ℕ) → n < length (kinds_in decls)
    → kinds_of (opening_map decls) n ≡ slice_get (kinds_in decls) n
opening_kinds [] n lt = absurd (omega (arith, lt))
opening_kinds (decl ∷ decls) zero lt = refl
opening_kinds (decl ∷ decls) (suc n) lt = opening_kinds decls n (omega (arith, lt))

-- channels that were made as they are declared are the opening channels
pub opening_is : (chans : List ChanView) (decls : List Decl) → map (λ held. held.logged) chans ≡ map opened decls
    → chan_in chans ≡ opening_map decls
opening_is chans decls e j n = (sym (get_or-map (λ (held : ChanView). held.logged) chans n missing)
    ∙ ap (λ ls. slice_index_or ls n missing.logged) e) j

-- .. and have the kinds that are declared
pub opening_has : (chans : List ChanView) (decls : List Decl) → map (λ held. held.logged) chans ≡ map opened decls
    → HasKinds chans (kinds_in decls)
opening_has chans decls e = record {
  there = λ n lt. omega (
    arith,
    lt,
    length-map decls (λ decl. decl.kind),
    length-map decls opened,
    ap length e,
    length-map chans (λ held. held.logged),
  );
  same = λ n lt. ap (λ m. kinds_of m n) (opening_is chans decls e) ∙ opening_kinds decls n lt;
}
