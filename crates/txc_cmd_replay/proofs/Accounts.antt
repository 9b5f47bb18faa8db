-- The accounts of declared channels, and their kinds.
use Rattle.std.proofs.Common.{◌≡◌, refl, sym, ◌∙◌, ap, arith, ℕ, suc, ◌+◌, ◌≤◌, add-one, append_assoc}
use Rattle.std.proofs.Common.{false, List, [], ◌∷◌, ◌++◌, map, length, take, slice_index_or}
use Rattle.std.proofs.lemmas.List.{get_or_at, length_push}
use Rattle.txc_chan.specs.Chan.{account_of}
use Rattle.txc_chan.specs.declared.account.Account.{Account}
use Rattle.txc_chan.specs.declared.decl.Decl.{Decl}
use Rattle.txc_chan.specs.ChanView.{ChanView}
use Rattle.txc_chan.specs.Logged.{Logged, opened}
use Rattle.txc_txn.specs.Maps.{Map}
use Rattle.txc_txn.specs.Plain.{chan_in, missing}
use Rattle.txc_cmd_report.specs.declared.outcome.Outcome.{Outcome as Ran}
use Rattle.txc_cmd_report.specs.Outcome.{account_in, outcome_of, without_slots}
use Rattle.txc_cmd_replay.specs.Rounds.{SeatProgress, accounts_from, last_round, outcome_after, round_to, rounds}
use Rattle.txc_chan.specs.Decls.{kinds_in}
use Rattle.txc_cmd_script.specs.Script.{Script}

-- the accounts of the channels that are declared, from one on
accounts_are : (i : ℕ) (decls : List Decl) (before rest : List ChanView) → length before ≡ i
    → length decls ≤ length rest
    → map without_slots (map account_of (take (length decls) rest)) ≡ accounts_from i decls (chan_in (before ++ rest))
accounts_are i [] before rest at few = refl
accounts_are i (decl ∷ decls) before [] at few = absurd (omega (arith, few))
accounts_are i (decl ∷ decls) before (held ∷ rest) at few =
    let here : slice_index_or (before ++ held ∷ rest) i missing ≡ held = get_or_at before held rest missing i at in
    let next = accounts_are (suc i) decls (before ++ held ∷ []) rest
    (length_push before held ∙ ap (λ n. n + 1) at ∙ add-one i) (omega (arith, few)) in
    ap (λ one. account_in one.logged ∷ map without_slots (map account_of (take (length decls) rest))) (sym here)
    ∙ ap (λ more. account_in (chan_in (before ++ held ∷ rest) i) ∷ more)
    (next ∙ ap (λ all. accounts_from (suc i) decls (chan_in all)) (append_assoc before (held ∷ []) rest))

-- the accounts of all channels that are declared
pub accounts_of_all : (decls : List Decl) (chans : List ChanView) → length decls ≤ length chans
    → map without_slots (map account_of (take (length decls) chans)) ≡ accounts_from 0 decls (chan_in chans)
accounts_of_all decls chans few = accounts_are 0 decls [] chans refl few

-- the kinds of channels, by what they are logged as
kinds_logged : (chans : List ChanView) → map (λ (l : Logged). l.decl.kind) (map (λ held. held.logged) chans)
    ≡ map (λ held. held.logged.decl.kind) chans
kinds_logged [] = refl
kinds_logged (chan ∷ chans) = ap (λ ks. chan.logged.decl.kind ∷ ks) (kinds_logged chans)

-- the kinds of channels as they are made
kinds_declared : (decls : List Decl) → map (λ (l : Logged). l.decl.kind) (map opened decls) ≡ kinds_in decls
kinds_declared [] = refl
kinds_declared (decl ∷ decls) = ap (λ ks. decl.kind ∷ ks) (kinds_declared decls)

-- channels that were made as they are declared have the kinds that are declared
pub kinds_same : (chans : List ChanView) (decls : List Decl) → map (λ held. held.logged) chans ≡ map opened decls
    → map (λ held. held.logged.decl.kind) chans ≡ kinds_in decls
kinds_same chans decls e = sym (kinds_logged chans) ∙ ap (map (λ (l : Logged). l.decl.kind)) e ∙ kinds_declared decls

-- the outcome with the accounts and the progress after the last round is what the script comes to
pub outcome_is : (script : Script) (o : Ran) (accounts : List Account) (st : List SeatProgress) (m : Map)
    → map without_slots accounts ≡ accounts_from 0 script.decls m → round_to m st false ≡ last_round script
    → o.report.accounts ≡ accounts → o.report.receipts ≡ map (λ (s : SeatProgress). s.receipts) st
    → o.ends ≡ map (λ (s : SeatProgress). s.end) st → outcome_of o ≡ rounds script
unfolding rounds
outcome_is script o accounts st m accounted last a r e =
    (λ j. record { accounts = map without_slots (a j); receipts = r j; ends = e j })
    ∙ (λ j. record {
      accounts = accounted j;
      receipts = map (λ (s : SeatProgress). s.receipts) st;
      ends = map (λ (s : SeatProgress). s.end) st;
    })
    ∙ ap (outcome_after script.decls) last
