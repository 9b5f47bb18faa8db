-- Accounts that grow by one.
use Rattle.std.proofs.Common.{◌≡◌, ◌∙◌, refl, sym, ap, subst, inl, inr, ℕ, zero, suc, ◌+◌, List, [], ◌∷◌, ◌++◌, length}
use Rattle.std.proofs.Common.{◌<◌, ◌≤◌, map, slice_get, slice_index_or, slice_set, Some, Result, Ok, Err, IfOk, arith}
use Rattle.std.proofs.lemmas.List.{length_push}
use Rattle.txc_base.specs.declared.stop.Stop.{Stop}
use Rattle.txc_chan.specs.declared.account.Account.{Account}
use Rattle.txc_chan.specs.declared.summary.Summary.{Summary}
use Rattle.txc_chan.specs.declared.decl.Decl.{Decl}
use Rattle.txc_chan.specs.Chan.{account_of, summary_of, without_log}
use Rattle.txc_base.specs.declared.entry.Entry.{Entry}
use Rattle.txc_chan.specs.ChanView.{ChanView}
use Rattle.txc_table_line.specs.Account.{IsAccount}
use Rattle.txc_table_line.specs.Line.{decl_at}
use Rattle.txc_txn.specs.Plain.{missing}
use Rattle.txc_table_line.specs.LineChan.{LineChanView}
use Rattle.txc_table_lines.specs.Locked.{channel_at, line_decls_of, helds_of}
use Rattle.txc_table_lines.proofs.Locking.{held_at}
use Rattle.txc_table_lines.proofs.Mapping.{map_push}
use Rattle.txc_table_lines.specs.Accounted.{AreAccounts, AreSummaries, IsAccountAt, IsSnapshotAt, summary_in}
use Rattle.txc_table_lines.specs.Accounted.{with_log_at}
use Rattle.txc_table_lines.specs.Accounted.{with_logs}
use Rattle.txc_table_line.proofs.Listing.{get_push}

pub accounts_more : (lines : List Decl) (helds : List ChanView) (n : ℕ) (accounts accounts' : List Account)
    (account : Account) → AreAccounts lines helds n accounts
    → accounts' ≡ accounts ++ account ∷ [] → IsAccountAt lines helds n account
    → AreAccounts lines helds (n + 1) accounts'
accounts_more lines helds n accounts accounts' account are push is =
    subst (AreAccounts lines helds (n + 1)) (sym push) (record {
      many = omega (arith, length_push accounts account, are.many);
      each = λ chan other here.
          elim (get_push accounts account chan other here) [
            | inl t ↦ are.each chan other t
            | inr t ↦
                (let at : chan ≡ n = omega (arith, t.0, are.many) in
                subst (λ k. IsAccountAt lines helds k other) (sym at)
                (subst (λ (a : Account). IsAccountAt lines helds n a) t.1 is))
          ];
    })

-- what is declared at a line
decl_of : (now : List LineChanView) (n : ℕ) → decl_at (line_decls_of now) n ≡ (channel_at now n).line.decl
decl_of [] n = refl
decl_of (c ∷ cs) zero = refl
decl_of (c ∷ cs) (suc n) = decl_of cs n

is_snapshot_at : {T : Type 0} (of : ChanView → T) (now : List LineChanView) (chan : ℕ) (snapshot : T)
    → IsAccount (channel_at now chan).line.decl (length (channel_at now chan).held.logged.log)
    (account_of (channel_at now chan).held) → snapshot ≡ of (channel_at now chan).held
    → IsSnapshotAt of (line_decls_of now) (helds_of now) chan snapshot
is_snapshot_at of now chan snapshot account its = (
  subst (λ (d : Decl). IsAccount d (length (slice_index_or (helds_of now) chan missing).logged.log)
      (account_of (slice_index_or (helds_of now) chan missing))) (sym (decl_of now chan))
      (subst (λ (h : ChanView). IsAccount (channel_at now chan).line.decl (length h.logged.log) (account_of h))
      (sym (held_at now chan)) account),
  its ∙ ap of (sym (held_at now chan)),
)

-- a snapshot of a line is one of the channel with its number
pub snapshot_at : {T : Type 0} (of : ChanView → T) (now : List LineChanView) (chan : ℕ) (channel : LineChanView)
    (result : Result T Stop) → channel_at now chan ≡ channel
    → IsAccount channel.line.decl (length channel.held.logged.log) (account_of channel.held)
    → IfOk result (λ snapshot. snapshot ≡ of channel.held)
    → IfOk result (IsSnapshotAt of (line_decls_of now) (helds_of now) chan)
snapshot_at of now chan channel (Ok snapshot) is account its =
    is_snapshot_at of now chan snapshot
    (subst (λ (c : LineChanView). IsAccount c.line.decl (length c.held.logged.log) (account_of c.held)) (sym is)
    account) (its ∙ ap (λ (c : LineChanView). of c.held) (sym is))
snapshot_at of now chan channel (Err stop) is account its = tt

-- no account is one of no channel
none_are : (lines : List Decl) (helds : List ChanView) → AreAccounts lines helds 0 []
none_are lines helds = record { many = refl; each = nowhere }
  where
    nowhere : (chan : ℕ) (account : Account) → slice_get [] chan ≡ Some account → IsAccountAt lines helds chan account
    nowhere zero account here = cc
    nowhere (suc n) account here = cc

-- if there is no channel, the account of a missing one has no log
with_none : (n : ℕ) (accounts : List Account) (account : Account)
    → account ≡ without_log (account_of (slice_index_or [] n missing))
    → accounts ++ account ∷ [] ≡ accounts ++ account_of (slice_index_or [] n missing) ∷ []
with_none zero accounts account is = ap (λ (a : Account). accounts ++ a ∷ []) is
with_none (suc n) accounts account is = ap (λ (a : Account). accounts ++ a ∷ []) is

none_past : (held : ChanView) (helds : List ChanView) → account_of held ∷ with_logs [] helds ≡ account_of held ∷ []
none_past held [] = refl
none_past held (next ∷ helds) = refl

-- one more account gets the log of its channel
with_logs_push : (helds : List ChanView) (n : ℕ) (accounts : List Account) (account : Account) → length accounts ≡ n
    → account ≡ without_log (account_of (slice_index_or helds n missing))
    → with_logs (accounts ++ account ∷ []) helds
    ≡ with_logs accounts helds ++ account_of (slice_index_or helds n missing) ∷ []
with_logs_push [] n accounts account many is = with_none n accounts account is
with_logs_push (held ∷ helds) zero [] account many is =
    ap (λ (a : Account). record a { log = held.logged.log } ∷ with_logs [] helds) is ∙ none_past held helds
with_logs_push (held ∷ helds) zero (one ∷ accounts) account many is = absurd (omega (arith, many))
with_logs_push (held ∷ helds) (suc n) [] account many is = absurd (omega (arith, many))
with_logs_push (held ∷ helds) (suc n) (one ∷ accounts) account many is =
    ap (λ more. record one { log = held.logged.log } ∷ more)
    (with_logs_push helds n accounts account (omega (arith, many)) is)

-- the accounts with the logs of their channels, and one more without its log
pub logged_more : (lines : List Decl) (helds : List ChanView) (n : ℕ) (accounts accounts' : List Account)
    (account : Account) → length accounts ≡ n
    → AreAccounts lines helds n (with_logs accounts helds) → accounts' ≡ accounts ++ account ∷ []
    → IsSnapshotAt (λ held. without_log (account_of held)) lines helds n account
    → AreAccounts lines helds (n + 1) (with_logs accounts' helds)
logged_more lines helds n accounts accounts' account many are push is =
    accounts_more lines helds n (with_logs accounts helds) (with_logs accounts' helds)
    (account_of (slice_index_or helds n missing)) are
    (ap (λ more. with_logs more helds) push ∙ with_logs_push helds n accounts account many is.1) (is.0, refl)

-- no accounts get no logs
pub logged_none : (lines : List Decl) (helds : List ChanView) (accounts : List Account) → accounts ≡ []
    → AreAccounts lines helds 0 (with_logs accounts helds)
logged_none lines [] accounts is = subst (AreAccounts lines [] 0) (sym is) (none_are lines [])
logged_none lines (held ∷ helds) accounts is =
    subst (λ (none : List Account). AreAccounts lines (held ∷ helds) 0 (with_logs none (held ∷ helds))) (sym is)
    (none_are lines (held ∷ helds))

-- an account that is there gets a log
pub log_set : (accounts : List Account) (n : ℕ) (log : List Entry) (d : Account) → n < length accounts
    → slice_set accounts n (record (slice_index_or accounts n d) { log = log }) ≡ with_log_at accounts n log
log_set [] n log d few = absurd (omega (arith, few))
log_set (account ∷ accounts) zero log d few = refl
log_set (account ∷ accounts) (suc n) log d few =
    ap (λ more. account ∷ more) (log_set accounts n log d (omega (arith, few)))

-- if no account is there, none gets a log
pub log_past : (accounts : List Account) (n : ℕ) (log : List Entry) → length accounts ≤ n
    → accounts ≡ with_log_at accounts n log
log_past [] n log past = refl
log_past (account ∷ accounts) zero log past = absurd (omega (arith, past))
log_past (account ∷ accounts) (suc n) log past =
    ap (λ more. account ∷ more) (log_past accounts n log (omega (arith, past)))

-- the first 0 channels have no summaries
pub briefs_none : (lines : List Decl) (helds : List ChanView) (summaries : List Summary) → summaries ≡ []
    → AreSummaries lines helds 0 summaries
briefs_none lines helds summaries is = subst (AreSummaries lines helds 0) (sym is)
    (record { accounts = []; are = none_are lines helds; summarized = refl })

pub briefs_more : (lines : List Decl) (helds : List ChanView) (n : ℕ) (summaries briefs' : List Summary)
    (summary : Summary)
    → AreSummaries lines helds n summaries
    → briefs' ≡ summaries ++ summary ∷ [] → IsSnapshotAt summary_of lines helds n summary
    → AreSummaries lines helds (n + 1) briefs'
briefs_more lines helds n summaries briefs' summary are push is =
    let account : Account = account_of (slice_index_or helds n missing) in
    let its : summary ≡ summary_in account = is.1 in
    let before : summaries ++ summary ∷ [] ≡ map summary_in are.accounts ++ summary ∷ [] =
    ap (λ bs. bs ++ summary ∷ []) are.summarized in
    let one : map summary_in are.accounts ++ summary ∷ [] ≡ map summary_in are.accounts ++ summary_in account ∷ [] =
    ap (λ b. map summary_in are.accounts ++ b ∷ []) its in
    record {
      accounts = are.accounts ++ account ∷ [];
      are = accounts_more lines helds n are.accounts (are.accounts ++ account ∷ []) account are.are refl (is.0, refl);
      summarized = push ∙ before ∙ one ∙ sym (map_push summary_in are.accounts account);
    }

with_none_left : (accounts : List Account) → accounts ≡ with_logs accounts []
with_none_left [] = refl
with_none_left (account ∷ accounts) = refl

-- the next account gets the log of the next channel
pub with_log_more : (accounts : List Account) (helds : List ChanView) (n : ℕ) (held : ChanView) → n ≡ length helds
    → with_log_at (with_logs accounts helds) n held.logged.log ≡ with_logs accounts (helds ++ held ∷ [])
with_log_more [] [] n held is = refl
with_log_more [] (h ∷ helds) n held is = refl
with_log_more (account ∷ accounts) [] zero held is = ap (λ more. record account { log = held.logged.log } ∷ more)
    (with_none_left accounts)
with_log_more (account ∷ accounts) [] (suc n) held is = absurd (omega (arith, is))
with_log_more (account ∷ accounts) (h ∷ helds) zero held is = absurd (omega (arith, is))
with_log_more (account ∷ accounts) (h ∷ helds) (suc n) held is =
    ap (λ more. record account { log = h.logged.log } ∷ more) (with_log_more accounts helds n held (omega (arith, is)))
