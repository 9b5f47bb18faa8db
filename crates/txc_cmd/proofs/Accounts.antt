-- The accounts of a report are those of the channels that they show.
use Rattle.std.proofs.Common.{◌≡◌, sym, ◌∙◌, ap, subst, ℕ, suc, ◌+◌, Some, List, [], ◌∷◌}
use Rattle.std.proofs.Common.{refl, length, map, slice_get, arith}
use Rattle.std.proofs.lemmas.Option.{get_or_from_slice_get}
use Rattle.txc_base.specs.Channel.{opening}
use Rattle.txc_base_laws.proofs.Truth.{determined}
use Rattle.txc_chan.specs.declared.account.Account.{Account}
use Rattle.txc_chan.specs.declared.decl.Decl.{Decl}
use Rattle.txc_chan.specs.Logged.{MatchesLog, Logged}
use Rattle.txc_txn.specs.Maps.{Map}
use Rattle.txc_table_line.specs.Account.{IsAccount}
use Rattle.txc_table_line.specs.Line.{decl_at, no_line}
use Rattle.txc_cmd_report.specs.Outcome.{account_in, without_slots}
use Rattle.txc_cmd_replay.specs.Rounds.{accounts_from}
use Rattle.txc_txn_history.specs.OneOrder.{Shows}

-- an account without its slots is that of the channel that it shows, where both are of one declaration
same_account : (decl : Decl) (amount : ℕ) (account : Account) (l : Logged) → IsAccount decl amount account
    → Shows account l → l.decl ≡ decl → MatchesLog l → without_slots account ≡ account_in l
same_account decl amount account l is shows declared lawful =
    ap without_slots is.is ∙ (λ i. record {
      kind = (both i).kind;
      bound = (channel i).bound;
      first_readers = length (opening (both i).kind (both i).bound (both i).readers).lists;
      closed = (channel i).closed;
      log = log i;
      remaining = (channel i).lists;
      slots = [];
    })
  where
    both : is.held.logged.decl ≡ l.decl
    both = is.declared ∙ sym declared

    log : is.held.logged.log ≡ l.log
    log = sym (ap (λ (a : Account). a.log) is.is) ∙ shows.log

    channel : is.held.logged.channel ≡ l.channel
    channel = determined l.decl.kind l.decl.bound l.decl.readers l.log is.held.logged.channel l.channel
        (subst (λ (x : Logged). MatchesLog x) (λ i. record {
          decl = both i;
          channel = is.held.logged.channel;
          log = log i;
          pending = 0;
          stamp = 0;
        }) is.lawful)
        lawful

-- so of a report whose channels are as declared and true to their logs
pub same_accounts : (chan : ℕ) (decls : List Decl) (accounts : List Account) (m : Map) → length accounts ≡ length decls
    → ((n : ℕ) (decl : Decl) (account : Account) → slice_get decls n ≡ Some decl → slice_get accounts n ≡ Some account
    → without_slots account ≡ account_in (m (chan + n)))
    → map without_slots accounts ≡ accounts_from chan decls m
same_accounts chan [] [] m same each = refl
same_accounts chan [] (account ∷ accounts) m same each = absurd (omega (arith, same))
same_accounts chan (decl ∷ decls) [] m same each = absurd (omega (arith, same))
same_accounts chan (decl ∷ decls) (account ∷ accounts) m same each =
    let e : chan + 0 ≡ chan = omega arith in
    λ i. (each 0 decl account refl refl ∙ ap (λ k. account_in (m k)) e) i
    ∷ same_accounts (suc chan) decls accounts m (omega (arith, same))
    (λ n d a at at'. let more : chan + suc n ≡ suc chan + n = omega arith in
    each (suc n) d a at at' ∙ ap (λ k. account_in (m k)) more) i

-- an account of a declared channel is that of a channel as it was declared
pub account_is : (decls : List Decl) (n amount : ℕ) (decl : Decl) (account : Account) (l : Logged)
    → slice_get decls n ≡ Some decl → IsAccount (decl_at decls n) amount account
    → Shows account l → (l.decl ≡ decl) × MatchesLog l → without_slots account ≡ account_in l
account_is decls n amount decl account l at is shows so =
    same_account decl amount account l
    (subst (λ (d : Decl). IsAccount d amount account) (get_or_from_slice_get decls n decl no_line at) is) shows so.0
    so.1
