-- The channels of a table, taken out of their locks one after another.
use Rattle.std.proofs.Common.{◌≡◌, ◌∙◌, refl, sym, ap, ℕ, ◌<◌, Option, Some, List, [], ◌∷◌, ◌++◌, length, map, arith}
use Rattle.txc_base.specs.declared.entry.Entry.{Entry}
use Rattle.txc_chan.specs.declared.account.Account.{Account}
use Rattle.txc_table_line.specs.LineChan.{LineChanView, no_channel}
use Rattle.txc_table_lines.specs.Accounted.{with_log_at, with_logs}
use Rattle.txc_table_lines.specs.Guards.{channel_in}
use Rattle.txc_table_lines.specs.Locked.{channel_at, helds_of}
use Rattle.txc_table_lines.proofs.Accounting.{with_log_more}
use Rattle.txc_table_lines.proofs.Gaining.{next_below, next_is}
use Rattle.txc_table_lines.proofs.Mapping.{map_push}
use Rattle.txc_table_lines.proofs.Sharing.{map_at, map_long}

-- the next line is there
pub next_there : (before rest rest' : List (Option LineChanView)) (now : List LineChanView)
    (line : Option LineChanView) (n : ℕ) → map channel_in (before ++ rest) ≡ now → rest ≡ line ∷ rest'
    → n ≡ length before → n < length now
next_there before rest rest' now line n all is at = omega (
  arith,
  next_below before rest rest' (before ++ rest) line n refl is at,
  ap length all,
  map_long channel_in (before ++ rest),
)

-- .. and is that of the channel with its number
pub channel_next : (before rest rest' : List (Option LineChanView)) (now : List LineChanView)
    (line : Option LineChanView) (n : ℕ) (channel : LineChanView) → map channel_in (before ++ rest) ≡ now
    → rest ≡ line ∷ rest' → n ≡ length before → line ≡ Some channel → channel_at now n ≡ channel
channel_next before rest rest' now line n channel all is at some =
    sym (ap (λ (cs : List LineChanView). channel_at cs n) all)
    ∙ map_at channel_in (before ++ rest) n line no_channel
    (next_below before rest rest' (before ++ rest) line n refl is at)
    ∙ ap channel_in (next_is before rest rest' (before ++ rest) line n line refl is at ∙ some)

-- the next account gets the log of the channel
pub account_more : (accounts : List Account) (before : List (Option LineChanView)) (line : Option LineChanView)
    (channel : LineChanView) (n : ℕ) (given : List Account) (log : List Entry)
    → given ≡ with_logs accounts (helds_of (map channel_in before)) → n ≡ length before → line ≡ Some channel
    → log ≡ channel.held.logged.log
    → with_log_at given n log ≡ with_logs accounts (helds_of (map channel_in (before ++ line ∷ [])))
account_more accounts before line channel n given log are at some its =
    ap (λ (ls : List Account). with_log_at ls n log) are
    ∙ ap (with_log_at (with_logs accounts (helds_of (map channel_in before))) n) its
    ∙ with_log_more accounts (helds_of (map channel_in before)) n channel.held (omega (
      arith,
      at,
      map_long (λ (c : LineChanView). c.held) (map channel_in before),
      map_long channel_in before,
    ))
    ∙ ap (with_logs accounts) (sym (ap helds_of (map_push channel_in before line)
    ∙ map_push (λ (c : LineChanView). c.held) (map channel_in before) (channel_in line)
    ∙ ap (λ (o : Option LineChanView). helds_of (map channel_in before) ++ (channel_in o).held ∷ []) some))
