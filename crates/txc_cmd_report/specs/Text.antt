-- The text of a report.
use Rattle.std.specs.Prelude.{ℕ, suc, Bool, true, false, List, [], ◌∷◌, ◌++◌, length, codes, if◌then◌else◌}
use Rattle.std.specs.Fmt.{decimal}
use Rattle.std.specs.List.{flat_map, list_any}
use Rattle.txc_base.specs.declared.item.Item.{Item}
use Rattle.txc_base.specs.declared.reply.Reply.{Reply}
use Rattle.txc_base.specs.Counts.{put, took, other}
use Rattle.txc_base.specs.Kinds.{name_of}
use Rattle.txc_base.specs.Text.{items_text, reply_text, cause_text, stop_text}
use Rattle.txc_chan.specs.declared.account.Account.{Account}
use Rattle.txc_txn.specs.declared.receipt.Receipt.{Receipt}
use Rattle.txc_cmd_report.specs.declared.seat_end.SeatEnd.{SeatEnd}
use Rattle.txc_cmd_report.specs.declared.seat_end.SeatEnd.TheVariants.{Finished, Stalled, Stopped}
use Rattle.txc_cmd_report.specs.Outcome.{Outcome}

-- the further replies, each after a semicolon and a space
abbrev pub further_text : List Reply → List ℕ
further_text replies = flat_map (λ reply. codes "; " ++ reply_text reply) replies

-- replies: the first after a space
abbrev pub replies_text : List Reply → List ℕ
replies_text [] = []
replies_text (reply ∷ replies) = codes " " ++ reply_text reply ++ further_text replies

-- the beginning of a line of a seat's transaction
abbrev pub transaction_text : ℕ → ℕ → List ℕ
transaction_text seat number = codes "seat " ++ decimal seat ++ codes " txn " ++ decimal number

-- the line of a committed transaction
abbrev pub receipt_text : ℕ → ℕ → List Reply → List ℕ
receipt_text seat number replies = transaction_text seat number ++ codes " kept:" ++ replies_text replies ++ codes "\n"

-- the committed transactions of a seat, one line each, from this number on
abbrev pub receipts_text : ℕ → ℕ → List Receipt → List ℕ
receipts_text seat number [] = []
receipts_text seat number (receipt ∷ receipts) = receipt_text seat number receipt.replies
    ++ receipts_text seat (suc number) receipts

-- the line of a seat that did not finish, at the transaction with this number
abbrev pub end_text : ℕ → ℕ → SeatEnd → List ℕ
end_text seat number Finished = []
end_text seat number (Stalled why) = transaction_text seat number ++ codes " stalled: " ++ cause_text why ++ codes "\n"
end_text seat number (Stopped why) = transaction_text seat number ++ codes " stopped: " ++ stop_text why ++ codes "\n"

-- the lines of a seat: its receipts and its end
abbrev pub seat_text : ℕ → List Receipt → SeatEnd → List ℕ
seat_text seat receipts end = receipts_text seat 0 receipts ++ end_text seat (length receipts) end

-- the lines of each seat, from this number on
abbrev pub seats_text : ℕ → List (List Receipt) → List SeatEnd → List ℕ
seats_text seat [] ends = []
seats_text seat (receipts ∷ rest) [] = []
seats_text seat (receipts ∷ rest) (end ∷ ends) = seat_text seat receipts end ++ seats_text (suc seat) rest ends

-- whether a channel is closed
abbrev pub state_text : Bool → List ℕ
state_text false = codes "open"
state_text true = codes "closed"

-- a channel with the counts of its log
abbrev pub counts_text : ℕ → Account → List ℕ
counts_text chan account = codes "chan " ++ decimal chan ++ codes " " ++ name_of account.kind ++ codes " "
    ++ state_text account.closed
    ++ codes " put " ++ decimal (put account.log) ++ codes " took " ++ decimal (took account.log) ++ codes " other "
    ++ decimal (other account.log) ++ codes "\n"

-- the items that a reader has left
abbrev pub reader_text : ℕ → ℕ → List Item → List ℕ
reader_text chan reader list =
    codes "chan " ++ decimal chan ++ codes " reader " ++ decimal reader ++ codes " left:" ++ items_text list
    ++ codes "\n"

-- the items that each reader has left, one line each, from this reader on
abbrev pub readers_text : ℕ → ℕ → List (List Item) → List ℕ
readers_text chan reader [] = []
readers_text chan reader (list ∷ lists) = reader_text chan reader list ++ readers_text chan (suc reader) lists

-- a channel: its counts, and the items that its readers have left
abbrev pub account_text : ℕ → Account → List ℕ
account_text chan account = counts_text chan account ++ readers_text chan 0 account.remaining

-- each channel, from this number on
abbrev pub accounts_text : ℕ → List Account → List ℕ
accounts_text chan [] = []
accounts_text chan (account ∷ accounts) = account_text chan account ++ accounts_text (suc chan) accounts

-- whether a seat was stopped
abbrev pub is_stopped : SeatEnd → Bool
is_stopped (Stopped stop) = true
is_stopped end = false

-- whether a seat stalled
abbrev pub is_stalled : SeatEnd → Bool
is_stalled (Stalled cause) = true
is_stalled end = false

-- the last line
abbrev pub last_text : List SeatEnd → List ℕ
last_text ends = if list_any is_stopped ends then codes "end stopped\n"
    else if list_any is_stalled ends then codes "end stalled\n" else codes "end done\n"

-- the report
unfoldable pub text_of : Outcome → List ℕ
text_of o = seats_text 0 o.receipts o.ends ++ accounts_text 0 o.accounts ++ last_text o.ends
