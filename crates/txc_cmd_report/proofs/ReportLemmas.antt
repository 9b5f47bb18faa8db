-- A report is its parts, one behind the other.
use Rattle.std.proofs.Common.{◌≡◌, refl, sym, ◌∙◌, ap, ℕ, suc, List, [], ◌∷◌, ◌++◌, append_assoc, codes, map, Result}
use Rattle.std.proofs.Common.{Ok, Err, OnOk, is_ok, if◌then◌else◌}
use Rattle.std.proofs.lemmas.Result.{on_ok_weaker}
use Rattle.std.specs.Fmt.{decimal}
use Rattle.txc_chan.specs.declared.account.Account.{Account}
use Rattle.txc_cmd_report.specs.declared.outcome.Outcome.{Outcome as Ran}
use Rattle.txc_cmd_report.specs.Outcome.{outcome_of, without_slots}
use Rattle.txc_cmd_report.specs.Text.{transaction_text, account_text, accounts_text, last_text, seats_text, text_of}

-- the slots stand in no line
text-without_slots : (chan : ℕ) (accounts : List Account)
    → accounts_text chan (map without_slots accounts) ≡ accounts_text chan accounts
text-without_slots chan [] = refl
text-without_slots chan (account ∷ accounts) = ap (λ rest. account_text chan account ++ rest)
    (text-without_slots (suc chan) accounts)

parts : (b0 b1 b2 b3 p q r : List ℕ) → b1 ≡ b0 ++ p → b2 ≡ b1 ++ q → b3 ≡ b2 ++ r → b3 ≡ b0 ++ (p ++ q ++ r)
parts b0 b1 b2 b3 p q r e f g = cc (append_assoc b0 p q, append_assoc b0 (p ++ q) r)

-- the seats, the channels and the last line
pub report_parts : (ran : Ran) (b0 b1 b2 b3 : List ℕ) → b1 ≡ b0 ++ seats_text 0 ran.report.receipts ran.ends
    → b2 ≡ b1 ++ accounts_text 0 ran.report.accounts → b3 ≡ b2 ++ last_text ran.ends
    → b3 ≡ b0 ++ text_of (outcome_of ran)
unfolding text_of
report_parts ran b0 b1 b2 b3 e f g = rw (text-without_slots 0 ran.report.accounts) (parts b0 b1 b2 b3 _ _ _ e f g)

-- what a write leaves where it was done
pub when_ok : {T E : Type 0} (r : Result T E) (b t u : List ℕ) (P : Type 0) → b ≡ (if is_ok r then t else u)
    → (b ≡ t → P) → OnOk r P
when_ok (Ok x) b t u P e h = h e
when_ok (Err x) b t u P e h = tt

-- words were written, and then more
pub said_then : {T E : Type 0} (r : Result T E) (b b1 old words more text : List ℕ) → b1 ≡ old ++ words
    → OnOk r (b ≡ b1 ++ more) → text ≡ words ++ more → OnOk r (b ≡ old ++ text)
said_then r b b1 old words more text first next is =
    on_ok_weaker r (λ e. e ∙ ap (λ w. w ++ more) first ∙ append_assoc old words more ∙ ap (λ w. old ++ w) (sym is)) next

-- words were written in one write, which are this text
pub written : {T E : Type 0} (r : Result T E) (b old words text : List ℕ) → OnOk r (b ≡ old ++ words) → text ≡ words
    → OnOk r (b ≡ old ++ text)
written r b old words text e is = on_ok_weaker r (λ h. h ∙ ap (λ w. old ++ w) (sym is)) e

-- how a line of a seat's transaction begins
pub transaction_said : (seat number : ℕ)
    → transaction_text seat number ≡ codes "seat " ++ (decimal seat ++ (codes " txn " ++ decimal number))
transaction_said seat number = simp append_assoc
