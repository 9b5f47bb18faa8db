use Rattle.std.proofs.Common.{◌≡◌, ◌∙◌, ap, length, map, take}
use Rattle.std.proofs.lemmas.List.{length-map}
use Rattle.txc_chan.specs.Chan.{account_of}
use Rattle.txc_chan.specs.declared.decl.Decl.{Decl}
use Rattle.txc_cmd_report.specs.Outcome.{without_slots}
use Rattle.txc_txn.specs.Plain.{chan_in}
use Rattle.txc_cmd_replay.proofs.Accounts.{accounts_of_all, outcome_is}
use Rattle.txc_cmd_replay.proofs.rounds.replay.Goals as goal

pub returns-clause-ok : goal.returns-clause-ok
returns-clause-ok g c =
    let outcome = c.in_ok-outcome_with.ensures in
    let held = c.run_rounds.new.channels.held in
    let decls = c.args.script.now.decls in
    let many : length c.run_rounds.new.channels.kinds ≡ length decls =
    ap length (c.run_rounds.ensures.kinds ∙ c.in_ok-channels.ensures.kinds) ∙ length-map decls (λ (d : Decl). d.kind) in
    let first : map without_slots c.in_ok-accounts.accounts.items
    ≡ map without_slots (map account_of (take (length decls) held)) =
    ap (map without_slots) c.in_ok-accounts.ensures.ok
    ∙ ap (λ n. map without_slots (map account_of (take n held))) many in
    outcome_is c.args.script.now c.in_ok-outcome_with.field-0 c.in_ok-accounts.accounts.items
    c.in_ok-progress.progress.items (chan_in c.run_rounds.new.channels.held)
    (first ∙ accounts_of_all decls held (rw (← many) c.into_accounts.ensures.there))
    c.in_ok-progress.ensures.ok outcome.accounts outcome.receipts outcome.ends
