use Rattle.std.proofs.Common.{rules, ◌≡◌, ◌∙◌, ap, map}
use Rattle.txc_chan.specs.Logged.{opened}
use Rattle.txc_cmd_replay.proofs.Accounts.{kinds_same}
use Rattle.txc_cmd_replay.proofs.channels.Channels.open.Goals as goal

pub returns-clause-kinds : goal.returns-clause-kinds
returns-clause-kinds c =
    let made : map (λ held. held.logged) c.in_ok-plain.plain ≡ map opened c.decls.result.now = search rules in
    let declared = made ∙ ap (map opened) c.decls.ensures in
    c.in_ok-kinds.ensures.ok ∙ kinds_same c.in_ok-plain.plain c.args.script.now.decls declared
