use Rattle.std.proofs.Common.{ap₂, ◌∙◌}
use Rattle.std.proofs.lemmas.Result.{IfOk-weaker}
use Rattle.clap.specs.Words.{with_subcommand}
use Rattle.txc_cmd_io.proofs.words.command_line.Goals as goal

pub returns : goal.returns
returns c =
    let check = c.leaf_command.ensures in
    let replay = c.leaf_command-2.ensures in
    let explore = c.leaf_command-3.ensures in
    let run = c.leaf_command-4.ensures in
    IfOk-weaker c.subcommand-4.result _ _ (λ command adds.
    adds.shape run.1 ∙ ap₂ with_subcommand (c.in_ok-subcommand-3.ensures.shape explore.1
    ∙ ap₂ with_subcommand (c.in_ok-subcommand-2.ensures.shape replay.1
    ∙ ap₂ with_subcommand (c.in_ok-subcommand.ensures.shape check.1
    ∙ ap₂ with_subcommand c.bare_command.ensures check.0) replay.0) explore.0) run.0)
    c.subcommand-4.ensures
