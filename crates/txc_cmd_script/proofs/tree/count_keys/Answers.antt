use Rattle.std.proofs.Common.{sym, ◌∙◌}
use Rattle.txc_cmd_script.proofs.TreeLemmas.{member_count-members_view, key_count-object}
use Rattle.txc_cmd_script.proofs.tree.count_keys.Goals as goal

pub returns-in-Some : goal.returns-in-Some
returns-in-Some c =
    c.len.ensures.len ∙ sym (member_count-members_view c.in-Some.members.now.entries)
    ∙ sym (key_count-object _ _ c.in-Some.ensures)
