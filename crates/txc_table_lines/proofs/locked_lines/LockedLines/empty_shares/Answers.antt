use Rattle.std.proofs.Common.{◌≡◌, ◌∙◌, ◌≤◌, ap, subst, sym, length, map, take, List, ℕ, arith}
use Rattle.std.proofs.lemmas.List.{take_all}
use Rattle.txc_table_line.specs.LineChan.{LineChanView}
use Rattle.txc_table_line.specs.Line.{LedgerSharesView}
use Rattle.txc_table_lines.specs.Locked.{HaveParts, amounts_in, ledgers_in, made_in, no_part}
use Rattle.txc_table_lines.proofs.Collecting.{amounts_nothing, ledgers_nothing, made_nothing, parts_nothing}
use Rattle.txc_table_lines.proofs.locked_lines.LockedLines.empty_shares.Goals as goal

-- the shares after the loop
left : (shares : List LedgerSharesView) (now : List LineChanView) (at : ℕ) → length now ≤ at
    → shares ≡ map (λ channel. no_part channel.line.ledgers) (take at now)
    → shares ≡ map (λ channel. no_part channel.line.ledgers) now
left shares now at all are =
    are ∙ ap (map (λ (channel : LineChanView). no_part channel.line.ledgers)) (take_all at now all)

pub returns-clause-ledgers : goal.returns-clause-ledgers
returns-clause-ledgers g c =
    ap ledgers_in (left _ _ _ (omega (arith, c.loop-at-test.false, c.len-at-end.ensures.value))
    c.loop-at.invariant.shares)
    ∙ ledgers_nothing c.args.self.now

pub returns-clause-parts : goal.returns-clause-parts
returns-clause-parts g c =
    subst (HaveParts 0) (sym (left _ _ _ (omega (arith, c.loop-at-test.false, c.len-at-end.ensures.value))
    c.loop-at.invariant.shares))
    (parts_nothing c.args.self.now)

pub returns-clause-amounts : goal.returns-clause-amounts
returns-clause-amounts g c =
    ap amounts_in (left _ _ _ (omega (arith, c.loop-at-test.false, c.len-at-end.ensures.value))
    c.loop-at.invariant.shares)
    ∙ amounts_nothing c.args.self.now

pub returns-clause-made : goal.returns-clause-made
returns-clause-made g c =
    ap made_in (left _ _ _ (omega (arith, c.loop-at-test.false, c.len-at-end.ensures.value)) c.loop-at.invariant.shares)
    ∙ made_nothing c.args.self.now
