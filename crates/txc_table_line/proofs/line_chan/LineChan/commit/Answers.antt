use Rattle.std.proofs.Common.{rules, ◌≡◌, ◌<◌, ◌+◌, ◌∙◌, refl, ap, sym, subst, [], ◌∷◌, ◌++◌, IfSome}
use Rattle.txc_chan.specs.Committed.{IsCommittedOp}
use Rattle.txc_chan.specs.Logged.{Logged}
use Rattle.txc_table_line.specs.LineChan.{LineChanView}
use Rattle.txc_table_line.proofs.Counting.{line_chan_committed, same_ledgered}
use Rattle.txc_table_line.proofs.line_chan.LineChan.commit.Goals as goal

pub invariant_of-self-2 : goal.invariant_of-self-2
invariant_of-self-2 g c =
    let old : Logged = c.self.inside.chan.logged in
    let new : Logged = c.commit.new.self.logged in
    let done : IsCommittedOp c.args.tag c.args.op.now c.in-Some.act old new =
    subst (λ found. IfSome found (λ act. IsCommittedOp c.args.tag c.args.op.now act old new)) c.in-Some.is
    c.in_ok-act.ensures.done in
    let clean : old.pending ≡ 0 =
    subst (λ (h : LineChanView). h.held.logged.pending ≡ 0) (sym c.self.view_is) c.requires.clean in
    let later : old.stamp < c.args.tag.stamp =
    subst (λ (h : LineChanView). h.held.logged.stamp < c.args.tag.stamp) (sym c.self.view_is) c.requires.later in (
      search rules,
      same_ledgered new new _ c.add.new.self.total _ c.add-2.new.self.total _ c.grow.new.self.log _ c.push.new.self.log
          refl c.add.ensures.total c.grow.ensures.1 c.add-2.ensures.total
          (c.push.ensures.1 ∙ ap (λ n. c.self.inside.marks.log ++ record { tag = c.args.tag; len = n } ∷ [])
          c.log_len-len.ensures)
          (line_chan_committed _ _ _ _ c.args.tag c.args.op.now c.in-Some.act old new c.self.invariant.1 done clean
          later),
      search rules,
    )
