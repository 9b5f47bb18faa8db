use Rattle.std.proofs.Common.{rules, ◌≡◌, ◌<◌, ◌+◌, ◌∙◌, ap, sym, subst, All, length, ◌++◌, ◌∷◌, []}
use mathlib.Core.List.{IsPrefix}
use Rattle.txc_chan.specs.Body.{last_entries}
use Rattle.txc_chan.specs.Logged.{Logged}
use Rattle.txc_table_line.specs.LineChan.{LineChanView}
use Rattle.txc_table_line.proofs.Counting.{begins, line_chan_settled, same_ledgered}
use Rattle.txc_table_line.proofs.line_chan.LineChan.settle.Goals as goal

pub grow-requires : goal.grow-requires
grow-requires g c =
    subst (λ log. IsPrefix c.self.inside.log.log log) (sym (ap (λ (l : Logged). l.log) c.settle.ensures.logged))
    (begins _ _ _ _ _ c.self.invariant.1)

pub invariant_of-self : goal.invariant_of-self
invariant_of-self g c = (
  search rules,
  same_ledgered _ c.settle.new.self.logged _ c.add.new.self.total _ c.add-2.new.self.total _ c.grow.new.self.log _
      c.push.new.self.log
      c.settle.ensures.logged
      (c.add.ensures.total ∙ ap (λ n. c.self.inside.entries.total + n) c.pending.ensures.value)
      (c.grow.ensures.1 ∙ ap (λ (l : Logged). l.log) c.settle.ensures.logged)
      c.add-2.ensures.total
      (c.push.ensures.1 ∙ ap (λ n. c.self.inside.marks.log ++ record { tag = c.args.tag; len = n } ∷ [])
      (c.log_len-len.ensures ∙ ap (λ (l : Logged). length l.log) c.settle.ensures.logged))
      (line_chan_settled _ _ _ _ c.args.tag _ c.self.invariant.1
      (subst (λ (h : LineChanView). All (λ entry. entry.tag.stamp ≡ c.args.tag.stamp)
      (last_entries h.held.logged.pending h.held.logged.log)) (sym c.self.view_is) c.requires.stamped)
      (subst (λ (h : LineChanView). h.held.logged.stamp < c.args.tag.stamp) (sym c.self.view_is) c.requires.later)),
  search rules,
)
