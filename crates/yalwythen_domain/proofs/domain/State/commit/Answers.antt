use Rattle.std.proofs.Common.{◌∙◌, rules, sym, ap, max, slice_set}
use Rattle.txc_txn.specs.declared.receipt.Receipt.{Receipt}
use Rattle.txc_txn.specs.Plain.{chan_in}
use Rattle.yalwythen_domain.specs.Ending.{seat_tag_after}
use Rattle.yalwythen_domain.proofs.domain.State.commit.Goals as goal

pub returns : goal.returns
returns g c = rw (sym c.self.view_is) (record {
  answered = λ is_open. search rules;
  receipt = λ is_open m. c.note.ensures.last ∙ c.commit-receipt.ensures.receipt m;
  settled = λ is_open. search rules;
  tags = λ is_open. c.note.ensures.tags
      ∙ ap (λ seat. slice_set c.self.inside.tags.items seat (seat_tag_after c.commit-receipt.result.tag))
      c.from-seat.ensures
      ∙ ap (λ (receipt : Receipt). slice_set c.self.inside.tags.items receipt.tag.seat (seat_tag_after receipt.tag))
      (c.commit-receipt.ensures.receipt (chan_in c.self.inside.channels.held));
  clock = λ is_open. c.note.ensures.clock
      ∙ ap (λ (receipt : Receipt). max c.self.inside.clock receipt.tag.stamp)
      (c.commit-receipt.ensures.receipt (chan_in c.self.inside.channels.held));
  status = λ is_open. search rules;
  kinds = search rules;
  refused = λ no. search rules;
})
