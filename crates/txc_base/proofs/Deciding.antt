-- What `==` says of plain values: it is true exactly where they are equal.
use Rattle.std.proofs.Common.{◌≡◌, refl, ap, rules, Decides}
use Rattle.std.proofs.lemmas.Bool.Decides.{Decides-and, Decides-like}
use Rattle.std.proofs.lemmas.Slice.Eq.{slice_eq-Decides}
use Rattle.txc_base.specs.declared.act.Act.{Act}
use Rattle.txc_base.specs.declared.entry.Entry.{Entry}
use Rattle.txc_base.specs.declared.item.Item.{Item}
use Rattle.txc_base.specs.declared.reply.Reply.{Reply}
use Rattle.txc_base.specs.declared.reply.Reply.TheVariants.{Done, Got, Full, Empty, Closed, Flag, Reader, Count, All}
use Rattle.txc_base.specs.declared.tag.Tag.{Tag}
use Rattle.txc_base.specs.contracts.act.ActPartialEq.TheImpl as act
use Rattle.txc_base.specs.contracts.entry.EntryPartialEq.TheImpl as entry
use Rattle.txc_base.specs.contracts.item.ItemPartialEq.TheImpl as item
use Rattle.txc_base.specs.contracts.reply.ReplyPartialEq.TheImpl as reply
use Rattle.txc_base.specs.contracts.tag.TagPartialEq.TheImpl as tag

-- of items
pub decides_item : (a b : Item) → Decides (item.eq-value.it a b) (a ≡ b)
decides_item a b = search rules

-- of acts
pub decides_act : (a b : Act) → Decides (act.eq-value.it a b) (a ≡ b)
decides_act a b = search rules

-- of tags
pub decides_tag : (a b : Tag) → Decides (tag.eq-value.it a b) (a ≡ b)
decides_tag a b = search rules

-- of entries
pub decides_entry : (a b : Entry) → Decides (entry.eq-value.it a b) (a ≡ b)
decides_entry a b =
    Decides-like _ (λ p j. record { tag = p.0 j; act = p.1 j })
    (λ e. (ap (λ (x : Entry). x.tag) e, ap (λ (x : Entry). x.act) e))
    (Decides-and _ _ (decides_tag a.tag b.tag) (decides_act a.act b.act))

-- of replies
pub decides_reply : (a b : Reply) → Decides (reply.eq-value.it a b) (a ≡ b)
decides_reply Done b = search rules
decides_reply (Got item) b = search (rules, decides_item)
decides_reply Full b = search rules
decides_reply Empty b = search rules
decides_reply Closed b = search rules
decides_reply (Flag flag) b = search rules
decides_reply (Reader n) b = search rules
decides_reply (Count n) b = search rules
decides_reply (All items) (All others) =
    Decides-like _ (ap All) (λ e. cc) (slice_eq-Decides decides_item items others _ refl)
decides_reply (All items) b = search rules
