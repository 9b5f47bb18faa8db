use Rattle.std.proofs.Common.{◌≡◌, sym, subst, List, [], ◌∷◌, ◌++◌, map}
use Rattle.std.specs.Prelude.{OnOk}
use Rattle.txc_base.specs.declared.item.Item.{Item}
use Rattle.txc_cast.specs.Broadcast.{Appends, read_of}
use Rattle.txc_chan.specs.declared.body.Body.{Body}
use Rattle.txc_chan.specs.Body.{lists_of}
use Rattle.txc_chan.proofs.BodyLemmas.{on_ok_mapped, read_of-append}
use Rattle.txc_chan.proofs.body.Body.write.Goals as goal

pub returns-in-Shelved-clause-lists : goal.returns-in-Shelved-clause-lists
returns-in-Shelved-clause-lists g c =
    subst (λ (old : Body). OnOk c.map_err-in-Shelved.result
    (read_of c.append_to.new.cast ≡ map (λ (list : List Item). list ++ c.args.item ∷ []) (lists_of old)))
    (sym c.in-Shelved.is)
    (on_ok_mapped (Appends c.in-Shelved.cast c.args.item c.append_to.new.cast) _ c.append_to.result
    c.map_err-in-Shelved.result c.map_err-in-Shelved.ensures.variant
    (read_of-append c.in-Shelved.cast c.append_to.new.cast c.args.item) c.append_to.ensures.ok)
