use Rattle.std.proofs.Common.{rules, ◌≡◌, ◌∙◌, ap, map, ◌++◌, ◌∷◌, []}
use Rattle.std.proofs.lemmas.List.{map-append}
use Rattle.txc_chan.specs.ChanView.{ChanView}
use Rattle.txc_chan.specs.Logged.{Logged}
use Rattle.txc_txn.proofs.plain.Plain.push.Goals as goal

pub returns-clause-ok : goal.returns-clause-ok
returns-clause-ok g c =
    let items : c.push.new.self.items ≡ c.args.self.now ++ c.in_ok-added.added ∷ [] = search rules in
    rw items
    (map-append (λ (held : ChanView). held.logged) c.args.self.now (c.in_ok-added.added ∷ [])
    ∙ ap (λ (l : Logged). map (λ (held : ChanView). held.logged) c.args.self.now ++ l ∷ []) c.in_ok-added.ensures.ok)
