use Rattle.std.proofs.Common.{rules, ◌≡◌, ◌<◌, ◌∙◌, sym, ap, [], ◌∷◌, ◌++◌, length, take, get_or, arith}
use Rattle.std.proofs.lemmas.List.{take_more, length-map, get_or-map}
use Rattle.txc_cast.specs.Broadcast.{read_of}
use Rattle.txc_cast.specs.Reader.{Reader, fresh}
use Rattle.txc_cast.proofs.cast.Cast.lists.Goals as goal

pub loop-reader-preserved : goal.loop-reader-preserved
loop-reader-preserved c =
    let cast = c.args.self.now in
    let k = c.loop-reader.reader in
    let among : k < length cast.readers = omega arith in
    let there : k < length (read_of cast) = omega (arith, length-map cast.readers (λ (reader : Reader). reader.list)) in
    let more : c.push.new.self.items ≡ c.loop-reader.lists.items ++ c.in-Ok.list.items ∷ [] = search rules in
    let list : c.in-Ok.list.items ≡ get_or (read_of cast) k [] =
    c.in-Ok.ensures.ok ∙ sym (get_or-map (λ (reader : Reader). reader.list) cast.readers k fresh [] among) in
    more ∙ ap (λ l. l ++ c.in-Ok.list.items ∷ []) c.loop-reader.invariant
    ∙ ap (λ x. take k (read_of cast) ++ x ∷ []) list ∙ sym (take_more (read_of cast) k [] there)
