-- The list that a `Node` describes.
use Rattle.std.specs.Prelude.{List, [], ◌∷◌, ◌++◌}
use Rattle.txc_chan.specs.declared.ghost_list.Node.{Node}
use Rattle.txc_chan.specs.declared.ghost_list.Node.TheVariants.{Nothing, One', More'}

abbrev pub flat : {E : Type 0} → Node E → List E
flat Nothing = []
flat (One' s t before one) = flat before ++ one.value ∷ []
flat (More' s t before more) = flat before ++ more.value.items
