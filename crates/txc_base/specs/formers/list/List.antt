-- A list may hold the type that holds it: how it carries values of any type, and what it weighs.
use mathlib.Core.Former.{Former, this, list, via, children}
use mathlib.Core.List.{List, []}
use mathlib.Core.Path.{◌≡◌, refl, sym}
use base.Stored.{code_map}
use denote.Hole.Carrier.{listed, list-listed}
use denote.Hole.Fix.{over}
use denote.HoleLaws.{Alike}
use denote.HolePlaces.{Recodes, struct_places, laid}
use denote.Model.Placed.{view_places}
use denote.Param.Weighed.{Weighed, w_list}
use denote.RattleType.{RattleType}
use Rattle.std.specs.contracts.alloc.Global as memory
use Rattle.std.specs.contracts.impls.GlobalAllocator.TheImpl.{ghosts}
use Rattle.std.specs.declared.alloc.Global.{Global}
use Rattle.std.specs.formers.vec.Vec as vec
use Rattle.txc_base.specs.contracts.list.List as contract
use Rattle.txc_base.specs.contracts.list.List.TheInside as fields
use Rattle.txc_base.specs.declared.list.List.TheInside.{Inside}
use Rattle.txc_base.specs.declared.list.List.TheView.{view, invariant}

-- in a contract it is a plain list
abbrev pub the_former : Former {0} → Former {0}
the_former held = list held

abbrev pub the_weighed : {held : Former {0}} → Weighed held → Weighed (the_former held)
the_weighed weight = w_list weight

pub the_empty : List ⊥
the_empty = []

abbrev pub the_items : (X : Type 0) → List X → List X
the_items X items = items

pub the_items_listed : (X : Type 0) (items : List X) → listed _ (children (the_former this) X items) ≡ the_items X items
the_items_listed X items = list-listed X items

-- its one field is a vector
abbrev as_vector : Former {0}
as_vector = via (vec.the_former this Global) Inside (λ X inside. inside.items) (λ X items. record { items = items })
    (λ X inside. refl) (λ X items. refl)

module _ (R S : RattleType) (each : R.Denot → S.Denot) where
  pub the_places : Alike R S each
      → Alike (contract.the_row R) (contract.the_row S) ((the_former this).map R.Denot S.Denot each)
  the_places alike = view_places as_vector (list this) view (λ X Y change items. refl) (λ X items. refl)
      R.Denot S.Denot each
      (contract.the_row R).coded (contract.the_row S).coded (invariant R.Denot) (invariant S.Denot)
      (λ items p q. refl) (λ items p q. refl) (λ items e. tt) (λ items e. tt)
      (over (fields.the_row R)) (over (fields.the_row S))
      (struct_places (fields.the_type R) (fields.the_type S) (vec.mapped each, tt) _ (λ items. refl) refl
      (laid _ _ _ (vec.the_places memory.the_row ghosts R S each alike), tt))

  pub the_codes_placed : Recodes R S each
      → Recodes (contract.the_row R) (contract.the_row S) ((the_former this).map R.Denot S.Denot each)
  the_codes_placed same items = sym (code_map R.coded.code S.coded.code each (λ x. sym (same x)) items)
