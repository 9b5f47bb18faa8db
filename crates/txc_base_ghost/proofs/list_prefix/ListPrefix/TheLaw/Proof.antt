-- A `&` to a `ListPrefix` holds what it knows, which can be had twice. Assumes `Logic`.
use base.Logic.{snd∗}
use base.Before.{before}
use types.Logic.{sem}
use denote.RattleType.{RattleType}
use denote.Param.Laws.{Laws}
use denote.Param.Shared.{copy_shared}
use denote.Struct.Laws.{field_copy}
use denote.Struct.Lending.{of_Lends}
use Rattle.std.specs.contracts.marker.PhantomData as marker
use Rattle.txc_base_ghost.specs.ListAuth.{reached}
use Rattle.txc_base_ghost.specs.contracts.list_prefix.ListPrefix as C
use Rattle.txc_base_ghost.proofs.Steps.{twice}
use Rattle.txc_base_ghost.proofs.Fields.{lends_twice}
use Rattle.txc_base_ghost.proofs.list_prefix.ListPrefix.TheLaw.Statement.{statement}

pub shares : (E : RattleType) (L : Laws E) → statement E L
shares E L = of_Lends (C.struct E) (C.the_codes E.Denot E.coded (marker.the_row E).coded) (C.the_heap E) (C.the_lent E)
    (λ d p. record {
      contraction = λ M 𝓤 𝓛 κ. twice E.coded 𝓛 d.name d.log;
      mono = λ M 𝓤 𝓛 κ' κ. snd∗ 𝓤 (sem 𝓛 (before κ' κ)) (sem 𝓛 (reached E.coded.code d.name d.log));
    })
    (copy_shared (marker.the_field E) (field_copy (marker.the_type E) tt), tt)
    (λ M 𝓤 𝓛 d p. lends_twice 𝓛 (reached E.coded.code d.name d.log) (twice E.coded 𝓛 d.name d.log) (C.the_row E).lives)
