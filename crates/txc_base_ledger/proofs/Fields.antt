-- How a walk ends, and what may cross threads. Assumes `Logic`.
use Rattle.std.proofs.Common.{ℕ, [], ◌∷◌, refl}
use seplogic.Ra.Ura.{Ura}
use mir.Val.{Val, vstruct, vcons, vnil}
use base.Logic.{ent, sep, emp}
use base.Shift.{Keyless}
use types.Logic.{Logic, sem}
use types.Kit.{‵, raw, ◌$◌, ◌∵◌, !, qed, by, move, use0}
use denote.RattleType.{RattleType}
use denote.Builtin.{unit}
use denote.Shadow.{makes_shadow}
use denote.Signature.{type_at}
use denote.Struct.Struct.{Struct}
use denote.Triple.Clauses.{Ended, Clauses, Lasts, at_exit}
use denote.Triple.Entry.{Res, alive}
use denote.Triple.Walked.{Stays, Fit, has_of, walk_of}
use Rattle.std.specs.contracts.marker.PhantomData as marker
use Rattle.txc_base_ledger.specs.Tally.{ledger_owns, share_owns}
use Rattle.std.proofs.raw_atomic.Walks.{leaves}

-- a value without bytes
abbrev pub token : Val
token = vstruct (vcons (vstruct vnil) vnil)

-- its type
abbrev pub Token : RattleType
Token = Struct record { name = []; args = []; types = []; fields = marker.the_row unit ∷ [] }

-- it can be made of nothing
pub token_made : {M : Type 1} {𝓤 : Ura M} (𝓛 : Logic 𝓤) → ent 𝓤 (emp 𝓤) (sem 𝓛 (Token.own_val (record {}, tt) (token ∷
    [])))
token_made 𝓛 = makes_shadow 𝓛 (Token.own_val (record {}, tt) (token ∷ [])) (λ vss. (tt, ((λ uss. (tt, tt)), tt)))
    ((vstruct vnil ∷ [], tt), (refl, ((tt, (refl, tt)), tt)))

-- what is left at the end of a walk
pub ends : {M : Type 1} {𝓤 : Ura M} (𝓛 : Logic 𝓤) (T : Ended) (hs : Stays T.signature.params T.kept) (c : Clauses 𝓤 T)
    (y : (walk_of 𝓛 T hs c).Ghost) (v : Val) (r : Res T.signature y.0.0) (ws : Lasts T y.0.0 y.0.3)
    → Fit T hs y.0.0 y.0.3 ws → ent 𝓤 (emp 𝓤) ((c y.0.0 y.0.3).ensures y.1 r (at_exit T y.0.0 y.0.3 ws))
    → ent 𝓤 (sep 𝓤 (alive 𝓛 T.signature y.0.0 y.0.1)
    (sep 𝓤 (sem 𝓛 (has_of y.0.0 T.signature.params T.kept hs y.0.3 ws y.0.4))
    (sem 𝓛 ((type_at T.signature.result y.0.0).own_val r (v ∷ []))))) ((walk_of 𝓛 T hs c).post y v)
ends 𝓛 T hs c y v r ws fit holds =
    qed 𝓛 (raw (alive 𝓛 T.signature y.0.0 y.0.1) ∷ ‵ (has_of y.0.0 T.signature.params T.kept hs y.0.3 ws y.0.4) ∷ ‵
    ((type_at T.signature.result y.0.0).own_val r (v ∷ [])) ∷ []) ∵
    use0 𝓛 (raw ((c y.0.0 y.0.3).ensures y.1 r (at_exit T y.0.0 y.0.3 ws))) holds $ move ! (1 ∷ 2 ∷ 3 ∷ []) $
    by ! (leaves 𝓛 T hs c y v r ws fit)

-- what a ledger owns names no lifetime
pub ledger_keyless : (name whole total : ℕ) → Keyless (ledger_owns name whole total)
unfolding ledger_owns
ledger_keyless name whole total = λ v. tt

-- what a share owns names no lifetime
pub share_keyless : (name whole parts amount : ℕ) → Keyless (share_owns name whole parts amount)
unfolding share_owns
share_keyless name whole parts amount = λ v. tt
