-- `open` makes the ledger's row and that of all parts.
use Rattle.std.proofs.Common.{ℕ, List, [], ◌∷◌, ◌++◌, refl, w64}
use mir.Val.{Val, vint, vstruct, vcons, vnil, of_list}
use base.Logic.{SProp, emp}
use base.Fml.{ftrue, feq, fsep}
use types.Kit.{‵, raw, ◌⊛◌, some, later, ◌$◌, ◌∵◌, !, qed, by, move, keep, fsplit, fjoin, fjoin3, fpack, pick, use0}
use types.Kit.{await, feq_i}
use types.Run.{no_more, and_then, returns, enter}
use types.ByLocal.{alloc_all, pass_all, free_all, look_at, get, sets}
use types.Part.{agg}
use contract.Monad.{fact_i}
use contract.Running.{tables}
use denote.Exit.{yes}
use denote.RattleType.{RattleType, Valss, owns}
use denote.Signature.{types_at, plain}
use denote.Builtin.{u64}
use denote.Plain.{uint_vals, uint_Tells}
use denote.Steps.{nothing}
use denote.Triple.Walked.{Stays, stay_dropped, walk_of, Goes-dropped}
use Rattle.std.proofs.raw_atomic.Walks.{proved}
use Rattle.txc_base_ledger.specs.Tally.{ledger_owns, share_owns}
use Rattle.txc_base_ledger.proofs.Steps as steps
use Rattle.txc_base_ledger.specs.contracts.ledger.Ledger as Ledger
use Rattle.txc_base_ledger.specs.contracts.share.Share as Share
use Rattle.txc_base_ledger.proofs.Fields.{token, Token, token_made, ends}
use Rattle.txc_base_ledger.specs.contracts.changes.open.{ended, clauses}
use Rattle.txc_base_ledger.specs.contracts.changes.open.Key.{name as #self}
use Rattle.txc_base_ledger.proofs.changes.open.Statement.{statement}
use Rattle.txc_base_ledger.proofs.changes.open.Code as code

pub open_spec : {M : Type 1} → statement M
open_spec 𝓤 𝓛 𝓜 𝓡 wired =
    let H = 𝓛.H in let 𝓣 = tables 𝓤 H 𝓜 𝓡 𝓡.env in let c = clauses 𝓛 𝓜.mem 𝓡.returns in
    let A : RattleType = Ledger.the_row in let B : RattleType = Share.the_row in
    let hs : Stays ended.signature.params ended.kept = (stay_dropped (plain (λ _. u64)) yes, tt) in
    proved 𝓛 ended hs c 𝓜 𝓡 (Goes-dropped 𝓛 0 (plain (λ _. u64)) yes (λ κs x f. refl), tt) #self code.function
    (code.unfolded 𝓤 H 𝓜 𝓡 wired)
    (λ κs. (uint_vals w64, tt)) (λ κs. (uint_Tells w64, tt)) (λ κs qs bounds a gh are.
    let n : ℕ = a.0 in
    let y : (walk_of 𝓛 ended hs c).Ghost = ((κs, qs, bounds, a, (vint w64 n ∷ [], tt)), gh) in
    let Post : Val → SProp 𝓤 = (walk_of 𝓛 ended hs c).post y in
    let v : Val = vstruct (vcons token (vcons token vnil)) in
    qed 𝓛 ((‵ ftrue ⊛ ‵ (owns (types_at ended.signature.params κs) a y.0.4)) ∷ raw ((c κs a).requires gh) ∷ []) ∵
    keep ! [] $
    enter ! 𝓣.C 𝓣.Λ code.function (vint w64 n ∷ []) Post $ alloc_all ! (λ l. pass_all ! refl (
      (tt, record { fits = are.0.1 }),
      tt,
    ) $
    use0 𝓛 (later (some (λ (γ : ℕ). ‵ (fsep (ledger_owns γ n 0) (share_owns γ n n 0))))) (steps.begins n 𝓛) $
    await ! tt $ pick ! (λ γ.
    let ledger : A.Denot = record { marker = record {}; name = γ; whole = n; total = 0 } in
    let share : B.Denot = record { marker = record {}; name = γ; whole = n; parts = n; amount = 0 } in
    fsplit ! $
    sets ! (agg ! (no_more !)) refl (tt, tt) $ sets ! (agg ! (and_then ! (get ! refl) (no_more !))) refl (
      tt,
      (tt, tt),
    ) $
    sets ! (agg ! (no_more !)) refl (tt, tt) $ sets ! (agg ! (and_then ! (get ! refl) (no_more !))) refl (
      tt,
      (tt, tt),
    ) $
    sets ! (agg ! (and_then ! (get ! refl) (and_then ! (get ! refl) (no_more !)))) refl (
      tt,
      ((tt, tt), ((tt, tt), tt)),
    ) $
    returns ! (look_at ! 0 refl) $ free_all ! refl $
    use0 𝓛 (‵ (Token.own_val (record {}, tt) (token ∷ []))) (token_made 𝓛) $ fjoin ! $ move ! (1 ∷ []) $
    use0 𝓛 (‵ (Token.own_val (record {}, tt) (token ∷ []))) (token_made 𝓛) $ fjoin ! $
    nothing ! $ move ! (2 ∷ 1 ∷ 0 ∷ []) $ fjoin3 ! $ feq_i ! (List Val) (v ∷ []) (v ∷ []) refl $ fjoin ! $
    fpack ! (Valss (A ∷ B ∷ [])) (λ vss. fsep (feq (List Val) (v ∷ []) (vstruct (of_list (vss.0 ++ (vss.1.0 ++ []))) ∷
    [])) (owns (A ∷ B ∷ []) (ledger, (share, tt)) vss)) (token ∷ [], (token ∷ [], tt)) $
    nothing ! $ nothing ! $ fjoin ! $ nothing ! $
    by ! (ends 𝓛 ended hs c y v (ledger, share) (tt, tt) (tt, tt) (fact_i 𝓤 _ (emp 𝓤)
    (record { of = (refl, refl); whole = refl; total = refl; parts = refl; amount = refl }))))))
