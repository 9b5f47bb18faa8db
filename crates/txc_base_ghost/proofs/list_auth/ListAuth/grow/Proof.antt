-- `grow` moves the ghost value up.
use Rattle.std.proofs.Common.{List, [], ◌∷◌, refl}
use mir.Syntax.{a_type, dcons, dnil, named}
use mir.Val.{Val, vunit, vptr}
use mir.MapTy.{inst_fn}
use base.Logic.{SProp, emp}
use base.Fml.{Fml, ftrue, fsep, flft}
use types.Kit.{‵, raw, ◌⊛◌, given, later, ◌$◌, ◌∵◌, !, qed, by, move, keep, drop, split, fsplit, fsplit3, fjoin, fjoin3}
use types.Kit.{learn, use1, await, feq_i}
use types.Run.{unit_lit, of_opd, returns, enter}
use types.ByLocal.{alloc_all, pass_all, free_all, look_at, sets}
use contract.Monad.{fact, fact_i}
use contract.Running.{tables}
use denote.Exit.{yes}
use denote.RattleType.{RattleType, owns}
use denote.Signature.{types_at, plain}
use denote.Builtin.{RefOf}
use denote.Ref.{mut_vals, mut_Tells, shr_vals, shr_Tells}
use denote.Steps.{nothing, opens, closes}
use denote.Param.{param, bounded}
use denote.Triple.Walked.{Stays, stay_dropped, stay_ref, walk_of, Goes-dropped, Goes-ref}
use Rattle.std.proofs.raw_atomic.Walks.{proved}
use Rattle.txc_base_ghost.specs.ListAuth.{stands}
use Rattle.txc_base_ghost.specs.contracts.list_auth.ListAuth as ListAuth
use Rattle.txc_base_ghost.proofs.Steps as steps
use Rattle.txc_base_ghost.proofs.Fields.{ends}
use Rattle.txc_base_ghost.specs.contracts.list_auth.ListAuth.grow.{ended, clauses}
use Rattle.txc_base_ghost.specs.contracts.list_auth.ListAuth.grow.Key.{name as #self}
use Rattle.txc_base_ghost.proofs.list_auth.ListAuth.grow.Statement.{statement}
use Rattle.txc_base_ghost.proofs.list_auth.ListAuth.grow.Code as code

pub grow_spec : {M : Type 1} → statement M
grow_spec 𝓤 𝓛 𝓜 𝓡 wired E X N _ _ _ g d _ =
    let H = 𝓛.H in let 𝓣 = tables 𝓤 H 𝓜 𝓡 𝓡.env in let E' : RattleType = param 0 E in let X' : RattleType = param 1 X in
    let En = ended E X N g d in
    let inst = bounded (a_type ∷ a_type ∷ a_type ∷ []) (E, (X, (N, tt))) (dcons d dnil) in
    let fn = inst_fn inst code.function in let c = clauses E X N g d 𝓛 𝓜.mem 𝓡.returns in
    let Now : RattleType = ListAuth.the_row E' in
    let hs : Stays En.signature.params En.kept = (
      stay_ref (0 ∷ []) tt (plain (λ _. Now)),
      (stay_dropped (RefOf (1 ∷ []) tt (plain (λ _. X')) (λ _. tt)) yes, tt),
    ) in
    proved 𝓛 En hs c 𝓜 𝓡 (
      Goes-ref 𝓛 5 0 tt (plain (λ _. Now)),
      (Goes-dropped 𝓛 5 (RefOf (1 ∷ []) tt (plain (λ _. X')) (λ _. tt)) yes (λ κs x f. refl), tt),
    ) (#self inst) fn
    (code.unfolded 𝓤 H 𝓜 𝓡 wired (E, (X, (N, tt))) d)
    (λ κs. (mut_vals, (shr_vals, tt))) (λ κs. (mut_Tells (named 0) κs.0 Now, (shr_Tells (named 1) κs.1.0 X', tt)))
    (λ κs qs bounds a gh are.
    let me = a.0.now in let to : List E.Denot = g.list a.1.0.now in
    let y : (walk_of 𝓛 En hs c).Ghost = (
      (κs, qs, bounds, a, (vptr a.0.ref_ptr.0 a.0.ref_ptr.1 ∷ [], (vptr a.1.0.ref_ptr.0 a.1.0.ref_ptr.1 ∷ [], tt))),
      gh,
    ) in let Post : Val → SProp 𝓤 = (walk_of 𝓛 En hs c).post y in
    let toks : Fml = fsep (flft κs.0 qs.0)
    (fsep (flft κs.1.0 qs.1.0) (fsep (flft κs.1.1.0 qs.1.1.0)
    (fsep (flft κs.1.1.1.0 qs.1.1.1.0) (fsep (flft κs.1.1.1.1.0 qs.1.1.1.1.0) ftrue)))) in
    qed 𝓛 ((‵ toks ⊛ ‵ (owns (types_at En.signature.params κs) a y.0.4)) ∷ raw (fact 𝓤 _) ∷ raw (fact 𝓤 _) ∷ raw
    (fact 𝓤 _) ∷ given _ (‵ ftrue) ∷ []) ∵ keep ! (4 ∷ 0 ∷ []) $ learn ! (λ asked. drop ! $ split ! $
    fsplit ! $ move ! (1 ∷ []) $ fsplit ! $ move ! (3 ∷ []) $ fsplit ! $ fsplit3 ! $ move ! (3 ∷ []) $ fsplit ! $
    fsplit ! $ keep ! (4 ∷ 5 ∷ 6 ∷ 7 ∷ 8 ∷ []) $
    -- [two parts of self; the second token; the others; the first]
    enter ! 𝓣.C 𝓣.Λ fn (vptr a.0.ref_ptr.0 a.0.ref_ptr.1 ∷ vptr a.1.0.ref_ptr.0 a.1.0.ref_ptr.1 ∷ []) Post $
    alloc_all ! (λ l. pass_all ! refl ((tt, tt), ((tt, tt), tt)) $
    move ! (0 ∷ 1 ∷ 4 ∷ []) $ opens ! tt Now a.0.ref_ptr.0 a.0.ref_ptr.1 (λ vs0. move ! (1 ∷ []) $ fsplit ! $
    move ! (1 ∷ []) $
    -- [the right; the fields; the cell; the borrow, in three entries; two tokens]
    use1 𝓛 (later (‵ (stands E'.coded.code me.name to))) (steps.grown E'.coded 𝓛 me.name me.log to asked) $ await ! tt $
    move ! (1 ∷ 0 ∷ []) $ fjoin ! $ move ! (1 ∷ 0 ∷ 2 ∷ 3 ∷ 4 ∷ []) $
    closes ! tt Now (record { marker = record {}; name = me.name; log = to }) vs0 a.0.ref_ptr.0 a.0.ref_ptr.1 $
    sets ! (of_opd ! (unit_lit !)) refl (tt, tt) $ feq_i ! (List Val) (vunit ∷ []) (vunit ∷ []) refl $
    move ! (4 ∷ 5 ∷ []) $ fjoin ! $ move ! (4 ∷ 0 ∷ []) $ fjoin ! $ nothing ! $ nothing ! $ fjoin ! $
    feq_i ! (List Val) (vptr a.0.ref_ptr.0 a.0.ref_ptr.1 ∷ []) (vptr a.0.ref_ptr.0 a.0.ref_ptr.1 ∷ []) refl $
    move ! (0 ∷ 4 ∷ 5 ∷ []) $ fjoin3 ! $ fjoin ! $
    returns ! (look_at ! 0 refl) $ free_all ! refl $ keep ! (1 ∷ 0 ∷ 2 ∷ []) $
    by ! (ends 𝓛 En hs c y vunit tt ((record { marker = record {}; name = me.name; log = to }), (tt, tt))
    (tt, (tt, tt)) (fact_i 𝓤 _ (emp 𝓤) (refl, refl)))))))
