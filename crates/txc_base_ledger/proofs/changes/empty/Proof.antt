-- `empty` cuts off a row that counts nothing.
use Rattle.std.proofs.Common.{List, [], ◌∷◌, refl}
use mir.Syntax.{named}
use mir.Val.{Val, vptr}
use base.Logic.{SProp, emp}
use base.Fml.{Fml, ftrue, fsep, flft}
use types.Kit.{‵, raw, ◌⊛◌, ◌$◌, ◌∵◌, !, qed, by, move, keep, split, fsplit, fsplit3, fjoin, fjoin3, use0, use1, feq_i}
use types.Run.{no_more, and_then, returns, enter}
use types.ByLocal.{alloc_all, pass_all, free_all, look_at, get, sets}
use types.Part.{agg}
use contract.Monad.{fact_i}
use contract.Running.{tables}
use denote.RattleType.{RattleType, owns}
use denote.Signature.{types_at, plain}
use denote.Ref.{mut_vals, mut_Tells}
use denote.Steps.{nothing, opens, closes}
use denote.Triple.Walked.{Stays, stay_ref, walk_of, Goes-ref}
use Rattle.std.proofs.raw_atomic.Walks.{proved}
use Rattle.txc_base_ledger.specs.Tally.{share_owns}
use Rattle.txc_base_ledger.proofs.Steps as steps
use Rattle.txc_base_ledger.specs.contracts.share.Share as Share
use Rattle.txc_base_ledger.proofs.Fields.{token, Token, token_made, ends}
use Rattle.txc_base_ledger.specs.contracts.changes.empty.{ended, clauses}
use Rattle.txc_base_ledger.specs.contracts.changes.empty.Key.{name as #self}
use Rattle.txc_base_ledger.proofs.changes.empty.Statement.{statement}
use Rattle.txc_base_ledger.proofs.changes.empty.Code as code

pub empty_spec : {M : Type 1} → statement M
empty_spec 𝓤 𝓛 𝓜 𝓡 wired =
    let H = 𝓛.H in let 𝓣 = tables 𝓤 H 𝓜 𝓡 𝓡.env in let c = clauses 𝓛 𝓜.mem 𝓡.returns in
    let A : RattleType = Share.the_row in
    let hs : Stays ended.signature.params ended.kept = (stay_ref (0 ∷ []) tt (plain (λ _. A)), tt) in
    proved 𝓛 ended hs c 𝓜 𝓡 (Goes-ref 𝓛 1 0 tt (plain (λ _. A)), tt) #self code.function
    (code.unfolded 𝓤 H 𝓜 𝓡 wired)
    (λ κs. (mut_vals, tt)) (λ κs. (mut_Tells (named 0) κs.0 A, tt)) (λ κs qs bounds a gh are.
    let r = a.0 in let me = r.now in let u : Val = vptr r.ref_ptr.0 r.ref_ptr.1 in
    let y : (walk_of 𝓛 ended hs c).Ghost = ((κs, qs, bounds, a, (u ∷ [], tt)), gh) in
    let Post : Val → SProp 𝓤 = (walk_of 𝓛 ended hs c).post y in
    let toks : Fml = fsep (flft κs.0 qs.0) ftrue in
    let new : A.Denot = record { marker = record {}; name = me.name; whole = me.whole; parts = 0; amount = 0 } in
    qed 𝓛 ((‵ toks ⊛ ‵ (owns (types_at ended.signature.params κs) a y.0.4)) ∷ raw ((c κs a).requires gh) ∷ []) ∵
    keep ! (0 ∷ []) $ split ! $
    fsplit ! $ move ! (2 ∷ []) $ fsplit ! $ fsplit3 ! $ keep ! (1 ∷ 2 ∷ 4 ∷ 5 ∷ []) $
    -- [two parts of self; the token; the other tokens]
    enter ! 𝓣.C 𝓣.Λ code.function (u ∷ []) Post $ alloc_all ! (λ l. pass_all ! refl ((tt, tt), tt) $
    opens ! tt A r.ref_ptr.0 r.ref_ptr.1 (λ vs. move ! (1 ∷ []) $ fsplit ! $ move ! (1 ∷ []) $
    use1 𝓛 (‵ (share_owns me.name me.whole me.parts me.amount) ⊛ ‵ (share_owns me.name me.whole 0 0))
    (steps.empties me.whole 𝓛 me.name me.parts me.amount) $ split ! $
    -- [the share; the new one; the fields; the cell; the borrow, in three entries; the other tokens]
    move ! (2 ∷ 0 ∷ []) $ fjoin ! $ move ! (2 ∷ 0 ∷ 3 ∷ 4 ∷ 5 ∷ []) $ closes ! tt A me vs r.ref_ptr.0 r.ref_ptr.1 $
    move ! (3 ∷ []) $ use0 𝓛 (‵ (Token.own_val (record {}, tt) (token ∷ []))) (token_made 𝓛) $ fjoin ! $
    sets ! (agg ! (no_more !)) refl (tt, tt) $ sets ! (agg ! (and_then ! (get ! refl) (no_more !))) refl (
      tt,
      (tt, tt),
    ) $
    -- [the result; two parts of self; the token of its lifetime; the other tokens]
    move ! (3 ∷ 4 ∷ []) $ fjoin ! $ nothing ! $ feq_i ! (List Val) (u ∷ []) (u ∷ []) refl $ move ! (0 ∷ 4 ∷ 5 ∷ []) $
    fjoin3 ! $ fjoin ! $
    returns ! (look_at ! 0 refl) $ free_all ! refl $ keep ! (1 ∷ 0 ∷ 2 ∷ []) $
    by ! (ends 𝓛 ended hs c y token new (me, tt) (tt, tt) (fact_i 𝓤 _ (emp 𝓤) (record {
      same = refl;
      of = (refl, refl);
      parts = refl;
      amount = refl;
    }))))))
