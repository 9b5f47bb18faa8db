-- `merge_shares` moves all of the second share's row to the first's.
use Rattle.std.proofs.Common.{◌≤◌, ◌+◌, ℕ, List, [], ◌∷◌, refl, arith}
use mir.Syntax.{named}
use mir.Val.{Val, vunit, vptr}
use base.Logic.{SProp, emp}
use base.Fml.{Fml, ftrue, fsep, flft}
use types.Kit.{‵, ◌⊛◌, given, ◌$◌, ◌∵◌, !, qed, by, move, keep, drop, split, fsplit, fsplit3, fjoin, fjoin3, learn}
use types.Kit.{rewrite, use2, feq_i}
use types.Run.{unit_lit, of_opd, returns, enter}
use types.ByLocal.{alloc_all, pass_all, free_all, look_at, sets}
use contract.Monad.{fact_i}
use contract.Running.{tables}
use denote.RattleType.{RattleType, owns}
use denote.Signature.{types_at, plain}
use denote.Ref.{mut_vals, mut_Tells}
use denote.Steps.{nothing, opens, closes}
use denote.Triple.Walked.{Stays, stay_ref, walk_of, Goes-ref}
use Rattle.std.proofs.raw_atomic.Walks.{proved}
use Rattle.txc_base_ledger.specs.Changes.{AreOfOne}
use Rattle.txc_base_ledger.specs.Tally.{share_owns}
use Rattle.txc_base_ledger.proofs.Steps as steps
use Rattle.txc_base_ledger.specs.contracts.share.Share as Share
use Rattle.txc_base_ledger.proofs.Fields.{ends}
use Rattle.txc_base_ledger.specs.contracts.changes.merge_shares.{ended, clauses}
use Rattle.txc_base_ledger.specs.contracts.changes.merge_shares.Key.{name as #self}
use Rattle.txc_base_ledger.proofs.changes.merge_shares.Statement.{statement}
use Rattle.txc_base_ledger.proofs.changes.merge_shares.Code as code

pub merge_shares_spec : {M : Type 1} → statement M
merge_shares_spec 𝓤 𝓛 𝓜 𝓡 wired =
    let H = 𝓛.H in let 𝓣 = tables 𝓤 H 𝓜 𝓡 𝓡.env in let c = clauses 𝓛 𝓜.mem 𝓡.returns in
    let A : RattleType = Share.the_row in
    let hs : Stays ended.signature.params ended.kept = (
      stay_ref (0 ∷ []) tt (plain (λ _. A)),
      (stay_ref (1 ∷ []) tt (plain (λ _. A)), tt),
    ) in
    proved 𝓛 ended hs c 𝓜 𝓡 (
      Goes-ref 𝓛 2 0 tt (plain (λ _. A)),
      (Goes-ref 𝓛 2 1 tt (plain (λ _. A)), tt),
    ) #self code.function
    (code.unfolded 𝓤 H 𝓜 𝓡 wired)
    (λ κs. (mut_vals, (mut_vals, tt)))
    (λ κs. (mut_Tells (named 0) κs.0 A, (mut_Tells (named 1) κs.1.0 A, tt))) (λ κs qs bounds a gh are.
    let r = a.0 in let s = a.1.0 in let to = r.now in let from = s.now in
    let u : Val = vptr r.ref_ptr.0 r.ref_ptr.1 in let v : Val = vptr s.ref_ptr.0 s.ref_ptr.1 in
    let y : (walk_of 𝓛 ended hs c).Ghost = ((κs, qs, bounds, a, (u ∷ [], (v ∷ [], tt))), gh) in
    let Post : Val → SProp 𝓤 = (walk_of 𝓛 ended hs c).post y in
    let toks : Fml = fsep (flft κs.0 qs.0) (fsep (flft κs.1.0 qs.1.0) ftrue) in
    let to' : A.Denot = record {
      marker = to.marker;
      name = to.name;
      whole = to.whole;
      parts = to.parts + from.parts;
      amount = to.amount + from.amount;
    } in
    let from' : A.Denot = record { marker = from.marker; name = to.name; whole = to.whole; parts = 0; amount = 0 } in
    qed 𝓛 ((‵ toks ⊛ ‵ (owns (types_at ended.signature.params κs) a y.0.4)) ∷ given (AreOfOne to from) (‵ ftrue) ∷ []) ∵
    move ! (1 ∷ 0 ∷ []) $ learn ! (λ asked. drop ! $ split ! $
    fsplit ! $ move ! (1 ∷ []) $ fsplit ! $ move ! (3 ∷ []) $ fsplit ! $ fsplit3 ! $ move ! (3 ∷ []) $ fsplit ! $
    fsplit3 ! $
    keep ! (5 ∷ 6 ∷ 9 ∷ 1 ∷ 2 ∷ 7 ∷ 8 ∷ []) $
    enter ! 𝓣.C 𝓣.Λ code.function (u ∷ v ∷ []) Post $
    alloc_all ! (λ l. pass_all ! refl ((tt, tt), ((tt, tt), tt)) $
    opens ! tt A r.ref_ptr.0 r.ref_ptr.1 (λ vs. move ! (5 ∷ 6 ∷ 7 ∷ []) $ opens ! tt A s.ref_ptr.0 s.ref_ptr.1 (λ us.
    move ! (1 ∷ []) $ fsplit ! $ move ! (7 ∷ []) $ fsplit ! $ move ! (3 ∷ []) $
    rewrite ! 0 (λ (p : ℕ × ℕ). ‵ (share_owns p.0 p.1 from.parts from.amount)) {x = (
      to.name,
      to.whole,
    )} {y = (from.name, from.whole)} (λ i. (asked.0 i, asked.1 i)) refl $
    move ! (2 ∷ 0 ∷ []) $
    use2 𝓛 (given (to.parts + from.parts ≤ to.whole) (‵ (share_owns to.name to.whole to'.parts to'.amount) ⊛ ‵
    (share_owns to.name to.whole 0 0)))
    (steps.shifts to.whole 𝓛 to.name to.parts to.amount from.parts from.amount to'.parts to'.amount 0 0 (omega arith)
    (omega arith)
    (λ p q. (
      (λ none. let x = p (omega (arith, none)) in let z = q (omega (arith, none)) in omega (arith, x, z)),
      (λ _. refl),
    ))) $
    learn ! (λ seen. split ! $ move ! (2 ∷ 0 ∷ []) $ fjoin ! $ move ! (2 ∷ 1 ∷ []) $ fjoin ! $
    move ! (2 ∷ 0 ∷ 3 ∷ 4 ∷ 5 ∷ []) $ closes ! tt A from' us s.ref_ptr.0 s.ref_ptr.1 $
    move ! (4 ∷ 3 ∷ 5 ∷ 6 ∷ 7 ∷ []) $ closes ! tt A to' vs r.ref_ptr.0 r.ref_ptr.1 $
    sets ! (of_opd ! (unit_lit !)) refl (tt, tt) $ feq_i ! (List Val) (vunit ∷ []) (vunit ∷ []) refl $
    move ! (6 ∷ 7 ∷ []) $ fjoin ! $ move ! (4 ∷ 0 ∷ []) $ fjoin ! $ nothing ! $
    feq_i ! (List Val) (v ∷ []) (v ∷ []) refl $ move ! (0 ∷ 6 ∷ 7 ∷ []) $ fjoin3 ! $ fjoin ! $
    feq_i ! (List Val) (u ∷ []) (u ∷ []) refl $ move ! (0 ∷ 4 ∷ 5 ∷ []) $ fjoin3 ! $ fjoin ! $
    returns ! (look_at ! 0 refl) $ free_all ! refl $ keep ! (1 ∷ 0 ∷ 2 ∷ []) $
    by ! (ends 𝓛 ended hs c y vunit tt (to', (from', tt)) (tt, (tt, tt)) (fact_i 𝓤 _ (emp 𝓤)
    (record { of = (refl, refl); parts = refl; amount = refl; apart = seen })))))))))
