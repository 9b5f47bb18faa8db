-- `record` changes the ledger's row and the share's at once.
use Rattle.std.proofs.Common.{◌+◌, ◌-◌, ℕ, List, [], ◌∷◌, refl, sym, ◌∙◌, w64, arith}
use mir.Syntax.{named}
use mir.Val.{Val, vunit, vint, vptr}
use base.Logic.{SProp, emp}
use base.Fml.{Fml, ftrue, fsep, flft}
use types.Kit.{‵, ◌⊛◌, given, later, ◌$◌, ◌∵◌, !, qed, by, move, keep, drop, split, fsplit, fsplit3, fjoin, fjoin3}
use types.Kit.{learn, rewrite, use2, await, feq_i}
use types.Run.{unit_lit, of_opd, returns, enter}
use types.ByLocal.{alloc_all, pass_all, free_all, look_at, sets}
use contract.Monad.{fact_i}
use contract.Running.{tables}
use denote.Exit.{yes}
use denote.RattleType.{RattleType, owns}
use denote.Signature.{types_at, plain}
use denote.Builtin.{u64}
use denote.Plain.{uint_vals, uint_Tells}
use denote.Ref.{mut_vals, mut_Tells}
use denote.Steps.{nothing, opens, closes}
use denote.Triple.Walked.{Stays, stay_dropped, stay_ref, walk_of, Goes-dropped, Goes-ref}
use Rattle.std.proofs.raw_atomic.Walks.{proved}
use Rattle.txc_base_ledger.specs.Changes.{CanRecord}
use Rattle.txc_base_ledger.specs.Tally.{ledger_owns, share_owns}
use Rattle.txc_base_ledger.proofs.Steps as steps
use Rattle.txc_base_ledger.specs.contracts.ledger.Ledger as Ledger
use Rattle.txc_base_ledger.specs.contracts.share.Share as Share
use Rattle.txc_base_ledger.proofs.Fields.{ends}
use Rattle.txc_base_ledger.specs.contracts.changes.record.{ended, clauses}
use Rattle.txc_base_ledger.specs.contracts.changes.record.Key.{name as #self}
use Rattle.txc_base_ledger.proofs.changes.record.Statement.{statement}
use Rattle.txc_base_ledger.proofs.changes.record.Code as code

pub record_spec : {M : Type 1} → statement M
record_spec 𝓤 𝓛 𝓜 𝓡 wired =
    let H = 𝓛.H in let 𝓣 = tables 𝓤 H 𝓜 𝓡 𝓡.env in let c = clauses 𝓛 𝓜.mem 𝓡.returns in
    let A : RattleType = Ledger.the_row in let B : RattleType = Share.the_row in
    let hs : Stays ended.signature.params ended.kept = (
      stay_ref (0 ∷ []) tt (plain (λ _. A)),
      (
        stay_ref (1 ∷ []) tt (plain (λ _. B)),
        (stay_dropped (plain (λ _. u64)) yes, (stay_dropped (plain (λ _. u64)) yes, tt)),
      ),
    ) in
    let number = Goes-dropped 𝓛 2 (plain (λ _. u64)) yes (λ κs x f. refl) in
    proved 𝓛 ended hs c 𝓜 𝓡 (
      Goes-ref 𝓛 2 0 tt (plain (λ _. A)),
      (Goes-ref 𝓛 2 1 tt (plain (λ _. B)), (number, (number, tt))),
    ) #self code.function
    (code.unfolded 𝓤 H 𝓜 𝓡 wired)
    (λ κs. (mut_vals, (mut_vals, (uint_vals w64, (uint_vals w64, tt)))))
    (λ κs. (mut_Tells (named 0) κs.0 A, (mut_Tells (named 1) κs.1.0 B, (uint_Tells w64, (uint_Tells w64, tt)))))
    (λ κs qs bounds a gh are.
    let r = a.0 in let s = a.1.0 in let ledger = r.now in let share = s.now in let m : ℕ = a.1.1.0 in
    let n : ℕ = a.1.1.1.0 in
    let u : Val = vptr r.ref_ptr.0 r.ref_ptr.1 in let v : Val = vptr s.ref_ptr.0 s.ref_ptr.1 in
    let y : (walk_of 𝓛 ended hs c).Ghost = (
      (κs, qs, bounds, a, (u ∷ [], (v ∷ [], (vint w64 m ∷ [], (vint w64 n ∷ [], tt))))),
      gh,
    ) in
    let Post : Val → SProp 𝓤 = (walk_of 𝓛 ended hs c).post y in
    let toks : Fml = fsep (flft κs.0 qs.0) (fsep (flft κs.1.0 qs.1.0) ftrue) in
    let ledger' : A.Denot = record {
      marker = ledger.marker;
      name = ledger.name;
      whole = ledger.whole;
      total = ledger.total + m - n;
    } in
    let share' : B.Denot = record {
      marker = share.marker;
      name = ledger.name;
      whole = ledger.whole;
      parts = share.parts;
      amount = share.amount + m - n;
    } in
    qed 𝓛 ((‵ toks ⊛ ‵ (owns (types_at ended.signature.params κs) a y.0.4)) ∷
    given (CanRecord m n ledger share) (‵ ftrue) ∷ []) ∵
    move ! (1 ∷ 0 ∷ []) $ learn ! (λ asked. drop ! $ split ! $
    fsplit ! $ move ! (1 ∷ []) $ fsplit ! $ move ! (3 ∷ []) $ fsplit ! $ fsplit3 ! $ move ! (3 ∷ []) $ fsplit ! $
    fsplit3 ! $
    keep ! (5 ∷ 6 ∷ 9 ∷ 1 ∷ 2 ∷ 7 ∷ 8 ∷ []) $
    -- [two parts of the ledger; its token; two parts of the share; its token; the other tokens]
    enter ! 𝓣.C 𝓣.Λ code.function (u ∷ v ∷ vint w64 m ∷ vint w64 n ∷ []) Post $
    alloc_all ! (λ l. pass_all ! refl (
      (tt, tt),
      ((tt, tt), ((tt, record { fits = are.1.1.0.1 }), ((tt, record { fits = are.1.1.1.0.1 }), tt))),
    ) $
    opens ! tt A r.ref_ptr.0 r.ref_ptr.1 (λ vs. move ! (5 ∷ 6 ∷ 7 ∷ []) $ opens ! tt B s.ref_ptr.0 s.ref_ptr.1 (λ us.
    move ! (1 ∷ []) $ fsplit ! $ move ! (7 ∷ []) $ fsplit ! $ move ! (3 ∷ []) $
    rewrite ! 0 (λ (p : ℕ × ℕ). ‵ (share_owns p.0 p.1 share.parts share.amount)) {x = (
      ledger.name,
      ledger.whole,
    )} {y = (share.name, share.whole)} (λ i. (asked.of.0 i, asked.of.1 i)) refl $
    move ! (2 ∷ 0 ∷ []) $
    use2 𝓛 (later (given (steps.Audited ledger.whole ledger.total share.parts share.amount) (‵ (ledger_owns ledger.name
    ledger.whole ledger'.total) ⊛ ‵ (share_owns ledger.name ledger.whole share'.parts share'.amount))))
    (steps.records ledger.whole 𝓛 ledger.name ledger.total ledger'.total share.parts share.amount share'.amount
    (λ none nil.
    let p = asked.backed none in omega (arith, nil, p)) (λ within. omega (arith, asked.enough, within))) $
    await ! tt $ learn ! (λ seen. split ! $ move ! (2 ∷ 0 ∷ []) $ fjoin ! $ move ! (2 ∷ 1 ∷ []) $ fjoin ! $
    move ! (2 ∷ 0 ∷ 3 ∷ 4 ∷ 5 ∷ []) $ closes ! tt B share' us s.ref_ptr.0 s.ref_ptr.1 $
    move ! (4 ∷ 3 ∷ 5 ∷ 6 ∷ 7 ∷ []) $ closes ! tt A ledger' vs r.ref_ptr.0 r.ref_ptr.1 $
    -- [two parts of the ledger; its token; two parts of the share; its token; the other tokens]
    sets ! (of_opd ! (unit_lit !)) refl (tt, tt) $ feq_i ! (List Val) (vunit ∷ []) (vunit ∷ []) refl $
    move ! (6 ∷ 7 ∷ []) $ fjoin ! $ move ! (4 ∷ 0 ∷ []) $ fjoin ! $ nothing ! $ nothing ! $ fjoin ! $ nothing ! $
    fjoin ! $
    feq_i ! (List Val) (v ∷ []) (v ∷ []) refl $ move ! (0 ∷ 6 ∷ 7 ∷ []) $ fjoin3 ! $ fjoin ! $
    feq_i ! (List Val) (u ∷ []) (u ∷ []) refl $ move ! (0 ∷ 4 ∷ 5 ∷ []) $ fjoin3 ! $ fjoin ! $
    returns ! (look_at ! 0 refl) $ free_all ! refl $ keep ! (1 ∷ 0 ∷ 2 ∷ []) $
    let within = seen.0 in
    by ! (ends 𝓛 ended hs c y vunit tt (ledger', (share', (tt, (tt, tt)))) (tt, (tt, (tt, (tt, tt))))
    (fact_i 𝓤 _ (emp 𝓤)
    (record {
      same = (refl, refl);
      total = omega (arith, asked.enough);
      of = (sym asked.of.0, sym asked.of.1);
      parts = refl;
      amount = omega (arith, asked.enough);
      bound = within;
      whole = λ all. seen.1 (all ∙ asked.of.1);
      backed = seen.2;
    })))))))))
