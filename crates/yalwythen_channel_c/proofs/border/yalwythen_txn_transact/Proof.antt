-- `yalwythen_txn_transact` lends the transaction in its place to the call that runs the steps. The array of steps is
-- passed on as it was lent, and the array of replies is given to the callee for good. Assumes `Logic`.
use Rattle.std.proofs.Common.{List, [], ◌∷◌, ◌++◌, ◌<◌, ◌^◌, length, refl, MutBor, ℕ}
use Rattle.std.proofs.raw_atomic.Walks.{proved}
use base.Fraction.{full_share}
use base.Logic.{id⊢}
use base.Fml.{Lft, ftrue, fex, flft, flent}
use mir.Syntax.{named}
use mir.Val.{Val, vptr}
use contract.Monad.{fact}
use contract.Running.{tables}
use prog.Wp.{WpFn}
use types.Kit.{‵, raw, ◌⊛◌, some, later, prop, ◌$◌, ◌∵◌, !, qed, done, move, keep, drop}
use types.Kit.{use1, use2, use3, split, join, fsplit}
use types.Kit.{fjoin, feq_l, fpack, pick, await, regoal, suffices, group}
use types.SemTy.{Body}
use types.Tokens.{lft_new, lft_end}
use types.Run.{enter, of_opd, addr, from, hop, stop, fld, no_more, and_then, returns}
use types.ByLocal.{alloc_all, pass_all, free_all, look_at, look_in_at, get, get_in, through, sets, lands_as}
use types.Part.{agg, sub, whole}
use denote.Exit.{yes}
use denote.Laws.{Is, shows}
use denote.Lend.{lends_ref, ref_back}
use denote.Memory.{mem, part_at}
use denote.RawPtr.{Ptr, RawPtr, block_ptr, lies_at, in_a_block, rawptr_vals, rawptr_Tells}
use denote.Ref.{MutRef}
use denote.Signature.{plain, shr_slice_of}
use denote.Slice.{ShrSlice, MutSlice, shr_slice_vals, shr_slice_Tells, mut_slice_vals, mut_slice_Tells}
use denote.Steps.{nothing, peeks, heard}
use denote.Triple.Call.{calls_at}
use denote.Triple.Clauses.{Lasts, lasts}
use denote.Triple.Spec.{triple_of}
use denote.Triple.Table.{framed}
use denote.Triple.Walked.{Stays, walk_of, stay_dropped, gave_slice, Goes-dropped, Goes-gave_slice, ends_at}
use Rattle.yalwythen_channel.specs.contracts.raw_steps.RawStep.{the_row as OR}
use Rattle.yalwythen_channel.specs.contracts.txn.Txn.{the_row as R}
use Rattle.yalwythen_channel.specs.contracts.call_result.CallResult.{the_row as TR}
use Rattle.yalwythen_channel.specs.declared.txn.Txn.{Txn as Txns}
use Rattle.yalwythen_channel.specs.Txn.{Transacts}
use Rattle.yalwythen_channel.proofs.call_result.CallResult.TheLaws.{the_row_laws as LT}
use Rattle.yalwythen_channel_c.specs.contracts.border.yalwythen_txn_transact as f
use Rattle.yalwythen_channel_c.proofs.border.yalwythen_txn_transact.Statement.{statement}
use Rattle.yalwythen_channel_c.proofs.border.yalwythen_txn_transact.Code as code
use Rattle.yalwythen_channel.specs.contracts.txn.Txn.transact as g
use Rattle.yalwythen_channel.proofs.txn.Txn.transact.Met.{met}

abbrev stayed : Stays f.ended.signature.params f.ended.kept
stayed = (stay_dropped _ yes, (stay_dropped _ yes, (gave_slice (1 ∷ []) tt (plain (λ _. TR)), tt)))

pub yalwythen_txn_transact_spec : {M : Type 1} → statement M
yalwythen_txn_transact_spec 𝓤 𝓛 𝓜 𝓡 wired =
    let c = f.clauses 𝓛 𝓜.mem 𝓡.returns in let W = walk_of 𝓛 f.ended stayed c in let 𝓣 = tables 𝓤 𝓛.H 𝓜 𝓡 𝓡.env in
    proved 𝓛 f.ended stayed c 𝓜 𝓡 (
      Goes-dropped 𝓛 2 (plain (λ _. RawPtr)) yes (λ κs x w. refl),
      (
        Goes-dropped 𝓛 2 (shr_slice_of (0 ∷ []) tt (plain (λ _. OR))) yes (λ κs x w. refl),
        (Goes-gave_slice 𝓛 2 1 tt (plain (λ _. TR)), tt),
      ),
    )
    f.Key.name code.function (code.unfolded 𝓤 𝓛.H 𝓜 𝓡 wired)
    (λ κs. (rawptr_vals, (shr_slice_vals, (mut_slice_vals, tt))))
    (λ κs. (
      rawptr_Tells,
      (shr_slice_Tells (named 0) κs.0 OR, (mut_slice_Tells (named 1) κs.1.0 TR, tt)),
    )) (λ κs qs bounds a x are.
    let ns : List Val × (List Val × Unit {0}) = (shr_slice_vals a.1.0, (mut_slice_vals a.1.1.0, tt)) in
    let many : length a.1.1.0.now < 2 ^ 64 = are.1.1.0.0.1.0 in
    let y : Ptr → W.Ghost = λ p. ((κs, qs, bounds, (p, a.1), (rawptr_vals p, ns)), x) in
    qed 𝓛 (((‵ (flft κs.0 qs.0) ⊛ ‵ (flft κs.1.0 qs.1.0) ⊛ ‵ ftrue) ⊛ ‵ (RawPtr.own_val a.0 (rawptr_vals a.0)) ⊛ ‵
    ((ShrSlice (named 0) κs.0 OR).own_val a.1.0 ns.0) ⊛ ‵
    ((MutSlice (named 1) κs.1.0 TR).own_val a.1.1.0 ns.1.0) ⊛ ‵ ftrue) ∷ ‵ (lies_at R full_share a.0 x) ∷ []) ∵
    split ! $ move ! (1 ∷ []) $ split ! $ drop ! $ split ! $ move ! (1 ∷ []) $ split ! $
    move ! (1 ∷ []) $ drop ! $ move ! (3 ∷ 1 ∷ 0 ∷ 2 ∷ []) $
    -- [the transaction; the steps; the replies; the tokens]
    in_a_block ! a.0 (λ p. lies_at R full_share p x) (id⊢ 𝓤 _) (λ b o e.
    regoal ! (λ p. prop (WpFn 𝓤 𝓛.H 𝓣.C 𝓣.Λ code.function (rawptr_vals p ++ (ns.0 ++ (ns.1.0 ++ [])))
    (W.post (y p)))) e refl $
    enter ! _ _ _ _ _ $ alloc_all !
    (λ l. pass_all ! refl (
      (tt, tt),
      ((tt, (tt, (record { fits = are.1.0.0.1.0 }, tt))), ((tt, (tt, (record { fits = many }, tt))), tt)),
    ) $
    -- [the transaction; the steps; the replies; the tokens; the locals]
    sets ! (of_opd ! (get ! refl)) refl (tt, tt) $
    sets ! (addr ! (through ! refl (stop !))) refl (tt, tt) $
    sets ! (addr ! (through ! refl (stop !))) refl (tt, tt) $
    sets ! (addr ! (from ! (fld ! refl (hop ! (look_in_at ! 3 (sub ! 0 refl (whole !))) (stop !))))) refl (tt, tt) $
    sets ! (agg ! (and_then ! (get ! refl)
    (and_then ! (get_in ! (fld ! refl (stop !)) (sub ! 1 refl (whole !))) (no_more !)))) refl
    (tt, (tt, (record { fits = many }, tt))) $
    lft_new ! tt (λ α. let κ : Lft = α ∷ [] in move ! (1 ∷ []) $
    let lent : ℕ → MutBor Txns = λ γ. record { ref_ptr = (b, o); ghost_name = γ; now = x } in
    use1 𝓛 (later (some (λ (γ : ℕ). ‵ ((MutRef (named 0) κ R).own_val (lent γ) (vptr b o ∷ []))
    ⊛ ‵ (flent κ (Body (mem R) b o γ))))) (lends_ref 𝓛 R (named 0) κ x b o) $ await ! tt $ pick ! (λ γ. split ! $
    -- [the loan; what the lender keeps; the token of the loan; the steps; the replies; the tokens; the locals]
    let G = triple_of 𝓛 g.signature (g.spec 𝓛 𝓜.mem 𝓡.returns) in
    let z : G.Ghost = (((κ, κs), (full_share, qs), tt, (lent γ, a.1), (vptr b o ∷ [], ns)), tt) in
    nothing ! $ move ! (5 ∷ 0 ∷ []) $ join ! $ move ! (4 ∷ 0 ∷ []) $ join ! $
    move ! (1 ∷ 0 ∷ []) $ join ! $ move ! (2 ∷ 3 ∷ []) $ join ! $ join ! $ nothing ! $ move ! (1 ∷ 0 ∷ []) $
    use2 𝓛 (raw (G.pre z)) (id⊢ 𝓤 _) $
    calls_at ! (framed 𝓤 𝓛.H 𝓜 𝓣) G (met 𝓤 𝓛 𝓜 𝓡 (code.calls-yalwythen_channel::txn::Txn::transact 𝓡.env wired)) z
    (and_then ! (get ! refl) (and_then ! (get ! refl) (and_then ! (get ! refl) (no_more !))))
    (λ u.
    use1 𝓛 (later (some (λ (r : TR.Denot).
    ((‵ (flft κ full_share) ⊛ ‵ (flft κs.0 qs.0) ⊛ ‵ (flft κs.1.0 qs.1.0) ⊛ ‵ ftrue) ⊛ ‵ (TR.own_val r (u ∷ []))) ⊛
    some (λ (ws : Lasts g.ended z.0.0 z.0.3). ‵ (lasts g.ended z.0.0 z.0.3 ws)
    ⊛ raw (fact 𝓤 (Transacts a.1.0.now x ws.0 a.1.1.0.now ws.1.1.0 r)))))) (id⊢ 𝓤 _) $
    await ! tt $ pick ! (λ r. split ! $ split ! $ split ! $ lft_end ! tt $
    -- [the loan's lifetime is over; the tokens; what is returned; the last values and the clause; what the lender
    -- keeps]
    move ! (2 ∷ []) $ peeks ! TR (Is TR) (shows 𝓛 TR) r (u ∷ []) (λ is.
    lands_as ! refl refl ((LT.lawful 𝓛).typed r (u ∷ []) is).0 $
    move ! (3 ∷ []) $ pick ! (λ ws. split ! $ move ! (1 ∷ []) $ heard ! _ (λ transacts. fsplit ! $ fsplit ! $
    move ! (2 ∷ []) $ fsplit ! $ drop ! $ fsplit ! $ fsplit ! $ fsplit ! $ move ! (1 ∷ []) $
    feq_l ! (λ as_many. fjoin ! $ move ! (1 ∷ []) $ drop ! $
    -- [the replies; the transaction's last value; its borrow; what is returned; the lifetime is over; the tokens; what
    -- the lender keeps]
    move ! (4 ∷ 6 ∷ 1 ∷ []) $
    use3 𝓛 (later (‵ (part_at R full_share ws.0 b o))) (ref_back 𝓛 R κ γ ws.0 b o) $ await ! tt $
    returns ! (look_at ! 0 refl) $ free_all ! refl $ keep ! (0 ∷ 3 ∷ 1 ∷ 4 ∷ []) $
    let did = λ (after : Txns). Transacts a.1.0.now x after a.1.1.0.now ws.1.1.0 r in
    fpack ! (did ws.0) (λ _. lies_at R full_share (block_ptr b o) ws.0) transacts $
    fpack ! Txns (λ after. fex (did after) (λ _. lies_at R full_share (block_ptr b o) after)) ws.0 $
    suffices ! _ (ends_at 𝓛 f.ended stayed c (y (block_ptr b o)) u r (tt, (tt, (ws.1.1.0, tt))) (tt, (tt, (as_many, tt)))) $
    -- [the transaction; what is returned; the replies; the tokens]
    move ! (1 ∷ 0 ∷ []) $ nothing ! $ move ! (3 ∷ 0 ∷ []) $ join ! $ nothing ! $ join ! $ nothing ! $ join ! $
    move ! (3 ∷ []) $ group ! 3 $ done !)))))))))))
