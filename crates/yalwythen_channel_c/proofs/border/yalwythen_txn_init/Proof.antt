-- `yalwythen_txn_init` makes an empty transaction and writes it to its place. Assumes `Logic`.
use Rattle.std.proofs.Common.{[], ◌∷◌, ◌++◌, refl}
use Rattle.std.proofs.raw_atomic.Walks.{proved}
use base.Fraction.{full_share}
use base.Logic.{id⊢}
use base.Fml.{fex, ftrue}
use mir.Val.{Val, vunit}
use contract.Monad.{fact}
use contract.Running.{tables}
use prog.Wp.{WpFn}
use types.Kit.{‵, raw, ◌⊛◌, some, later, prop, ◌$◌, ◌∵◌, !, qed, done, move, drop, use1, use2, split, join, fpack, pick}
use types.Kit.{await, regoal, suffices, group, feq_i}
use types.Run.{enter, of_opd, stop, unit_lit, no_more, and_then, assigns, init, returns}
use types.ByLocal.{alloc_all, pass_all, free_all, look_at, get, through, sets, lands_as}
use borrow.Table.OneValue.{part_in}
use denote.Exit.{yes}
use denote.Laws.{Is, shows}
use denote.RawPtr.{Ptr, RawPtr, block_ptr, lies_at, room_at, in_a_block, rawptr_vals, rawptr_Tells}
use denote.Signature.{plain}
use denote.Steps.{nothing, heard, peeks}
use denote.Triple.Call.{calls_at}
use denote.Triple.Clauses.{Lasts, lasts}
use denote.Triple.Spec.{triple_of}
use denote.Triple.Table.{framed}
use denote.Triple.Walked.{Stays, walk_of, stay_dropped, Goes-dropped, ends_at}
use Rattle.std.specs.contracts.alloc.Global.{the_row as GR}
use Rattle.std.proofs.alloc.Global.TheLaws.{lowered, lowers, the_row_laws as LG}
use Rattle.yalwythen_channel.specs.contracts.txn.Txn.{the_row as R}
use Rattle.std.proofs.Common.{false}
use Rattle.yalwythen_channel.specs.declared.txn.Txn.{Txn as Txns}
use Rattle.yalwythen_channel.specs.Txn.{IsNewTxn}
use Rattle.yalwythen_channel.proofs.txn.Txn.TheLaws.{the_row_laws as LR}
use Rattle.yalwythen_channel_c.specs.contracts.border.yalwythen_txn_init as f
use Rattle.yalwythen_channel_c.proofs.border.yalwythen_txn_init.Statement.{statement}
use Rattle.yalwythen_channel_c.proofs.border.yalwythen_txn_init.Code as code
use Rattle.yalwythen_channel.specs.contracts.txn.Txn.unrecorded as g
use Rattle.yalwythen_channel.proofs.txn.Txn.unrecorded.Met.{met}

abbrev stayed : Stays f.ended.signature.params f.ended.kept
stayed = (stay_dropped _ yes, (stay_dropped _ yes, tt))

pub yalwythen_txn_init_spec : {M : Type 1} → statement M
yalwythen_txn_init_spec 𝓤 𝓛 𝓜 𝓡 wired =
    let c = f.clauses 𝓛 𝓜.mem 𝓡.returns in let W = walk_of 𝓛 f.ended stayed c in let 𝓣 = tables 𝓤 𝓛.H 𝓜 𝓡 𝓡.env in
    proved 𝓛 f.ended stayed c 𝓜 𝓡 (
      Goes-dropped 𝓛 0 (plain (λ _. RawPtr)) yes (λ κs x w. refl),
      (Goes-dropped 𝓛 0 (plain (λ _. GR)) yes (λ κs x w. refl), tt),
    )
    f.Key.name code.function (code.unfolded 𝓤 𝓛.H 𝓜 𝓡 wired)
    (λ κs. (rawptr_vals, ((λ d. lowered d ∷ []), tt))) (λ κs. (rawptr_Tells, (lowers.val_is, tt)))
    (λ κs qs bounds a _ are.
    let h : Val = lowered a.1.0 in
    let y : Ptr → W.Ghost = λ p. ((κs, qs, bounds, (p, a.1), (rawptr_vals p, (h ∷ [], tt))), tt) in
    let tg = ((LG.lawful 𝓛).typed a.1.0 (h ∷ []) are.1.0).0 in
    qed 𝓛 ((‵ ftrue ⊛ ‵ (RawPtr.own_val a.0 (rawptr_vals a.0)) ⊛ ‵ (GR.own_val a.1.0 (h ∷ [])) ⊛ ‵ ftrue) ∷ ‵
    (room_at R a.0) ∷ []) ∵
    split ! $ drop ! $ split ! $ drop ! $ move ! (1 ∷ []) $
    in_a_block ! a.0 (λ p. room_at R p) (id⊢ 𝓤 _) (λ b o e.
    regoal ! (λ p. prop (WpFn 𝓤 𝓛.H 𝓣.C 𝓣.Λ code.function (rawptr_vals p ++ (h ∷ [])) (W.post (y p)))) e refl $
    enter ! _ _ _ _ _ $ alloc_all ! (λ l. pass_all ! refl ((tt, tt), (tg, tt)) $
    -- [the place; the allocator's; the locals]
    sets ! (of_opd ! (get ! refl)) refl (tt, tt) $
    let G = triple_of 𝓛 g.signature (g.spec 𝓛 𝓜.mem 𝓡.returns) in
    let z : G.Ghost = ((κs, qs, bounds, a.1, (h ∷ [], tt)), tt) in
    move ! (1 ∷ []) $ nothing ! $ join ! $ nothing ! $ move ! (1 ∷ 0 ∷ []) $ use2 𝓛 (raw (G.pre z)) (id⊢ 𝓤 _) $
    calls_at ! (framed 𝓤 𝓛.H 𝓜 𝓣) G (met 𝓤 𝓛 𝓜 𝓡 (code.calls-yalwythen_channel::txn::Txn::unrecorded 𝓡.env wired)) z
    (and_then ! (get ! refl) (no_more !)) (λ u.
    use1 𝓛 (later (some (λ (r : R.Denot). (‵ ftrue ⊛ ‵ (R.own_val r (u ∷ []))) ⊛
    some (λ (ws : Lasts g.ended κs z.0.3). ‵ (lasts g.ended κs z.0.3 ws) ⊛
    raw (fact 𝓤 (IsNewTxn false r)))))) (id⊢ 𝓤 _) $
    await ! tt $ pick ! (λ r. split ! $ split ! $ drop ! $ move ! (1 ∷ []) $ pick ! (λ ws. split ! $ drop ! $
    heard ! _ (λ is_new.
    peeks ! R (Is R) (shows 𝓛 R) r (u ∷ []) (λ is.
    let t = ((LR.lawful 𝓛).typed r (u ∷ []) is).0 in
    -- [what the transaction owns; the place; the locals]
    lands_as ! refl refl t $
    assigns ! (of_opd ! (get ! refl)) (through ! refl (stop !)) (init ! 1 refl t) $
    sets ! (of_opd ! (unit_lit !)) refl (tt, tt) $
    returns ! (look_at ! 0 refl) $ free_all ! refl $
    move ! (1 ∷ 0 ∷ []) $ use2 𝓛 (‵ (lies_at R full_share (block_ptr b o) r)) (part_in 𝓛 R refl full_share r b o u) $
    fpack ! (IsNewTxn false r) (λ _. lies_at R full_share (block_ptr b o) r) is_new $
    fpack ! Txns (λ made. fex (IsNewTxn false made) (λ _. lies_at R full_share (block_ptr b o) made)) r $
    suffices ! _ (ends_at 𝓛 f.ended stayed c (y (block_ptr b o)) vunit tt (tt, (tt, tt)) (tt, (tt, tt))) $
    feq_i ! _ (vunit ∷ []) _ refl $ nothing ! $ nothing ! $ join ! $ nothing ! $ join ! $ nothing ! $ group ! 3 $
    done !))))))))
