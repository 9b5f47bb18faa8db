-- `yalwythen_channel_move` lends both places to the call that moves an item. Assumes `Logic`.
use Rattle.std.proofs.Common.{[], ◌∷◌, ◌++◌, refl, MutBor, ℕ}
use Rattle.std.proofs.raw_atomic.Walks.{proved}
use base.Fraction.{full_share}
use base.Logic.{id⊢}
use base.Fml.{Lft, ftrue, fex, fsep, flft, flent}
use mir.Syntax.{named}
use mir.Val.{vptr}
use contract.Monad.{fact}
use contract.Running.{tables}
use prog.Wp.{WpFn}
use types.Kit.{‵, raw, ◌⊛◌, some, later, prop, ◌$◌, ◌∵◌, !, qed, done, move, keep, drop}
use types.Kit.{use1, use2, use3, split, join, fsplit, fjoin, fpack, pick}
use types.Kit.{await, regoal, suffices, group}
use types.Tokens.{lft_new, lft_end}
use types.Run.{enter, of_opd, addr, stop, no_more, and_then, returns}
use types.ByLocal.{alloc_all, pass_all, free_all, look_at, get, through, sets, lands_as}
use types.SemTy.{Body}
use denote.Exit.{yes}
use denote.Laws.{Is, shows}
use denote.Lend.{lends_ref, ref_back}
use denote.Memory.{mem, part_at}
use denote.RawPtr.{Ptr, RawPtr, block_ptr, lies_at, in_a_block, rawptr_vals, rawptr_Tells}
use denote.Ref.{MutRef}
use denote.Signature.{plain}
use denote.Steps.{nothing, peeks, heard}
use denote.Triple.Call.{calls_at}
use denote.Triple.Clauses.{Lasts, lasts}
use denote.Triple.Entry.{on_entry}
use denote.Triple.Spec.{triple_of}
use denote.Triple.Table.{framed}
use denote.Triple.Walked.{Stays, walk_of, stay_dropped, Goes-dropped, ends_at}
use Rattle.yalwythen_channel.specs.contracts.channel.Channel.{the_row as C}
use Rattle.yalwythen_channel.specs.contracts.call_result.CallResult.{the_row as TR}
use Rattle.yalwythen_channel.specs.declared.channel.Channel.{Channel as Channels}
use Rattle.yalwythen_channel.specs.OneMove.{MovesHere}
use Rattle.yalwythen_channel.proofs.call_result.CallResult.TheLaws.{the_row_laws as LT}
use Rattle.yalwythen_channel_c.specs.contracts.border.yalwythen_channel_move as f
use Rattle.yalwythen_channel_c.proofs.border.yalwythen_channel_move.Statement.{statement}
use Rattle.yalwythen_channel_c.proofs.border.yalwythen_channel_move.Code as code
use Rattle.yalwythen_channel.specs.contracts.channel.Channel.move_to as g
use Rattle.yalwythen_channel.proofs.channel.Channel.move_to.Met.{met}

abbrev stayed : Stays f.ended.signature.params f.ended.kept
stayed = (stay_dropped _ yes, (stay_dropped _ yes, tt))

pub yalwythen_channel_move_spec : {M : Type 1} → statement M
yalwythen_channel_move_spec 𝓤 𝓛 𝓜 𝓡 wired =
    let c = f.clauses 𝓛 𝓜.mem 𝓡.returns in let W = walk_of 𝓛 f.ended stayed c in let 𝓣 = tables 𝓤 𝓛.H 𝓜 𝓡 𝓡.env in
    let n = Goes-dropped 𝓛 0 (plain (λ _. RawPtr)) yes (λ κs x w. refl) in
    proved 𝓛 f.ended stayed c 𝓜 𝓡 (n, (n, tt))
    f.Key.name code.function (code.unfolded 𝓤 𝓛.H 𝓜 𝓡 wired)
    (λ κs. (rawptr_vals, (rawptr_vals, tt)))
    (λ κs. (rawptr_Tells, (rawptr_Tells, tt))) (λ κs qs bounds a x are.
    let y : Ptr → Ptr → W.Ghost = λ p q. ((κs, qs, bounds, (p, (q, tt)), (rawptr_vals p, (rawptr_vals q, tt))), x) in
    qed 𝓛 (raw (on_entry 𝓛 f.signature κs qs a (y a.0 a.1.0).0.4)
    ∷ ‵ (fsep (lies_at C full_share a.0 x.0) (lies_at C full_share a.1.0 x.1)) ∷ []) ∵ drop ! $ fsplit ! $
    -- [the transaction; the channel]
    in_a_block ! a.0 (λ p. lies_at C full_share p x.0) (id⊢ 𝓤 _) (λ b o e.
    regoal ! (λ p. prop (WpFn 𝓤 𝓛.H 𝓣.C 𝓣.Λ code.function (rawptr_vals p ++ (rawptr_vals a.1.0 ++ []))
    (W.post (y p a.1.0)))) e refl $ move ! (1 ∷ []) $
    in_a_block ! a.1.0 (λ q. lies_at C full_share q x.1) (id⊢ 𝓤 _) (λ b' o' e'.
    regoal ! (λ q. prop (WpFn 𝓤 𝓛.H 𝓣.C 𝓣.Λ code.function (rawptr_vals (block_ptr b o) ++ (rawptr_vals q ++ []))
    (W.post (y (block_ptr b o) q)))) e' refl $
    -- [the channel; the transaction]
    enter ! _ _ _ _ _ $ alloc_all ! (λ l. pass_all ! refl ((tt, tt), ((tt, tt), tt)) $
    -- [the channel; the transaction; the locals]
    sets ! (of_opd ! (get ! refl)) refl (tt, tt) $
    sets ! (addr ! (through ! refl (stop !))) refl (tt, tt) $
    sets ! (of_opd ! (get ! refl)) refl (tt, tt) $
    sets ! (addr ! (through ! refl (stop !))) refl (tt, tt) $
    sets ! (addr ! (through ! refl (stop !))) refl (tt, tt) $
    sets ! (addr ! (through ! refl (stop !))) refl (tt, tt) $
    lft_new ! tt (λ β. let λ' : Lft = β ∷ [] in move ! (1 ∷ []) $
    let lentC : ℕ → MutBor Channels = λ δ. record { ref_ptr = (b', o'); ghost_name = δ; now = x.1 } in
    use1 𝓛 (later (some (λ (δ : ℕ). ‵ ((MutRef (named 1) λ' C).own_val (lentC δ) (vptr b' o' ∷ []))
    ⊛ ‵ (flent λ' (Body (mem C) b' o' δ))))) (lends_ref 𝓛 C (named 1) λ' x.1 b' o') $ await ! tt $ pick ! (λ δ. split ! $
    -- [the channel's loan; what its lender keeps; its token; the transaction; the locals]
    move ! (3 ∷ []) $ lft_new ! tt (λ α. let κ : Lft = α ∷ [] in move ! (1 ∷ []) $
    let lentT : ℕ → MutBor Channels = λ γ. record { ref_ptr = (b, o); ghost_name = γ; now = x.0 } in
    use1 𝓛 (later (some (λ (γ : ℕ). ‵ ((MutRef (named 0) κ C).own_val (lentT γ) (vptr b o ∷ []))
    ⊛ ‵ (flent κ (Body (mem C) b o γ))))) (lends_ref 𝓛 C (named 0) κ x.0 b o) $ await ! tt $ pick ! (λ γ. split ! $
    -- [the transaction's loan; what its lender keeps; its token; the channel's loan; what its lender keeps; its token;
    -- the locals]
    let G = triple_of 𝓛 g.signature (g.spec 𝓛 𝓜.mem 𝓡.returns) in
    let z : G.Ghost = (
      (
        (κ, (λ', tt)),
        (full_share, (full_share, tt)),
        tt,
        (lentT γ, (lentC δ, tt)),
        (vptr b o ∷ [], (vptr b' o' ∷ [], tt)),
      ),
      tt,
    ) in
    nothing ! $ move ! (4 ∷ 0 ∷ []) $ join ! $ move ! (1 ∷ 0 ∷ []) $ join ! $
    -- [the arguments; what the transaction's lender keeps; its token; what the channel's lender keeps; its token]
    nothing ! $ move ! (5 ∷ 0 ∷ []) $ join ! $ move ! (3 ∷ 0 ∷ []) $ join ! $ join ! $
    nothing ! $ move ! (1 ∷ 0 ∷ []) $ use2 𝓛 (raw (G.pre z)) (id⊢ 𝓤 _) $
    calls_at ! (framed 𝓤 𝓛.H 𝓜 𝓣) G (met 𝓤 𝓛 𝓜 𝓡 (code.calls-yalwythen_channel::channel::Channel::move_to 𝓡.env wired)) z
    (and_then ! (get ! refl) (and_then ! (get ! refl) (no_more !)))
    (λ u.
    use1 𝓛 (later (some (λ (r : TR.Denot).
    ((‵ (flft κ full_share) ⊛ ‵ (flft λ' full_share) ⊛ ‵ ftrue) ⊛ ‵ (TR.own_val r (u ∷ []))) ⊛
    some (λ (ws : Lasts g.ended z.0.0 z.0.3). ‵ (lasts g.ended z.0.0 z.0.3 ws)
    ⊛ raw (fact 𝓤 (MovesHere x.0 x.1 ws.0 ws.1.0 r)))))) (id⊢ 𝓤 _) $
    await ! tt $ pick ! (λ r. split ! $ split ! $ split ! $ lft_end ! tt $
    move ! (1 ∷ []) $ split ! $ lft_end ! tt $
    -- [the channel's lifetime is over; nothing; the transaction's is; what is returned; the loans' ends and the clause;
    -- what the transaction's lender keeps; what the channel's lender keeps]
    move ! (3 ∷ []) $ peeks ! TR (Is TR) (shows 𝓛 TR) r (u ∷ []) (λ is.
    lands_as ! refl refl ((LT.lawful 𝓛).typed r (u ∷ []) is).0 $
    move ! (4 ∷ []) $ pick ! (λ ws. split ! $ move ! (1 ∷ []) $ heard ! _ (λ moves. fsplit ! $ fsplit ! $
    -- [the transaction's last value; its borrow; the other ends; what is returned; the channel's lifetime is over;
    -- nothing; the transaction's is; what the transaction's lender keeps; what the channel's lender keeps]
    move ! (6 ∷ 7 ∷ 0 ∷ []) $
    use3 𝓛 (later (‵ (part_at C full_share ws.0 b o))) (ref_back 𝓛 C κ γ ws.0 b o) $ await ! tt $
    -- [the transaction; its borrow; the other ends; what is returned; the channel's lifetime is over; nothing; what the
    -- channel's lender keeps]
    move ! (2 ∷ []) $ fsplit ! $ fsplit ! $
    -- [the channel's last value; its borrow; nothing; the transaction; its borrow; what is returned; the channel's
    -- lifetime is over; nothing; what the channel's lender keeps]
    move ! (6 ∷ 8 ∷ 0 ∷ []) $
    use3 𝓛 (later (‵ (part_at C full_share ws.1.0 b' o'))) (ref_back 𝓛 C λ' δ ws.1.0 b' o') $ await ! tt $
    -- [the channel; its borrow; nothing; the transaction; its borrow; what is returned; nothing; the locals]
    returns ! (look_at ! 0 refl) $ free_all ! refl $ keep ! (0 ∷ 3 ∷ 5 ∷ []) $ move ! (1 ∷ 0 ∷ []) $ fjoin ! $
    let both : Channels → Channels → _ = λ after left. fsep (lies_at C full_share (block_ptr b o) after)
    (lies_at C full_share (block_ptr b' o') left) in
    fpack ! (MovesHere x.0 x.1 ws.0 ws.1.0 r) (λ _. both ws.0 ws.1.0) moves $
    fpack ! Channels (λ left. fex (MovesHere x.0 x.1 ws.0 left r) (λ _. both ws.0 left)) ws.1.0 $
    fpack ! Channels (λ after. fex Channels (λ left. fex (MovesHere x.0 x.1 after left r) (λ _. both after left))) ws.0 $
    suffices ! _ (ends_at 𝓛 f.ended stayed c (y (block_ptr b o) (block_ptr b' o')) u r (tt, (tt, tt)) (tt, (tt, tt))) $
    move ! (1 ∷ 0 ∷ []) $ nothing ! $ nothing ! $ join ! $ nothing ! $ join ! $ nothing ! $ group ! 3 $
    done !)))))))))))))
