-- `yalwythen_txn_ask` lends the transaction in its place to the call that answers. Assumes `Logic`.
use Rattle.std.proofs.Common.{List, [], ◌∷◌, ◌++◌, refl, w64, MutBor, ℕ}
use Rattle.std.proofs.raw_atomic.Walks.{proved}
use base.Fraction.{full_share}
use base.Logic.{id⊢}
use base.Fml.{Lft, ftrue, fex, flft, flent}
use mir.Syntax.{named}
use mir.Val.{Val, vptr}
use contract.Monad.{fact}
use contract.Running.{tables}
use prog.Wp.{WpFn}
use types.Kit.{‵, raw, ◌⊛◌, some, later, prop, ◌$◌, ◌∵◌, !, qed, done, move, keep, drop}
use types.Kit.{use1, use2, use3, split, join, fsplit, fpack, pick}
use types.Kit.{await, regoal, suffices, group}
use types.Tokens.{lft_new, lft_end}
use types.Run.{enter, of_opd, addr, stop, no_more, and_then, returns}
use types.ByLocal.{alloc_all, pass_all, free_all, look_at, get, through, sets, lands_as}
use types.SemTy.{Body}
use denote.Builtin.{u64}
use denote.Exit.{yes}
use denote.Laws.{Is, shows}
use denote.Lend.{lends_ref, ref_back}
use denote.Memory.{mem, part_at}
use denote.Plain.{uint_Makes, uint_vals, uint_Tells}
use denote.RawPtr.{Ptr, RawPtr, block_ptr, lies_at, in_a_block, rawptr_vals, rawptr_Tells}
use denote.Ref.{MutRef}
use denote.Signature.{plain}
use denote.Steps.{nothing, owned, peeks, heard}
use denote.Triple.Call.{calls_at}
use denote.Triple.Clauses.{Lasts, lasts}
use denote.Triple.Entry.{on_entry}
use denote.Triple.Spec.{triple_of}
use denote.Triple.Table.{framed}
use denote.Triple.Walked.{Stays, walk_of, stay_dropped, Goes-dropped, ends_at}
use Rattle.yalwythen_channel.specs.contracts.txn.Txn.{the_row as R}
use Rattle.yalwythen_channel.specs.contracts.call_result.CallResult.{the_row as TR}
use Rattle.yalwythen_channel.specs.declared.txn.Txn.{Txn as Txns}
use Rattle.yalwythen_channel.specs.Txn.{AnswersRequest}
use Rattle.yalwythen_channel.proofs.call_result.CallResult.TheLaws.{the_row_laws as LT}
use Rattle.yalwythen_channel_c.specs.contracts.border.yalwythen_txn_ask as f
use Rattle.yalwythen_channel_c.proofs.border.yalwythen_txn_ask.Statement.{statement}
use Rattle.yalwythen_channel_c.proofs.border.yalwythen_txn_ask.Code as code
use Rattle.yalwythen_channel.specs.contracts.txn.Txn.ask as g
use Rattle.yalwythen_channel.proofs.txn.Txn.ask.Met.{met}

abbrev stayed : Stays f.ended.signature.params f.ended.kept
stayed = (stay_dropped _ yes, (stay_dropped _ yes, (stay_dropped _ yes, (stay_dropped _ yes, tt))))

pub yalwythen_txn_ask_spec : {M : Type 1} → statement M
yalwythen_txn_ask_spec 𝓤 𝓛 𝓜 𝓡 wired =
    let c = f.clauses 𝓛 𝓜.mem 𝓡.returns in let W = walk_of 𝓛 f.ended stayed c in let 𝓣 = tables 𝓤 𝓛.H 𝓜 𝓡 𝓡.env in
    let n = Goes-dropped 𝓛 0 (plain (λ _. u64)) yes (λ κs x w. refl) in
    proved 𝓛 f.ended stayed c 𝓜 𝓡 (Goes-dropped 𝓛 0 (plain (λ _. RawPtr)) yes (λ κs x w. refl), (n, (n, (n, tt))))
    f.Key.name code.function (code.unfolded 𝓤 𝓛.H 𝓜 𝓡 wired)
    (λ κs. (rawptr_vals, (uint_vals w64, (uint_vals w64, (uint_vals w64, tt)))))
    (λ κs. (rawptr_Tells, (uint_Tells w64, (uint_Tells w64, (uint_Tells w64, tt))))) (λ κs qs bounds a x are.
    let ns : List Val × (List Val × (List Val × Unit {0})) =
    (uint_vals w64 a.1.0, (uint_vals w64 a.1.1.0, (uint_vals w64 a.1.1.1.0, tt))) in
    let y : Ptr → W.Ghost = λ p. ((κs, qs, bounds, (p, a.1), (rawptr_vals p, ns)), x) in
    qed 𝓛 (raw (on_entry 𝓛 f.signature κs qs a (y a.0).0.4) ∷ ‵ (lies_at R full_share a.0 x) ∷ []) ∵ drop ! $
    in_a_block ! a.0 (λ p. lies_at R full_share p x) (id⊢ 𝓤 _) (λ b o e.
    regoal ! (λ p. prop (WpFn 𝓤 𝓛.H 𝓣.C 𝓣.Λ code.function (rawptr_vals p ++ (ns.0 ++ (ns.1.0 ++ (ns.1.1.0 ++ []))))
    (W.post (y p)))) e refl $
    enter ! _ _ _ _ _ $ alloc_all !
    (λ l. pass_all ! refl (
      (tt, tt),
      (
        (tt, record { fits = are.1.0.1 }),
        ((tt, record { fits = are.1.1.0.1 }), ((tt, record { fits = are.1.1.1.0.1 }), tt)),
      ),
    ) $
    -- [the transaction; the locals]
    sets ! (of_opd ! (get ! refl)) refl (tt, tt) $
    sets ! (addr ! (through ! refl (stop !))) refl (tt, tt) $
    sets ! (addr ! (through ! refl (stop !))) refl (tt, tt) $
    lft_new ! tt (λ α. let κ : Lft = α ∷ [] in move ! (1 ∷ []) $
    let lent : ℕ → MutBor Txns = λ γ. record { ref_ptr = (b, o); ghost_name = γ; now = x } in
    use1 𝓛 (later (some (λ (γ : ℕ). ‵ ((MutRef (named 0) κ R).own_val (lent γ) (vptr b o ∷ []))
    ⊛ ‵ (flent κ (Body (mem R) b o γ))))) (lends_ref 𝓛 R (named 0) κ x b o) $ await ! tt $ pick ! (λ γ. split ! $
    -- [the loan; what the lender keeps; the token; the locals]
    let G = triple_of 𝓛 g.signature (g.spec 𝓛 𝓜.mem 𝓡.returns) in
    let z : G.Ghost = (((κ, tt), (full_share, tt), tt, (lent γ, a.1), (vptr b o ∷ [], ns)), tt) in
    nothing ! $ owned ! u64 _ (uint_Makes 𝓛 w64) a.1.1.1.0 _ (refl, are.1.1.1.0.1) $ join ! $
    owned ! u64 _ (uint_Makes 𝓛 w64) a.1.1.0 _ (refl, are.1.1.0.1) $ join ! $
    owned ! u64 _ (uint_Makes 𝓛 w64) a.1.0 _ (refl, are.1.0.1) $ join ! $
    move ! (1 ∷ 0 ∷ []) $ join ! $ nothing ! $ move ! (3 ∷ 0 ∷ []) $ join ! $ join ! $
    nothing ! $ move ! (1 ∷ 0 ∷ []) $ use2 𝓛 (raw (G.pre z)) (id⊢ 𝓤 _) $
    calls_at ! (framed 𝓤 𝓛.H 𝓜 𝓣) G (met 𝓤 𝓛 𝓜 𝓡 (code.calls-yalwythen_channel::txn::Txn::ask 𝓡.env wired)) z
    (and_then ! (get ! refl) (and_then ! (get ! refl) (and_then ! (get ! refl) (and_then ! (get ! refl) (no_more !)))))
    (λ u.
    use1 𝓛 (later (some (λ (r : TR.Denot). ((‵ (flft κ full_share) ⊛ ‵ ftrue) ⊛ ‵ (TR.own_val r (u ∷ []))) ⊛
    some (λ (ws : Lasts g.ended z.0.0 z.0.3). ‵ (lasts g.ended z.0.0 z.0.3 ws)
    ⊛ raw (fact 𝓤 (AnswersRequest a.1.0 a.1.1.0 a.1.1.1.0 x ws.0 r)))))) (id⊢ 𝓤 _) $
    await ! tt $ pick ! (λ r. split ! $ split ! $ split ! $ lft_end ! tt $
    -- [the lifetime is over; nothing; what is returned; the loan's end and the clause; what the lender keeps]
    move ! (2 ∷ []) $ peeks ! TR (Is TR) (shows 𝓛 TR) r (u ∷ []) (λ is.
    lands_as ! refl refl ((LT.lawful 𝓛).typed r (u ∷ []) is).0 $
    move ! (3 ∷ []) $ pick ! (λ ws. split ! $ move ! (1 ∷ []) $ heard ! _ (λ answers. fsplit ! $ fsplit ! $
    -- [the loan's last value; its borrow; nothing; what is returned; the lifetime is over; nothing; what the lender
    -- keeps]
    move ! (4 ∷ 6 ∷ 0 ∷ []) $
    use3 𝓛 (later (‵ (part_at R full_share ws.0 b o))) (ref_back 𝓛 R κ γ ws.0 b o) $ await ! tt $
    -- [the transaction; the borrow; nothing; what is returned; nothing; the locals]
    returns ! (look_at ! 0 refl) $ free_all ! refl $ keep ! (0 ∷ 3 ∷ []) $
    fpack ! (AnswersRequest a.1.0 a.1.1.0 a.1.1.1.0 x ws.0 r) (λ _. lies_at R full_share (block_ptr b o) ws.0) answers $
    fpack ! Txns (λ after. fex (AnswersRequest a.1.0 a.1.1.0 a.1.1.1.0 x after r)
    (λ _. lies_at R full_share (block_ptr b o) after)) ws.0 $
    suffices ! _ (ends_at 𝓛 f.ended stayed c (y (block_ptr b o)) u r (tt, (tt, (tt, (tt, tt))))
    (tt, (tt, (tt, (tt, tt))))) $
    move ! (1 ∷ 0 ∷ []) $ nothing ! $ nothing ! $ join ! $ nothing ! $ join ! $ nothing ! $ join ! $ nothing ! $
    join ! $ nothing ! $ group ! 3 $ done !))))))))))
