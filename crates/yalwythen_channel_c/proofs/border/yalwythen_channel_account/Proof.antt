-- `yalwythen_channel_account` lends the channel in its place to the call that reads the account. The array is given to
-- the callee for good. Assumes `Logic`.
use Rattle.std.proofs.Common.{List, [], ◌∷◌, ◌++◌, ◌<◌, ◌^◌, length, refl, w64, Bor}
use Rattle.std.proofs.raw_atomic.Walks.{proved}
use mathlib.Core.List.{not-mem-nil}
use base.Fraction.{full_share}
use base.Logic.{id⊢}
use base.Fml.{Lft, Incl-refl, ftrue, flft, flent}
use mir.Syntax.{named}
use mir.Val.{Val, vptr}
use contract.Monad.{fact}
use contract.Running.{tables}
use prog.Wp.{WpFn}
use types.Kit.{‵, raw, ◌⊛◌, some, later, prop, ◌$◌, ◌∵◌, !, qed, done, move, keep, drop}
use types.Kit.{use1, use2, split, join, fsplit}
use types.Kit.{fjoin, feq_l, fpack, pick, await, regoal, suffices, group}
use types.Tokens.{lft_new, lft_end, lent_back}
use types.Run.{enter, of_opd, addr, from, hop, stop, fld, no_more, and_then, returns}
use types.ByLocal.{alloc_all, pass_all, free_all, look_at, look_in_at, get, get_in, through, sets, lands_as}
use types.Part.{agg, sub, whole}
use denote.Builtin.{u64}
use denote.Exit.{yes}
use denote.Laws.{Is, shows}
use denote.Lend.{lends_shr}
use denote.Memory.{part_at}
use denote.Plain.{uint_Makes, uint_vals, uint_Tells}
use denote.RawPtr.{Ptr, RawPtr, block_ptr, lies_at, in_a_block, rawptr_vals, rawptr_Tells}
use denote.Ref.{ShrRef}
use denote.Signature.{plain}
use denote.Slice.{MutSlice, mut_slice_vals, mut_slice_Tells}
use denote.Steps.{nothing, owned, peeks, heard}
use denote.Triple.Call.{calls_at}
use denote.Triple.Clauses.{Lasts, lasts}
use denote.Triple.Spec.{triple_of}
use denote.Triple.Table.{framed}
use denote.Triple.Walked.{Stays, walk_of, stay_dropped, gave_slice, Goes-dropped, Goes-gave_slice, ends_at}
use Rattle.yalwythen_channel.specs.contracts.account.Record.{the_row as LN}
use Rattle.yalwythen_channel.specs.contracts.channel.Channel.{the_row as R}
use Rattle.yalwythen_channel.specs.contracts.call_result.CallResult.{the_row as TR}
use Rattle.yalwythen_channel.specs.declared.channel.Channel.{Channel as Channels}
use Rattle.yalwythen_channel.specs.Channel.{TellsAccount, recorded_in}
use Rattle.yalwythen_channel.proofs.channel.Channel.TheLaws.{the_row_laws as LR}
use Rattle.yalwythen_channel.proofs.call_result.CallResult.TheLaws.{the_row_laws as LT}
use Rattle.yalwythen_channel_c.specs.contracts.border.yalwythen_channel_account as f
use Rattle.yalwythen_channel_c.proofs.border.yalwythen_channel_account.Statement.{statement}
use Rattle.yalwythen_channel_c.proofs.border.yalwythen_channel_account.Code as code
use Rattle.yalwythen_channel.specs.contracts.channel.Channel.read_account as g
use Rattle.yalwythen_channel.proofs.channel.Channel.read_account.Met.{met}

abbrev stayed : Stays f.ended.signature.params f.ended.kept
stayed = (stay_dropped _ yes, (stay_dropped _ yes, (gave_slice (0 ∷ []) tt (plain (λ _. LN)), tt)))

pub yalwythen_channel_account_spec : {M : Type 1} → statement M
yalwythen_channel_account_spec 𝓤 𝓛 𝓜 𝓡 wired =
    let c = f.clauses 𝓛 𝓜.mem 𝓡.returns in let W = walk_of 𝓛 f.ended stayed c in let 𝓣 = tables 𝓤 𝓛.H 𝓜 𝓡 𝓡.env in
    proved 𝓛 f.ended stayed c 𝓜 𝓡 (
      Goes-dropped 𝓛 1 (plain (λ _. RawPtr)) yes (λ κs x w. refl),
      (Goes-dropped 𝓛 1 (plain (λ _. u64)) yes (λ κs x w. refl), (Goes-gave_slice 𝓛 1 0 tt (plain (λ _. LN)), tt)),
    )
    f.Key.name code.function (code.unfolded 𝓤 𝓛.H 𝓜 𝓡 wired)
    (λ κs. (rawptr_vals, (uint_vals w64, (mut_slice_vals, tt))))
    (λ κs. (rawptr_Tells, (uint_Tells w64, (mut_slice_Tells (named 0) κs.0 LN, tt))))
    (λ κs qs bounds a x are.
    let ns : List Val × (List Val × Unit {0}) = (uint_vals w64 a.1.0, (mut_slice_vals a.1.1.0, tt)) in
    let many : length a.1.1.0.now < 2 ^ 64 = are.1.1.0.0.1.0 in
    let y : Ptr → W.Ghost = λ p. ((κs, qs, bounds, (p, a.1), (rawptr_vals p, ns)), x) in
    qed 𝓛 (((‵ (flft κs.0 qs.0) ⊛ ‵ ftrue) ⊛ ‵ (RawPtr.own_val a.0 (rawptr_vals a.0)) ⊛ ‵ (u64.own_val a.1.0 ns.0) ⊛ ‵
    ((MutSlice (named 0) κs.0 LN).own_val a.1.1.0 ns.1.0) ⊛ ‵ ftrue) ∷ ‵
    (lies_at R full_share a.0 x) ∷ []) ∵
    split ! $ move ! (1 ∷ []) $ split ! $ drop ! $ split ! $ drop ! $ split ! $ move ! (1 ∷ []) $
    drop ! $ move ! (2 ∷ 0 ∷ 1 ∷ []) $
    -- [the channel; the records; the tokens]
    in_a_block ! a.0 (λ p. lies_at R full_share p x) (id⊢ 𝓤 _) (λ b o e.
    regoal ! (λ p. prop (WpFn 𝓤 𝓛.H 𝓣.C 𝓣.Λ code.function (rawptr_vals p ++ (ns.0 ++ (ns.1.0 ++ [])))
    (W.post (y p)))) e refl $
    enter ! _ _ _ _ _ $ alloc_all !
    (λ l. pass_all ! refl (
      (tt, tt),
      ((tt, record { fits = are.1.0.1 }), ((tt, (tt, (record { fits = many }, tt))), tt)),
    ) $
    -- [the channel; the records; the tokens; the locals]
    sets ! (of_opd ! (get ! refl)) refl (tt, tt) $
    sets ! (addr ! (through ! refl (stop !))) refl (tt, tt) $
    sets ! (addr ! (from ! (fld ! refl (hop ! (look_in_at ! 3 (sub ! 0 refl (whole !))) (stop !))))) refl (tt, tt) $
    sets ! (agg ! (and_then ! (get ! refl)
    (and_then ! (get_in ! (fld ! refl (stop !)) (sub ! 1 refl (whole !))) (no_more !)))) refl
    (tt, (tt, (record { fits = many }, tt))) $
    lft_new ! tt (λ α. let κ : Lft = α ∷ [] in move ! (1 ∷ 0 ∷ []) $
    let lent : Bor Channels = record { ref_ptr = (b, o); now = x } in
    use2 𝓛 (later ((‵ ((ShrRef (named 0) κ R).own_val lent (vptr b o ∷ [])) ⊛ ‵ (flent κ (part_at R full_share x b o)))
    ⊛ ‵ (flft κ full_share)))
    (lends_shr 𝓛 R (named 0) κ full_share x b o R.lives (LR.shares 𝓛 x) ((κ, full_share) ∷ [])
    (λ _ inside. absurd (not-mem-nil inside)) (Incl-refl κ)) $ await ! tt $ split ! $ split ! $
    -- [the loan; what the lender keeps; the token of the loan; the records; the tokens; the locals]
    let G = triple_of 𝓛 g.signature (g.spec 𝓛 𝓜.mem 𝓡.returns) in
    let z : G.Ghost = (((κ, κs), (full_share, qs), tt, (lent, a.1), (vptr b o ∷ [], ns)), tt) in
    nothing ! $ move ! (4 ∷ 0 ∷ []) $ join ! $
    owned ! u64 _ (uint_Makes 𝓛 w64) a.1.0 _ (refl, are.1.0.1) $ join ! $
    move ! (1 ∷ 0 ∷ []) $ join ! $ move ! (2 ∷ 3 ∷ []) $ join ! $ join ! $ nothing ! $ move ! (1 ∷ 0 ∷ []) $
    use2 𝓛 (raw (G.pre z)) (id⊢ 𝓤 _) $
    calls_at ! (framed 𝓤 𝓛.H 𝓜 𝓣) G (met 𝓤 𝓛 𝓜 𝓡 (code.calls-yalwythen_channel::channel::Channel::read_account 𝓡.env wired)) z
    (and_then ! (get ! refl) (and_then ! (get ! refl) (and_then ! (get ! refl) (no_more !))))
    (λ u.
    use1 𝓛 (later (some (λ (r : TR.Denot).
    ((‵ (flft κ full_share) ⊛ ‵ (flft κs.0 qs.0) ⊛ ‵ ftrue) ⊛ ‵ (TR.own_val r (u ∷ []))) ⊛
    some (λ (ws : Lasts g.ended z.0.0 z.0.3). ‵ (lasts g.ended z.0.0 z.0.3 ws)
    ⊛ raw (fact 𝓤 (TellsAccount a.1.0 (recorded_in x) a.1.1.0.now ws.1.1.0 r)))))) (id⊢ 𝓤 _) $
    await ! tt $ pick ! (λ r. split ! $ split ! $ split ! $ lft_end ! tt $
    -- [the loan's lifetime is over; the tokens; what is returned; the last values and the clause; what the lender
    -- keeps]
    move ! (2 ∷ []) $ peeks ! TR (Is TR) (shows 𝓛 TR) r (u ∷ []) (λ is.
    lands_as ! refl refl ((LT.lawful 𝓛).typed r (u ∷ []) is).0 $
    move ! (3 ∷ []) $ pick ! (λ ws. split ! $ move ! (1 ∷ []) $ heard ! _ (λ tells. fsplit ! $ drop ! $
    fsplit ! $ drop ! $ fsplit ! $ fsplit ! $ fsplit ! $ move ! (1 ∷ []) $
    feq_l ! (λ as_many. fjoin ! $ move ! (1 ∷ []) $ drop ! $
    -- [the records; what is returned; the lifetime is over; the tokens; what the lender keeps]
    move ! (2 ∷ 4 ∷ []) $ lent_back ! tt $
    returns ! (look_at ! 0 refl) $ free_all ! refl $ keep ! (0 ∷ 2 ∷ 1 ∷ 3 ∷ []) $
    fpack ! (TellsAccount a.1.0 (recorded_in x) a.1.1.0.now ws.1.1.0 r)
    (λ _. lies_at R full_share (block_ptr b o) x) tells $
    suffices ! _ (ends_at 𝓛 f.ended stayed c (y (block_ptr b o)) u r (tt, (tt, (ws.1.1.0, tt)))
    (tt, (tt, (as_many, tt)))) $
    -- [the channel; what is returned; the records; the tokens]
    move ! (1 ∷ 0 ∷ []) $ nothing ! $ move ! (3 ∷ 0 ∷ []) $ join ! $ nothing ! $ join ! $ nothing ! $ join ! $
    move ! (3 ∷ []) $ group ! 3 $ done !))))))))))
