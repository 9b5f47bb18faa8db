-- What is searched after a state was visited.
use Rattle.std.proofs.Common.{◌≡◌, sym, ◌∙◌, ap, subst, inl, inr, ⊎_elim, ℕ, ◌<◌, Bool, true, false, List, [], ◌∷◌}
use Rattle.std.proofs.Common.{◌++◌, length, slice_index_or}
use Rattle.txc_base.specs.declared.limits.TheConstants.{GREATEST_NUMBER}
use Rattle.txc_cmd_report.specs.declared.seat_end.SeatEnd.{SeatEnd}
use Rattle.txc_cmd_report.specs.declared.seat_end.SeatEnd.TheVariants.{Finished}
use Rattle.txc_cmd_replay.specs.Rounds.{Round}
use Rattle.txc_cmd_script.specs.Script.{Script}
use Rattle.txc_cmd_explore.specs.declared.state.State.{State}
use Rattle.txc_cmd_explore.specs.declared.found_end.FoundEnd.{FoundEnd}
use Rattle.txc_cmd_explore.specs.Ends.{IsAmong, IsEnd, IsSeen, state_of}
use Rattle.txc_cmd_explore.specs.Moves.{can_move, reached}
use Rattle.txc_cmd_explore.specs.Search.{IsSearch}
use Rattle.txc_cmd_explore.specs.Followed.{HaveTried}
use Rattle.txc_cmd_explore.proofs.Searching.{and_right, apart_push, from_push, moves_push, pushed, search_adds, to_push}

module _ (script : Script) (order : List ℕ) (state : State) (seen : List State) (rest waiting : List (List ℕ))
    (found : List FoundEnd) (ends : List SeatEnd) (any : Bool)
    (kept : (reached script order).kept ≡ true) (short : length order < GREATEST_NUMBER)
    (at : state ≡ state_of script.decls (reached script order))
    (t : HaveTried script order (length script.seats) rest waiting ends any)
    (s : IsSearch script seen (rest ++ order ∷ []) found) where
  next_waits : (seat : ℕ) → seat < length script.seats → (reached script (order ++ seat ∷ [])).kept ≡ true
      → IsAmong waiting (order ++ seat ∷ [])
  next_waits seat lt k =
      t.next seat lt (and_right (reached script order).kept (can_move script.seats seat (reached script order))
      (sym (ap (λ (r : Round). r.kept) (moves_push script.seats order seat (reached script []))) ∙ k))

  -- a seat can move
  pub expand_some : any ≡ true → IsSearch script (seen ++ state ∷ []) waiting found
  expand_some was =
      search_adds script seen rest waiting found found order state kept short at t.more next_waits (λ e h. h)
      (λ e h. inl h)
      (λ is. let x = t.some was in let no = is.last x.0 x.1.0 in let can = x.1.1 in absurd (cc))
      (λ e h. to_push seen state _ (s.within e h)) s.once s

  -- none can: it is an end
  module _ (no : any ≡ false) (end : FoundEnd) (is_order : end.order ≡ order) (is_ends : end.ends ≡ ends)
      (new : IsAmong seen state → ⊥) where
    end_seen : IsSeen script order end
    end_seen = record {
      state = ap (λ (o : List ℕ). state_of script.decls (reached script o)) (sym is_order);
      many = ap (λ (l : List SeatEnd). length l) is_ends ∙ t.many;
      each = λ seat lt. ap (λ (l : List SeatEnd). slice_index_or l seat Finished) is_ends ∙ t.each seat lt;
    }

    end_is : IsEnd script order
    end_is = record { moved = kept; last = λ seat lt. t.none no seat lt }

    -- the state that an end was found at
    abbrev seen_at : FoundEnd → State
    seen_at x = state_of script.decls (reached script x.order)

    end_at : state ≡ seen_at end
    end_at = at ∙ ap (λ (o : List ℕ). state_of script.decls (reached script o)) (sym is_order)

    pub expand_end : IsSearch script (seen ++ state ∷ []) waiting (found ++ end ∷ [])
    expand_end =
        search_adds script seen rest waiting found (found ++ end ∷ []) order state kept short at t.more next_waits
        (λ e h. to_push found end e h)
        (λ e h. ⊎_elim (λ (k : IsAmong found e). inl k)
        (λ (same : end ≡ e). inr (subst (λ (x : FoundEnd). IsEnd script x.order × IsSeen script x.order x) same
        (subst (λ (o : List ℕ). IsEnd script o × IsSeen script o end) (sym is_order) (end_is, end_seen))))
        (from_push found end e h))
        (λ is. (end, (pushed found end, end_seen)))
        (λ e h. ⊎_elim (λ (k : IsAmong found e). to_push seen state _ (s.within e k))
        (λ (same : end ≡ e). subst (λ (x : FoundEnd). IsAmong (seen ++ state ∷ []) (seen_at x)) same
        (subst (λ (p : State). IsAmong (seen ++ state ∷ []) p) end_at (pushed seen state)))
        (from_push found end e h))
        (apart_push script found end (λ e h same. new (subst (λ (p : State). IsAmong seen p) (same ∙ sym end_at)
        (s.within e h))) s.once) s
