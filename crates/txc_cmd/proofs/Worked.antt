-- Three small scripts in some order, and what they come to.
use Rattle.std.proofs.Common.{◌≡◌, refl, ℕ, true, false, [], ◌∷◌, map}
use Rattle.txc_base.specs.declared.cause.Cause.TheVariants.{Empty}
use Rattle.txc_base.specs.declared.item.Item.{Item}
use Rattle.txc_base.specs.declared.kind.Kind.TheVariants.{Queue}
use Rattle.txc_base.specs.declared.op.Op.TheVariants.{Read, Write}
use Rattle.txc_base.specs.declared.source.Source.TheVariants.{Lit}
use Rattle.txc_chan.specs.declared.decl.Decl.{Decl}
use Rattle.txc_txn_check.specs.declared.step.Step.TheVariants.{Do}
use Rattle.txc_txn.specs.Limits.{CheckedView}
use Rattle.txc_txn.proofs.Running.{step_in-Do}
use Rattle.txc_cmd_report.specs.declared.seat_end.SeatEnd.TheVariants.{Finished, Stalled}
use Rattle.txc_cmd_replay.specs.Rounds.{rounds}
use Rattle.txc_cmd_script.specs.Script.{Script}
use Rattle.txc_cmd.specs.InOrder.{outcome_in_order, last_turn}

queue : Decl
queue = record { kind = Queue; bound = 0; readers = 1 }

-- no channels, and two seats that do nothing
idle : Script
idle = record { decls = []; seats = [] ∷ [] ∷ [] }

idle_comes : outcome_in_order idle [] (Finished ∷ Finished ∷ []) ≡ rounds idle
unfolding idle rounds
idle_comes = refl

writes : ℕ → CheckedView
writes body = record { declared = 0 ∷ []; steps = Do (Write 0 (Lit body)) ∷ [] }

-- two seats that write to one queue
two : Script
two = record { decls = queue ∷ []; seats = (writes 5 ∷ []) ∷ (writes 7 ∷ []) ∷ [] }

-- the bodies that it leaves in the queue, in the order of the rounds
first_first : map (map (λ (i : Item). i.body)) ((last_turn two (0 ∷ 1 ∷ [])).chans 0).channel.lists ≡ (5 ∷ 7 ∷ []) ∷ []
unfolding queue two writes
first_first = simp (step_in-Do) refl

-- and in the other
second_first : map (map (λ (i : Item). i.body)) ((last_turn two (1 ∷ 0 ∷ [])).chans 0).channel.lists ≡ (7 ∷ 5 ∷ []) ∷ []
unfolding queue two writes
second_first = simp (step_in-Do) refl

-- each turn keeps its transaction, but a seat has no second one
both_kept : (last_turn two (1 ∷ 0 ∷ [])).kept ≡ true
unfolding queue two writes
both_kept = simp (step_in-Do) refl

none_twice : (last_turn two (1 ∷ 1 ∷ [])).kept ≡ false
unfolding queue two writes
none_twice = simp (step_in-Do) refl

-- a reader of an empty queue: its turn keeps nothing, and so it has no place in the order
reader : Script
reader = record { decls = queue ∷ []; seats = (record { declared = 0 ∷ []; steps = Do (Read 0 0) ∷ [] } ∷ []) ∷ [] }

not_kept : (last_turn reader (0 ∷ [])).kept ≡ false
unfolding queue reader
not_kept = simp (step_in-Do) refl

reader_comes : outcome_in_order reader [] (Stalled Empty ∷ []) ≡ rounds reader
unfolding queue reader rounds
reader_comes = simp (step_in-Do) refl
