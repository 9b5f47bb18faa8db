use Rattle.std.proofs.Common.{◌≡◌, ◌∙◌, ap, ◌<◌, ◌+◌, ◌++◌, drop, length, List, arith}
use Rattle.txc_chan.specs.declared.decl.Decl.{Decl}
use Rattle.txc_txn.specs.Plain.{chan_in}
use Rattle.txc_cmd_explore.specs.declared.state.Shape.{Shape}
use Rattle.txc_cmd_explore.specs.Ends.{shape_of, shapes_from}
use Rattle.txc_cmd_explore.proofs.Following.{shape_next}
use Rattle.txc_cmd_explore.proofs.follow.shapes.Goals as goal

pub loop-chan-preserved : goal.loop-chan-preserved
loop-chan-preserved c =
    let lt : c.loop-chan.chan < length c.args.script.now.decls =
    omega (arith, c.loop-chan-test.true, ap (λ (l : List Decl). length l) c.decls-chan-end.ensures) in
    let zero : c.loop-chan.chan ≡ 0 + c.loop-chan.chan = omega arith in
    let is : c.in_ok-shape.field-0 ≡ shape_of (chan_in c.args.channels.now.held (0 + c.loop-chan.chan)).channel =
    c.in_ok-shape.ensures ∙ ap (λ k. shape_of (chan_in c.args.channels.now.held k).channel) zero in
    ap (λ (l : List Shape). l ++ shapes_from (0 + (c.loop-chan.chan + 1))
    (drop (c.loop-chan.chan + 1) c.args.script.now.decls) (chan_in c.args.channels.now.held)) c.in_ok-push.ensures.items
    ∙ shape_next c.args.script.now.decls (chan_in c.args.channels.now.held) c.loop-chan.chan 0 c.loop-chan.shapes.items
    c.in_ok-shape.field-0 lt is c.loop-chan.invariant
