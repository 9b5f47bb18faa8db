use Rattle.std.proofs.Common.{◌≡◌, ◌∙◌, ◌<◌, sym, subst, ap, arith, ℕ, List, All, IfOk, length, slice_get}
use Rattle.std.proofs.lemmas.List.{length-map}
use Rattle.std.proofs.lemmas.List.Elements.{All-contains_itself}
use Rattle.txc_base.specs.declared.kind.Kind.{Kind}
use Rattle.txc_txn_check.specs.Limits.{IsRising}
use Rattle.txc_txn_check.specs.Steps.{Fits}
use Rattle.txc_txn.specs.Maps.{Map, kinds_of}
use Rattle.txc_txn.specs.Run.{IfKept}
use Rattle.txc_table_line.specs.Line.{LineId}
use Rattle.txc_table_line.specs.SeatShare.{SeatShareView}
use Rattle.txc_table_lines.specs.Committed.{AreCommitted}
use Rattle.txc_table_lines.specs.Guards.{chans_of}
use Rattle.txc_table_lines.specs.Lines.{AreSince, OnlyGrew, line_ids}
use Rattle.txc_table_lines.specs.OneOperation.{AreKnown}
use Rattle.txc_table.specs.Table.{TableView}
use Rattle.txc_table.proofs.Standing.{kept_with}
use Rattle.txc_table.proofs.Trying.{held_answers, held_stop, kinds_agree, kinds_within, known_of}
use Rattle.txc_table.proofs.table.Table.run_held.Goals as goal

pub take-guards-requires : goal.take-guards-requires
take-guards-requires g c =
    let kinds : c.as_slice.result.now ≡ c.args.self.now.kinds =
    c.as_slice.ensures ∙ ap (λ (t : TableView). t.kinds) c.self.view_is in
    let fits : Fits (slice_get c.as_slice.result.now) c.args.call.now.checked.now.steps =
    subst (λ (ks : List Kind). Fits (slice_get ks) c.args.call.now.checked.now.steps) (sym kinds) c.requires.fits in (
      omega arith,
      (
        c.requires.of ∙ sym (ap (λ (t : TableView). t.lines.all) c.self.view_is) ∙ sym c.new-order.ensures.lines,
        (
          c.new-order.ensures.lowest,
          (
            subst (λ (lines : List LineId). All (λ n. n < length lines) c.declared.result.now)
                (sym c.new-order.ensures.lines)
                (subst (All (λ n. n < length c.self.inside.lines)) (sym c.declared.ensures)
                (λ k d below. kinds_within c.as_slice.result.now c.self.inside.lines _ (c.as_slice.ensures
                ∙ c.self.invariant.declared)
                (c.show_fits.ensures.there fits _ (All-contains_itself c.args.call.now.checked.now.declared k d
                below)))),
            (
              subst IsRising (sym c.declared.ensures) c.show.ensures.rising,
              omega (arith, ap length c.declared.ensures, c.show.ensures.few),
            ),
          ),
        ),
      ),
    )

pub commit-ran-requires : goal.commit-ran-requires
commit-ran-requires g c =
    let m : Map = chans_of c.take-guards.result in
    let kinds : c.as_slice.result.now ≡ c.args.self.now.kinds =
    c.as_slice.ensures ∙ ap (λ (t : TableView). t.kinds) c.self.view_is in
    let fits : Fits (slice_get c.as_slice.result.now) c.args.call.now.checked.now.steps =
    subst (λ (ks : List Kind). Fits (slice_get ks) c.args.call.now.checked.now.steps) (sym kinds) c.requires.fits in
    let of : line_ids c.args.access.now.shares ≡ c.self.inside.lines =
    c.requires.of ∙ sym (ap (λ (t : TableView). t.lines.all) c.self.view_is) in
    let found : AreKnown c.args.access.now.shares m =
    known_of c.args.access.now.shares c.new-order.result.lines m (of ∙ sym c.new-order.ensures.lines) c.take-guards.ensures.known c.take-guards.ensures.since in (
      omega arith,
      (
        ap line_ids (c.take-guards.ensures.same ∙ sym c.take-guards.ensures.seat),
        (
          c.take-guards.ensures.declared ∙ c.declared.ensures,
          (
            c.show_fits.ensures.others (kinds_of m) fits
                (λ n is. kinds_agree c.args.access.now.shares c.self.inside.lines c.as_slice.result.now m of
                (c.as_slice.ensures ∙ c.self.invariant.declared) found n (c.show_fits.ensures.there fits n is)),
            (
              c.take-guards.ensures.clean,
              subst (λ (shares : List SeatShareView). AreSince shares m) (sym c.take-guards.ensures.same)
                  c.take-guards.ensures.since,
            ),
          ),
        ),
      ),
    )

pub returns-clause-outcome : goal.returns-clause-outcome
returns-clause-outcome g c =
    let m : Map = chans_of c.take-guards.result in
    let of : line_ids c.args.access.now.shares ≡ c.self.inside.lines =
    c.requires.of ∙ sym (ap (λ (t : TableView). t.lines.all) c.self.view_is) in
    held_answers c.args.access.now.shares m (chans_of c.commit-ran.new.self) c.args.recycled.tag
    c.args.call.now.checked.now.declared c.args.call.now.checked.now.steps c.commit-ran.result
    (known_of c.args.access.now.shares c.new-order.result.lines m (of ∙ sym c.new-order.ensures.lines) c.take-guards.ensures.known c.take-guards.ensures.since)
    c.commit-ran.ensures.ran

pub returns-clause-stopped : goal.returns-clause-stopped
returns-clause-stopped g c =
    let m : Map = chans_of c.take-guards.result in
    let of : line_ids c.args.access.now.shares ≡ c.self.inside.lines =
    c.requires.of ∙ sym (ap (λ (t : TableView). t.lines.all) c.self.view_is) in
    held_stop c.args.access.now.shares m c.args.recycled.tag c.args.call.now.checked.now.declared
    c.args.call.now.checked.now.steps c.commit-ran.result
    (known_of c.args.access.now.shares c.new-order.result.lines m (of ∙ sym c.new-order.ensures.lines) c.take-guards.ensures.known c.take-guards.ensures.since)
    c.commit-ran.ensures.stopped

pub returns-clause-kept : goal.returns-clause-kept
returns-clause-kept g c =
    let m : Map = chans_of c.take-guards.result in
    let commit = c.commit-ran in
    let before : List SeatShareView = c.args.access.now.shares in
    let same : c.take-guards.new.shares ≡ before = c.take-guards.ensures.same in
    let kinds : c.as_slice.result.now ≡ c.args.self.now.kinds =
    c.as_slice.ensures ∙ ap (λ (t : TableView). t.kinds) c.self.view_is in
    let fits : Fits (slice_get c.as_slice.result.now) c.args.call.now.checked.now.steps =
    subst (λ (ks : List Kind). Fits (slice_get ks) c.args.call.now.checked.now.steps) (sym kinds) c.requires.fits in
    let of : line_ids before ≡ c.self.inside.lines =
    c.requires.of ∙ sym (ap (λ (t : TableView). t.lines.all) c.self.view_is) in
    let committed = subst (λ (shares : List SeatShareView). IfOk commit.result (λ ran. IfKept ran (λ receipt. (n : ℕ)
    → AreCommitted c.args.call.now.checked.now.declared m (chans_of commit.new.self) receipt shares
    commit.new.shares n))) same commit.ensures.committed in
    let grew = subst (λ (shares : List SeatShareView). IfOk commit.result
    (λ ran. IfKept ran (λ receipt. OnlyGrew shares commit.new.shares))) same commit.ensures.grew in
    kept_with c.args.recycled.tag c.args.call.now.checked.now m (chans_of commit.new.self) before commit.new.shares
    commit.result
    (λ n is. omega (
      arith,
      kinds_within c.as_slice.result.now c.self.inside.lines n (c.as_slice.ensures ∙ c.self.invariant.declared)
          (c.show_fits.ensures.there fits n is),
      ap length of,
      length-map before (λ (share : SeatShareView). share.line),
    )) c.show.ensures.names
    (known_of before c.new-order.result.lines m (of ∙ sym c.new-order.ensures.lines) c.take-guards.ensures.known c.take-guards.ensures.since)
    (commit.ensures.lines ∙ ap line_ids same) commit.ensures.ran committed grew commit.ensures.stand
    commit.ensures.inside commit.ensures.rise commit.ensures.later
