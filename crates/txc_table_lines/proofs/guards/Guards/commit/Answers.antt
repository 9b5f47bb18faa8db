use Rattle.std.proofs.Common.{◌≡◌, ◌∙◌, ◌<◌, sym, ap, subst, ℕ, List, Contains, arith}
use Rattle.std.proofs.lemmas.List.Elements.{All-contains}
use Rattle.txc_chan.specs.Logged.{Logged}
use Rattle.txc_txn_check.specs.Limits.{IsRising}
use Rattle.txc_txn.proofs.Following.{is_pending}
use Rattle.txc_table_lines.specs.Committed.{AreSettled, HasNoneOutside}
use Rattle.txc_table_lines.specs.Guards.{Taken, chans_of}
use Rattle.txc_table_lines.specs.Lines.{line_ids}
use Rattle.txc_table_lines.proofs.Committing.{acts_seen, can_commit, committed, only_grew}
use Rattle.txc_table_lines.proofs.guards.Guards.commit.Goals as goal

pub settle_all-requires : goal.settle_all-requires
settle_all-requires g c =
    let kept = is_pending (chans_of c.args.self.now) (chans_of c.run_pending.new.hold) c.args.tag
    c.args.checked.now.declared c.args.checked.now.steps _ c.in-Kept.receipt
    c.in-Kept.is c.in_ok-receipt.ensures.ran in
    let declared : c.run_pending.new.hold.declared ≡ c.args.checked.now.declared
    = ap (λ (t : Taken). t.declared) c.run_pending.ensures.fixed ∙ c.requires.declared in (
      omega arith,
      (
        c.requires.of ∙ ap (λ (t : Taken). line_ids t.known) (sym c.run_pending.ensures.fixed),
        (
          subst IsRising (sym declared) c.show.ensures.rising,
          λ n is. can_commit c.in-Kept.receipt.tag (chans_of c.args.self.now n) (chans_of c.run_pending.new.hold n)
              (kept.grows n) (c.requires.clean n)
              (All-contains (λ m. (chans_of c.args.self.now m).stamp < c.in-Kept.receipt.tag.stamp)
              c.args.checked.now.declared n kept.logs.later
              (subst (λ (ds : List ℕ). Contains ds n) declared is)),
        ),
      ),
    )

pub returns-in-Kept-clause-committed : goal.returns-in-Kept-clause-committed
returns-in-Kept-clause-committed g c =
    let kept = is_pending (chans_of c.args.self.now) (chans_of c.run_pending.new.hold) c.args.tag
    c.args.checked.now.declared c.args.checked.now.steps _ c.in-Kept.receipt
    c.in-Kept.is c.in_ok-receipt.ensures.ran in
    let declared : c.run_pending.new.hold.declared ≡ c.args.checked.now.declared
    = ap (λ (t : Taken). t.declared) c.run_pending.ensures.fixed ∙ c.requires.declared in
    let settled : (n : ℕ) → AreSettled c.args.checked.now.declared c.in-Kept.receipt.tag
    (chans_of c.run_pending.new.hold) c.args.shares.now (chans_of c.settle_all.new.self) c.settle_all.new.shares n
    = subst (λ (ds : List ℕ). (n : ℕ) → AreSettled ds c.in-Kept.receipt.tag (chans_of c.run_pending.new.hold)
    c.args.shares.now (chans_of c.settle_all.new.self) c.settle_all.new.shares n) declared c.settle_all.ensures.shares
    in
    committed c.args.checked.now.declared c.in-Kept.receipt (chans_of c.args.self.now) (chans_of c.run_pending.new.hold)
    (chans_of c.settle_all.new.self) c.args.shares.now c.settle_all.new.shares kept.grows c.requires.clean kept.counted
    settled

pub returns-in-Kept-clause-grew : goal.returns-in-Kept-clause-grew
returns-in-Kept-clause-grew g c =
    let kept = is_pending (chans_of c.args.self.now) (chans_of c.run_pending.new.hold) c.args.tag
    c.args.checked.now.declared c.args.checked.now.steps _ c.in-Kept.receipt
    c.in-Kept.is c.in_ok-receipt.ensures.ran in
    let declared : c.run_pending.new.hold.declared ≡ c.args.checked.now.declared
    = ap (λ (t : Taken). t.declared) c.run_pending.ensures.fixed ∙ c.requires.declared in
    let settled : (n : ℕ) → AreSettled c.args.checked.now.declared c.in-Kept.receipt.tag
    (chans_of c.run_pending.new.hold) c.args.shares.now (chans_of c.settle_all.new.self) c.settle_all.new.shares n
    = subst (λ (ds : List ℕ). (n : ℕ) → AreSettled ds c.in-Kept.receipt.tag (chans_of c.run_pending.new.hold)
    c.args.shares.now (chans_of c.settle_all.new.self) c.settle_all.new.shares n) declared c.settle_all.ensures.shares
    in
    only_grew c.args.checked.now.declared c.in-Kept.receipt.tag (chans_of c.args.self.now)
    (chans_of c.run_pending.new.hold) (chans_of c.settle_all.new.self) c.args.shares.now c.settle_all.new.shares
    c.requires.since kept.grows settled

pub returns-in-Kept-clause-inside : goal.returns-in-Kept-clause-inside
returns-in-Kept-clause-inside g c =
    let kept = is_pending (chans_of c.args.self.now) (chans_of c.run_pending.new.hold) c.args.tag
    c.args.checked.now.declared c.args.checked.now.steps _ c.in-Kept.receipt
    c.in-Kept.is c.in_ok-receipt.ensures.ran in
    let none : HasNoneOutside c.args.checked.now.declared c.in-Kept.receipt
    = λ n no. omega (arith, kept.counted n, ap (λ (l : Logged). l.pending) (c.run_pending.ensures.ended.others n no)) in
    none

pub returns-in-Kept-clause-stand : goal.returns-in-Kept-clause-stand
returns-in-Kept-clause-stand g c =
    let kept = is_pending (chans_of c.args.self.now) (chans_of c.run_pending.new.hold) c.args.tag
    c.args.checked.now.declared c.args.checked.now.steps _ c.in-Kept.receipt
    c.in-Kept.is c.in_ok-receipt.ensures.ran in
    let declared : c.run_pending.new.hold.declared ≡ c.args.checked.now.declared
    = ap (λ (t : Taken). t.declared) c.run_pending.ensures.fixed ∙ c.requires.declared in
    let settled : (n : ℕ) → AreSettled c.args.checked.now.declared c.in-Kept.receipt.tag
    (chans_of c.run_pending.new.hold) c.args.shares.now (chans_of c.settle_all.new.self) c.settle_all.new.shares n
    = subst (λ (ds : List ℕ). (n : ℕ) → AreSettled ds c.in-Kept.receipt.tag (chans_of c.run_pending.new.hold)
    c.args.shares.now (chans_of c.settle_all.new.self) c.settle_all.new.shares n) declared c.settle_all.ensures.shares
    in
    let none : HasNoneOutside c.args.checked.now.declared c.in-Kept.receipt
    = λ n no. omega (arith, kept.counted n, ap (λ (l : Logged). l.pending) (c.run_pending.ensures.ended.others n no)) in
    acts_seen c.args.checked.now.declared c.in-Kept.receipt (chans_of c.run_pending.new.hold)
    (chans_of c.settle_all.new.self) c.args.shares.now c.settle_all.new.shares kept.logs.stand none settled

pub returns-in-Kept-clause-rise : goal.returns-in-Kept-clause-rise
returns-in-Kept-clause-rise g c =
    let kept = is_pending (chans_of c.args.self.now) (chans_of c.run_pending.new.hold) c.args.tag
    c.args.checked.now.declared c.args.checked.now.steps _ c.in-Kept.receipt
    c.in-Kept.is c.in_ok-receipt.ensures.ran in
    kept.logs.rise

pub returns-in-Kept-clause-later : goal.returns-in-Kept-clause-later
returns-in-Kept-clause-later g c =
    let kept = is_pending (chans_of c.args.self.now) (chans_of c.run_pending.new.hold) c.args.tag
    c.args.checked.now.declared c.args.checked.now.steps _ c.in-Kept.receipt
    c.in-Kept.is c.in_ok-receipt.ensures.ran in
    kept.logs.seat
