-- Transactions that stand in the histories of all channels that they declare are one history of one thread.
use Rattle.std.proofs.Common.{◌≡◌, sym, ◌∙◌, ap, subst, ℕ, true, List, [], ◌∷◌}
use Rattle.std.proofs.Common.{arith, if◌then◌else◌}
use Rattle.txc_base.specs.declared.entry.Entry.{Entry}
use Rattle.txc_base.specs.declared.tag.Tag.{Tag}
use Rattle.txc_chan.specs.Logged.{Logged, settled}
use Rattle.txc_chan.specs.declared.decl.Decl.{Decl}
use Rattle.txc_txn_check.specs.Limits.{CheckedView}
use Rattle.txc_txn_check.specs.Steps.{NamesOnly}
use Rattle.txc_txn.specs.Maps.{Map}
use Rattle.txc_txn.specs.Run.{receipt_of}
use Rattle.txc_txn.specs.Transaction.{Ending, Kept, Again, Aborted, transaction}
use Rattle.txc_txn.specs.declared.report.Report.{Report}
use Rattle.txc_txn.proofs.Settling.{settle_inside, settle_others}
use Rattle.txc_txn_history.specs.Commits.{Commits, IsLocal, IsPlaced, Follow, AreKept}
use Rattle.txc_txn_history.specs.Events.{Event, asked, events_from}
use Rattle.txc_txn_history.specs.Histories.{AreHistories}
use Rattle.txc_txn_history.specs.OneOrder.{IsOneOrder, Runs}
use Rattle.txc_txn_history.specs.Placed.{Gives, IsPlacedIn, is_among, leaves, left_by, stood}
use Rattle.txc_txn_history.proofs.Locality.{among_contains, kept_same, moved, moved_end, not_among, others_same, over}
use Rattle.txc_txn_history.proofs.Locality.{transaction_local}
use Rattle.txc_txn_history.proofs.Ordering.{one_history}
use Rattle.txc_txn_history.proofs.Sorting.{sort, sort_count, sort_falls_never, sort_has, sort_once, sort_permuted}
use Rattle.txc_txn_history.proofs.Sorting.{sort_sorted}
use Rattle.txc_txn_history.proofs.Turns.{tags_once}

-- what an ending leaves of a declared channel is the same on maps that agree there
alike_end : (declared : List ℕ) (m n : Map) (stamp c : ℕ) → is_among declared c ≡ true → m c ≡ n c → (o : Ending)
    → left_by o m stamp declared c ≡ left_by (moved_end declared n o) n stamp declared c
alike_end declared m n stamp c is same (Kept s) =
    settle_inside s.chans stamp declared c (among_contains declared c is)
    ∙ (ap (settled stamp) (ap (λ b. if b then s.chans c else n c) (sym is))
    ∙ sym (settle_inside (over declared s.chans n) stamp declared c (among_contains declared c is)))
alike_end declared m n stamp c is same (Again cause) = same
alike_end declared m n stamp c is same (Aborted stop) = same

module _ {T : Type 0} (tag_of : T → Tag) (len_of : T → ℕ) where
  -- transactions as commits
  abbrev commits : Commits Event T Tag Logged
  commits = record {
    tag = λ e. e.receipt.tag;
    marked = tag_of;
    stamp = λ t. t.stamp;
    holds = λ c e. is_among e.plan.declared c;
    gives = Gives;
    leaves = leaves;
  }

  -- each looks at its channels alone
  local_of : (e : Event) → NamesOnly e.plan.declared e.plan.steps → IsLocal commits e
  local_of e names = record {
    same = λ m n agree gave. record {
      state = moved e.plan.declared n gave.state;
      kept = transaction_local m n (asked e) e.plan.declared e.plan.steps names agree
          ∙ ap (moved_end e.plan.declared n) gave.kept;
      gives = gave.gives ∙ ap (λ (t : Tag). receipt_of t gave.state) (kept_same m n (asked e) e.plan.declared agree);
    };
    alike = λ m n agree c is.
        alike_end e.plan.declared m n e.receipt.tag.stamp c is (agree c is)
        (transaction m (asked e) e.plan.declared e.plan.steps)
        ∙ ap (λ o. left_by o n e.receipt.tag.stamp e.plan.declared c)
        (sym (transaction_local m n (asked e) e.plan.declared e.plan.steps names agree));
    others = λ m gave c out.
        ap (λ o. left_by o m e.receipt.tag.stamp e.plan.declared c) gave.kept
        ∙ (settle_others gave.state.chans e.receipt.tag.stamp e.plan.declared c (not_among e.plan.declared c out)
        ∙ others_same m (asked e) e.plan.declared e.plan.steps gave.state names gave.kept c out);
  }

  -- commits that follow one another are transactions that run one after another
  runs_of : (m : Map) (order : List Event) (left : Map) → Follow commits m order left → Runs m order left
  runs_of m [] left f = f
  runs_of m (e ∷ order) left f = (
    leaves e m,
    (
      record {
        state = f.0.state;
        kept = f.0.kept;
        gives = f.0.gives;
        leaves = ap (λ o. left_by o m e.receipt.tag.stamp e.plan.declared) f.0.kept;
      },
      runs_of (leaves e m) order left f.1,
    ),
  )

  module _ (decls : List Decl) (decl : ℕ → Decl) (logs : ℕ → List Entry) (marks : ℕ → List T)
      (seats : List (List CheckedView)) (report : Report) where
    placed_of : (e : Event) → IsPlacedIn tag_of len_of decl logs marks e
        → IsPlaced commits marks (λ c ms. stood tag_of len_of (decl c) (logs c) ms) e
    placed_of e p = record {
      channels = p.channels;
      gave = p.gave;
      at = λ c is. let a = p.at c is in record {
        before = a.before;
        mark = a.mark;
        later = a.later;
        here = a.here;
        its = a.its;
        found = a.found_is;
        left = a.left_is;
      };
    }

    kept_of : AreHistories tag_of len_of decls decl logs marks seats report
        → AreKept commits marks (λ c ms. stood tag_of len_of (decl c) (logs c) ms)
        (sort (events_from 0 seats report.receipts))
    kept_of are = record {
      rises = are.rises;
      sorted = sort_falls_never (events_from 0 seats report.receipts);
      once = sort_once (events_from 0 seats report.receipts) (tags_once seats report.receipts are.in_turn);
      local = λ e h. local_of e (are.placed e (sort_has (events_from 0 seats report.receipts) e h)).names;
      placed = λ e h. placed_of e (are.placed e (sort_has (events_from 0 seats report.receipts) e h));
      counted = λ c. omega (
        arith,
        sort_count (λ e. is_among e.plan.declared c) (events_from 0 seats report.receipts),
        are.counted c,
      );
    }

    pub one_order : AreHistories tag_of len_of decls decl logs marks seats report
        → (order : List Event) × IsOneOrder decls seats report order
    one_order are = (
      sort (events_from 0 seats report.receipts),
      record {
        is_order = record {
          in_turn = are.in_turn;
          each_once = sort_permuted (events_from 0 seats report.receipts);
          sorted = sort_sorted (events_from 0 seats report.receipts);
        };
        is_run = record {
          left = λ c. stood tag_of len_of (decl c) (logs c) (marks c);
          runs = subst (λ (m : Map). Runs m (sort (events_from 0 seats report.receipts))
              (λ c. stood tag_of len_of (decl c) (logs c) (marks c))) (λ i n. are.opening n i)
              (runs_of (λ c. stood tag_of len_of (decl c) (logs c) []) (sort (events_from 0 seats report.receipts))
              (λ c. stood tag_of len_of (decl c) (logs c) (marks c))
              (one_history commits marks (λ c ms. stood tag_of len_of (decl c) (logs c) ms)
              (sort (events_from 0 seats report.receipts)) (kept_of are)));
          tells = are.shown;
        };
      },
    )
