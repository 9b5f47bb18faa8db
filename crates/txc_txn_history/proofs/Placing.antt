-- Where a transaction stands in the histories of its channels when it is kept, and that it stays there.
use mathlib.Core.List.{IsPrefix}
use Rattle.std.proofs.Common.{◌≡◌, refl, sym, ◌∙◌, ap, subst, ℕ, ◌+◌, ◌≤◌, true, Some, List, [], ◌∷◌, ◌++◌}
use Rattle.std.proofs.Common.{length, length-append, map, take, append_assoc, arith}
use Rattle.std.proofs.lemmas.List.{take-append-le, take_all}
use Rattle.txc_base.specs.declared.entry.Entry.{Entry}
use Rattle.txc_base.specs.declared.tag.Tag.{Tag}
use Rattle.txc_base.specs.Channel.{opening}
use Rattle.txc_base.specs.Log.{entries, state}
use Rattle.txc_chan.specs.Logged.{MatchesLog, Logged, opened, settled}
use Rattle.txc_chan.specs.declared.decl.Decl.{Decl}
use Rattle.txc_txn_check.specs.Steps.{NamesOnly}
use Rattle.txc_txn.specs.declared.ran.Ran.TheVariants.{Kept as RanKept}
use Rattle.txc_txn.specs.Growth.{Grows}
use Rattle.txc_txn.specs.Maps.{Map}
use Rattle.txc_txn.specs.Run.{RanAs}
use Rattle.txc_txn.specs.Transaction.{Ending, kept_tag}
use Rattle.txc_txn.proofs.Following.{IsPending, is_pending}
use Rattle.txc_base_ghost.specs.Last.{last_from}
use Rattle.txc_txn_history.specs.Events.{Event, asked}
use Rattle.txc_txn_history.specs.Placed.{Gives, IsFound, IsPlacedIn, StandsIn, channel_after, channel_or, is_among}
use Rattle.txc_txn_history.specs.Placed.{last_len, last_stamp, leaves, left_by, stood}
use Rattle.txc_txn.proofs.Settling.{settle_inside}
use Rattle.txc_txn_history.proofs.Locality.{among_contains}

last_push : {X : Type 0} (f : X → ℕ) (n : ℕ) (xs : List X) (x : X) → last_from n (map f (xs ++ x ∷ [])) ≡ f x
last_push f n [] x = refl
last_push f n (y ∷ xs) x = last_push f (f y) xs x

-- what a channel that is true to its log is, after these marks
channel_is : (decl : Decl) (l : Logged) → MatchesLog l → l.decl ≡ decl → l.channel ≡ channel_after decl l.log
channel_is decl l lawful declared =
    let here : state (Some (opening decl.kind decl.bound decl.readers)) l.log ≡ Some l.channel =
    subst (λ (d : Decl). state (Some (opening d.kind d.bound d.readers)) l.log ≡ Some l.channel) declared lawful in
    sym (ap (channel_or (opening decl.kind decl.bound decl.readers)) here)

module _ {T : Type 0} (tag_of : T → Tag) (len_of : T → ℕ) where
  abbrev stamps : List T → ℕ
  stamps = last_stamp tag_of len_of

  abbrev lens : List T → ℕ
  lens = last_len tag_of len_of

  abbrev stands : Decl → List Entry → List T → Logged
  stands = stood tag_of len_of

  -- a channel with these marks, in which nothing can be undone, told of a log that began so
  pub stood_now : (decl : Decl) (l : Logged) (log : List Entry) (marks : List T) → MatchesLog l → l.decl ≡ decl
      → l.pending ≡ 0 → stamps marks ≡ l.stamp → take (lens marks) log ≡ l.log → l ≡ stands decl log marks
  stood_now decl l log marks lawful declared clean stamp begins = λ i. record {
    decl = declared i;
    channel = (channel_is decl l lawful declared ∙ ap (channel_after decl) (sym begins)) i;
    log = sym begins i;
    pending = clean i;
    stamp = sym stamp i;
  }

  stood_on : (decl : Decl) (log more : List Entry) (marks : List T) → lens marks ≤ length log
      → stands decl (log ++ more) marks ≡ stands decl log marks
  stood_on decl log more marks within =
      ap (λ (es : List Entry). record {
        decl = decl;
        channel = channel_after decl es;
        log = es;
        pending = 0;
        stamp = stamps marks;
      }) (take-append-le (lens marks) log more within)

  stands_on : (decl : Decl) (log log' : List Entry) (marks marks' : List T) (tag : Tag) (found left : Logged)
      → IsPrefix log log' → IsPrefix marks marks' → StandsIn tag_of len_of decl log marks tag found left
      → StandsIn tag_of len_of decl log' marks' tag found left
  stands_on decl log log' marks marks' tag found left since more p = record {
    before = p.before;
    mark = p.mark;
    later = p.later ++ more.0;
    here = sym more.1 ∙ (ap (λ (ms : List T). ms ++ more.0) p.here ∙ append_assoc p.before (p.mark ∷ p.later) more.0);
    its = p.its;
    long = p.long;
    within = omega (arith, p.within, ap (λ (l : List Entry). length l) since.1, length-append log since.0);
    found_is = p.found_is ∙ (sym (stood_on decl log since.0 p.before (omega (arith, p.long, p.within)))
        ∙ ap (λ (l : List Entry). stands decl l p.before) since.1);
    left_is = p.left_is ∙ (sym (stood_on decl log since.0 (p.before ++ p.mark ∷ [])
        (omega (arith, p.within, last_push len_of 0 p.before p.mark)))
        ∙ ap (λ (l : List Entry). stands decl l (p.before ++ p.mark ∷ [])) since.1);
  }

  -- a transaction keeps its place where the logs and the histories grow
  pub placed_on : (decl : ℕ → Decl) (logs logs' : ℕ → List Entry) (marks marks' : ℕ → List T) (event : Event)
      → ((c : ℕ) → is_among event.plan.declared c ≡ true → IsPrefix (logs c) (logs' c))
      → ((c : ℕ) → is_among event.plan.declared c ≡ true → IsPrefix (marks c) (marks' c))
      → IsPlacedIn tag_of len_of decl logs marks event → IsPlacedIn tag_of len_of decl logs' marks' event
  placed_on decl logs logs' marks marks' event since more p = record {
    channels = p.channels;
    names = p.names;
    gave = p.gave;
    at = λ c is. stands_on (decl c) (logs c) (logs' c) (marks c) (marks' c) event.receipt.tag (p.channels c)
        (leaves event p.channels c) (since c is) (more c is) (p.at c is);
  }

  -- a transaction that is kept has its place
  pub placed_now : (decl : ℕ → Decl) (logs : ℕ → List Entry) (marks : ℕ → List T) (event : Event) (m left : Map)
      → NamesOnly event.plan.declared event.plan.steps → Gives event m
      → left ≡ leaves event m
      → ((c : ℕ) → is_among event.plan.declared c ≡ true
      → IsFound tag_of len_of (decl c) (logs c) (marks c) event.receipt.tag (m c) (left c))
      → IsPlacedIn tag_of len_of decl logs marks event
  placed_now decl logs marks event m left names gave is_left found = record {
    channels = m;
    names = names;
    gave = gave;
    at = λ c is. subst (λ (all : Map). StandsIn tag_of len_of (decl c) (logs c) (marks c) event.receipt.tag (m c)
        (all c)) is_left (at c is (found c is));
  }
    where
      pending : IsPending m (asked event) event.plan.declared gave.state.chans event.receipt
      pending = is_pending m gave.state.chans (asked event) event.plan.declared event.plan.steps
          (RanKept event.receipt) event.receipt refl
          (subst (λ (o : Ending). RanAs (kept_tag m (asked event) event.plan.declared) o (RanKept event.receipt) m
          gave.state.chans) (sym gave.kept) (gave.gives, refl))

      left_at : (c : ℕ) → is_among event.plan.declared c ≡ true
          → left c ≡ settled event.receipt.tag.stamp (gave.state.chans c)
      left_at c is = ap (λ (all : Map). all c) is_left
          ∙ (ap (λ (o : Ending). left_by o m event.receipt.tag.stamp event.plan.declared c) gave.kept
          ∙ settle_inside gave.state.chans event.receipt.tag.stamp event.plan.declared c
          (among_contains event.plan.declared c is))

      at : (c : ℕ) → is_among event.plan.declared c ≡ true
          → IsFound tag_of len_of (decl c) (logs c) (marks c) event.receipt.tag (m c) (left c)
          → StandsIn tag_of len_of (decl c) (logs c) (marks c) event.receipt.tag (m c) (left c)
      at c is f =
          let grows : Grows event.receipt.tag (m c) (gave.state.chans c) = pending.grows c in
          let log_is : (left c).log ≡ (m c).log ++ entries event.receipt.tag grows.acts =
          ap (λ (l : Logged). l.log) (left_at c is) ∙ grows.log in
          let long : length (left c).log ≡ length (m c).log + length (entries event.receipt.tag grows.acts) =
          ap (λ (l : List Entry). length l) log_is ∙ length-append (m c).log (entries event.receipt.tag grows.acts) in
          let begins : take (lens f.before) (logs c) ≡ (m c).log =
          ap (λ (l : List Entry). take (lens f.before) l) (f.seen ∙ log_is)
          ∙ (take-append-le (lens f.before) (m c).log (entries event.receipt.tag grows.acts) (omega (arith, f.len))
          ∙ take_all (lens f.before) (m c).log (omega (arith, f.len))) in
          let whole : take (lens (f.before ++ f.mark ∷ [])) (logs c) ≡ (left c).log =
          ap (λ (l : List Entry). take (lens (f.before ++ f.mark ∷ [])) l) f.seen
          ∙ take_all (lens (f.before ++ f.mark ∷ [])) (left c).log
          (omega (arith, last_push len_of 0 f.before f.mark, f.whole)) in
          record {
            before = f.before;
            mark = f.mark;
            later = [];
            here = f.now;
            its = f.its;
            long = omega (arith, f.len, f.whole, long);
            within = omega (arith, f.whole, ap (λ (l : List Entry). length l) f.seen);
            found_is = stood_now (decl c) (m c) (logs c) f.before f.lawful f.declared f.clean f.stamp begins;
            left_is = stood_now (decl c) (left c) (logs c) (f.before ++ f.mark ∷ []) f.lawful_left
                (ap (λ (l : Logged). l.decl) (left_at c is) ∙ (grows.decl ∙ f.declared))
                (ap (λ (l : Logged). l.pending) (left_at c is))
                (last_push (λ (t : T). (tag_of t).stamp) 0 f.before f.mark
                ∙ (ap (λ (t : Tag). t.stamp) f.its ∙ sym (ap (λ (l : Logged). l.stamp) (left_at c is))))
                whole;
          }

  -- a channel without marks is as it was declared
  pub stood_first : (decl : Decl) (log : List Entry) → stands decl log [] ≡ opened decl
  stood_first decl log = refl
