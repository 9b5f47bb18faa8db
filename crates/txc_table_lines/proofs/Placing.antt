-- The channel with a number, among lines that are locked.
use Rattle.std.proofs.Common.{◌≡◌, ◌≢◌, ◌∙◌, refl, sym, ap, subst, inl, inr, ℕ, zero, suc, ◌<◌, nat_eq, Option, Some}
use Rattle.std.proofs.Common.{None}
use Rattle.std.proofs.Common.{List, [], ◌∷◌, length, map, slice_index_or, slice_set, Contains, if◌then◌else◌, arith}
use Rattle.std.proofs.Common.{get_or-set_same, append-nil, ◌++◌, take}
use Rattle.std.proofs.lemmas.Bool.Decides.{eqb_tells}
use Rattle.std.proofs.lemmas.List.{drop_all, get_or_default, length-set, take_all}
use Rattle.std.specs.List.{refill}
use Rattle.txc_chan.specs.Logged.{Logged}
use Rattle.txc_txn_check.proofs.Containing.{contains_none, contains_tail}
use Rattle.txc_txn.specs.Maps.{Map, put_at}
use Rattle.txc_table_line.specs.LineChan.{LineChanView}
use Rattle.txc_table_line.specs.SeatShare.{SeatShareView}
use Rattle.txc_table_lines.specs.Guards.{AreLocked, GuardsView, channel_in, chan_at, chans_of, known_of, first_place_of}

-- the first place of a number is the first that has it
pub first_place : (n : ℕ) (numbers : List ℕ) (at : ℕ) (d : ℕ) → at < length numbers → slice_index_or numbers at d ≡ n
    → ((k : ℕ) → k < at → slice_index_or numbers k d ≢ n) → first_place_of n numbers ≡ at
first_place n [] at d below here before = absurd (omega (arith, below))
first_place n (m ∷ numbers) zero d below here before =
    elim (eqb_tells n m) [
      | inl t ↦ ap (λ b. if b then 0 else suc (first_place_of n numbers)) t.0
      | inr t ↦ absurd (t.1 (sym here))
    ]
first_place n (m ∷ numbers) (suc at) d below here before =
    elim (eqb_tells n m) [
      | inl t ↦ absurd (before 0 (omega arith) (sym t.1))
      | inr t ↦
          ap (λ b. if b then 0 else suc (first_place_of n numbers)) t.0
          ∙ ap suc (first_place n numbers at d (omega (arith, below)) here
          (λ k lt. before (suc k) (omega (arith, lt))))
    ]

-- a number is in a list if it is at one of its places
pub not_before : (n : ℕ) (numbers : List ℕ) (d : ℕ) → ((k : ℕ) → k < length numbers → slice_index_or numbers k d ≢ n)
    → ¬ Contains numbers n
not_before n [] d none is = contains_none n is
not_before n (m ∷ numbers) d none is =
    not_before n numbers d (λ k below. none (suc k) (omega (arith, below)))
    (contains_tail n m numbers (λ e. none 0 (omega arith) (sym e)) is)

-- the channel with a number is that of the guard at the number's place
pub chan_here : (n : ℕ) (declared : List ℕ) (guards : List (Option LineChanView)) (known : Map) (at : ℕ)
    (channel : LineChanView) → length guards ≡ length declared → first_place_of n declared ≡ at → at < length
    declared
    → slice_index_or guards at None ≡ Some channel
    → chan_at declared (map channel_in guards) known n ≡ channel.held.logged
chan_here n [] guards known at channel long place below here = absurd (omega (arith, below))
chan_here n (d ∷ declared) [] known at channel long place below here = absurd (omega (arith, long))
chan_here n (d ∷ declared) (g ∷ guards) known at channel long place below here =
    elim (eqb_tells n d) [
      | inl t ↦
          (let first : 0 ≡ at = sym (ap (λ b. if b then 0 else suc (first_place_of n declared)) t.0) ∙ place in
          let is : g ≡ Some channel = subst (λ k. slice_index_or (g ∷ guards) k None ≡ Some channel) (sym first) here in
          ap (λ b. if b then (channel_in g).held.logged else chan_at declared (map channel_in guards) known n) t.0
          ∙ ap (λ (o : Option LineChanView). (channel_in o).held.logged) is)
      | inr t ↦
          (let later : suc (first_place_of n declared) ≡ at
          = sym (ap (λ b. if b then 0 else suc (first_place_of n declared)) t.0) ∙ place in
          ap (λ b. if b then (channel_in g).held.logged else chan_at declared (map channel_in guards) known n) t.0
          ∙ chan_here n declared guards known (first_place_of n declared) channel (omega (arith, long)) refl
          (omega (arith, below, later))
          (subst (λ k. slice_index_or (g ∷ guards) k None ≡ Some channel) (sym later) here))
    ]

-- a change of the first guard, whose number this is
put_first : (n d : ℕ) (declared : List ℕ) (g : Option LineChanView) (guards : List (Option LineChanView))
    (known : Map) (channel : LineChanView) (m : ℕ) → n ≡ d
    → chan_at (d ∷ declared) (map channel_in (Some channel ∷ guards)) known m
    ≡ put_at (chan_at (d ∷ declared) (map channel_in (g ∷ guards)) known) n channel.held.logged m
put_first n d declared g guards known channel m same =
    let rest = chan_at declared (map channel_in guards) known m in
    let old : Logged = if nat_eq m d then (channel_in g).held.logged else rest in
    subst (λ k. (if nat_eq m d then channel.held.logged else rest) ≡ (if nat_eq m k then channel.held.logged else old))
    (sym same)
    (elim (eqb_tells m d) [
      | inl t ↦
          ap (λ b. if b then channel.held.logged else rest) t.0
          ∙ sym (ap (λ b. if b then channel.held.logged else old) t.0)
      | inr t ↦
          ap (λ b. if b then channel.held.logged else rest) t.0
          ∙ sym (ap (λ b. if b then channel.held.logged else old) t.0
          ∙ ap (λ b. if b then (channel_in g).held.logged else rest) t.0)
    ])

-- a change of a later guard
put_later : (n d : ℕ) (declared : List ℕ) (g : Option LineChanView) (guards : List (Option LineChanView)) (at : ℕ)
    (known : Map) (channel : LineChanView) (m : ℕ) → n ≢ d
    → chan_at declared (map channel_in (slice_set guards at (Some channel))) known m
    ≡ put_at (chan_at declared (map channel_in guards) known) n channel.held.logged m
    → chan_at (d ∷ declared) (map channel_in (g ∷ slice_set guards at (Some channel))) known m
    ≡ put_at (chan_at (d ∷ declared) (map channel_in (g ∷ guards)) known) n channel.held.logged m
put_later n d declared g guards at known channel m other is =
    let set = chan_at declared (map channel_in (slice_set guards at (Some channel))) known m in
    let rest = chan_at declared (map channel_in guards) known m in
    let first : Logged = (channel_in g).held.logged in
    let old : Logged = if nat_eq m d then first else rest in
    elim (eqb_tells m d) [
      | inl t ↦
          ap (λ b. if b then first else set) t.0
          ∙ elim (eqb_tells m n) [
            | inl u ↦ absurd (other (sym u.1 ∙ t.1))
            | inr u ↦ sym (ap (λ b. if b then channel.held.logged else old) u.0
                ∙ ap (λ b. if b then first else rest) t.0)
          ]
      | inr t ↦
          ap (λ b. if b then first else set) t.0 ∙ is
          ∙ sym (ap (λ l. if nat_eq m n then channel.held.logged else l) (ap (λ b. if b then first else rest) t.0))
    ]

-- a change of the guard at the place of a number changes the channel with that number alone
pub chans_put : (n : ℕ) (declared : List ℕ) (guards : List (Option LineChanView)) (known : Map) (at : ℕ)
    (channel : LineChanView) → length guards ≡ length declared → first_place_of n declared ≡ at → at < length
    declared
    → (m : ℕ) → chan_at declared (map channel_in (slice_set guards at (Some channel))) known m
    ≡ put_at (chan_at declared (map channel_in guards) known) n channel.held.logged m
chans_put n [] guards known at channel long place below m = absurd (omega (arith, below))
chans_put n (d ∷ declared) [] known at channel long place below m = absurd (omega (arith, long))
chans_put n (d ∷ declared) (g ∷ guards) known at channel long place below m =
    elim (eqb_tells n d) [
      | inl t ↦
          (let first : 0 ≡ at = sym (ap (λ b. if b then 0 else suc (first_place_of n declared)) t.0) ∙ place in
          subst (λ k. chan_at (d ∷ declared) (map channel_in (slice_set (g ∷ guards) k (Some channel))) known m
          ≡ put_at (chan_at (d ∷ declared) (map channel_in (g ∷ guards)) known) n channel.held.logged m) first
          (put_first n d declared g guards known channel m t.1))
      | inr t ↦
          (let later : suc (first_place_of n declared) ≡ at
          = sym (ap (λ b. if b then 0 else suc (first_place_of n declared)) t.0) ∙ place in
          subst (λ k. chan_at (d ∷ declared) (map channel_in (slice_set (g ∷ guards) k (Some channel))) known m
          ≡ put_at (chan_at (d ∷ declared) (map channel_in (g ∷ guards)) known) n channel.held.logged m) later
          (put_later n d declared g guards (first_place_of n declared) known channel m t.1
          (chans_put n declared guards known (first_place_of n declared) channel (omega (arith, long)) refl
          (omega (arith, below, later)) m)))
    ]

-- there is a guard for each number
pub locked_long : (known : List SeatShareView) (declared : List ℕ) (guards : List (Option LineChanView))
    → AreLocked known declared guards → length guards ≡ length declared
locked_long known [] [] are = refl
locked_long known [] (g ∷ guards) are = absurd are
locked_long known (d ∷ declared) [] are = absurd are
locked_long known (d ∷ declared) (g ∷ guards) are = ap suc (locked_long known declared guards are.1)

no_none : (known : List SeatShareView) (declared : List ℕ) (guards : List (Option LineChanView)) (at : ℕ)
    (d : Option LineChanView) → AreLocked known declared guards → at < length declared
    → slice_index_or guards at d ≡ None → ⊥
no_none known [] guards at d are below none = absurd (omega (arith, below))
no_none known (n ∷ declared) [] at d are below none = absurd are
no_none known (n ∷ declared) (None ∷ guards) zero d are below none = absurd are.0.1
no_none known (n ∷ declared) (Some channel ∷ guards) zero d are below none = cc
no_none known (n ∷ declared) (g ∷ guards) (suc at) d are below none =
    no_none known declared guards at d are.1 (omega (arith, below)) none

-- what guards are to a contract
abbrev pub view_of : List ℕ → List (Option LineChanView) → List SeatShareView → GuardsView
view_of declared guards known = record { declared = declared; channels = map channel_in guards; known = known }

-- a declared place is one of a guard
pub within : (declared : List ℕ) (guards slice : List (Option LineChanView)) (known : List SeatShareView)
    (now : GuardsView)
    (at : ℕ) → view_of declared guards known ≡ now → AreLocked known declared guards → at < length now.declared
    → slice ≡ guards → at < length slice
within declared guards slice known now at view are there same = omega (
  arith,
  there,
  ap (λ (l : GuardsView). length l.declared) view,
  locked_long known declared guards are,
  ap length same,
)

-- .. and the guard is there
pub never_none : (declared : List ℕ) (guards slice : List (Option LineChanView)) (known : List SeatShareView)
    (now : GuardsView)
    (at : ℕ) (d : Option LineChanView) → view_of declared guards known ≡ now → AreLocked known declared guards
    → at < length now.declared → slice ≡ guards → slice_index_or slice at d ≡ None → ⊥
never_none declared guards slice known now at d view are there same none =
    no_none known declared guards at d are (omega (arith, there, ap (λ (l : GuardsView). length l.declared) view))
    (subst (λ (gs : List (Option LineChanView)). slice_index_or gs at d ≡ None) same none)

-- the channel with a number is that of the guard at its place
pub guarded : (declared : List ℕ) (guards slice : List (Option LineChanView)) (known : List SeatShareView)
    (now : GuardsView)
    (at n : ℕ) (d : Option LineChanView) (channel : LineChanView) → view_of declared guards known ≡ now
    → AreLocked known declared guards → at ≡ first_place_of n now.declared → at < length now.declared → slice ≡ guards
    → slice_index_or slice at d ≡ Some channel → chans_of now n ≡ channel.held.logged
guarded declared guards slice known now at n d channel view are place there same is =
    subst (λ (l : GuardsView). chans_of l n ≡ channel.held.logged) view
    (chan_here n declared guards (known_of known) at channel (locked_long known declared guards are)
    (ap (λ (l : GuardsView). first_place_of n l.declared) view ∙ sym place)
    (omega (arith, there, ap (λ (l : GuardsView). length l.declared) view))
    (get_or_default guards at None d (within declared guards guards known now at view are there refl)
    ∙ subst (λ (gs : List (Option LineChanView)). slice_index_or gs at d ≡ Some channel) same is))

-- what is written back to a list of as many items is the list with the item that changed
pub refilled : {X : Type 0} (xs slice : List X) (at : ℕ) (x : X) → slice ≡ xs
    → refill (length xs) xs (slice_set slice at x) ≡ slice_set xs at x
refilled {X} xs slice at x same =
    let ws : List X = slice_set slice at x in
    let long : length xs ≡ length ws = sym (length-set slice at x ∙ ap length same) in
    ap (λ (rest : List X). take (length xs) (ws ++ rest)) (drop_all (length ws) xs (omega (arith, long)))
    ∙ ap (take (length xs)) (append-nil ws) ∙ take_all (length xs) ws (omega (arith, long))
    ∙ ap (λ (l : List X). slice_set l at x) same

-- the guards, one of them changed
abbrev pub changed : List (Option LineChanView) → List (Option LineChanView) → ℕ → LineChanView
    → List (Option LineChanView)
changed guards slice at channel = refill (length guards) guards (slice_set slice at (Some channel))

-- the channel with the number of a guard that changed is the guard's
guarded_set : (declared : List ℕ) (guards : List (Option LineChanView)) (known : List SeatShareView) (now : GuardsView)
    (at n : ℕ) (channel : LineChanView) → view_of declared guards known ≡ now → AreLocked known declared guards
    → at ≡ first_place_of n now.declared → at < length now.declared
    → chans_of (view_of declared (slice_set guards at (Some channel)) known) n ≡ channel.held.logged
guarded_set declared guards known now at n channel view are place there =
    chan_here n declared (slice_set guards at (Some channel)) (known_of known) at channel
    (length-set guards at (Some channel) ∙ locked_long known declared guards are)
    (ap (λ (l : GuardsView). first_place_of n l.declared) view ∙ sym place)
    (omega (arith, there, ap (λ (l : GuardsView). length l.declared) view))
    (get_or-set_same guards at (Some channel) None (within declared guards guards known now at view are there refl))

-- only that channel changes with its guard
pub guarded_others : (declared : List ℕ) (guards slice : List (Option LineChanView)) (known : List SeatShareView)
    (now : GuardsView) (at n : ℕ) (channel : LineChanView) → view_of declared guards known ≡ now
    → AreLocked known declared guards → at ≡ first_place_of n now.declared → at < length now.declared → slice ≡ guards
    → chans_of (view_of declared (changed guards slice at channel) known)
    ≡ put_at (chans_of now) n (chans_of (view_of declared (changed guards slice at channel) known) n)
guarded_others declared guards slice known now at n channel view are place there same =
    subst (λ (gs : List (Option LineChanView)). chans_of (view_of declared gs known)
    ≡ put_at (chans_of now) n (chans_of (view_of declared gs known) n))
    (sym (refilled guards slice at (Some channel) same))
    (subst (λ (l : Logged). chans_of (view_of declared (slice_set guards at (Some channel)) known)
    ≡ put_at (chans_of now) n l) (sym (guarded_set declared guards known now at n channel view are place there))
    (subst (λ (l : GuardsView). chans_of (view_of declared (slice_set guards at (Some channel)) known)
    ≡ put_at (chans_of l) n channel.held.logged) view
    (λ i m. chans_put n declared guards (known_of known) at channel (locked_long known declared guards are)
    (ap (λ (l : GuardsView). first_place_of n l.declared) view ∙ sym place)
    (omega (arith, there, ap (λ (l : GuardsView). length l.declared) view)) m i)))

-- .. which is then the guard's
pub guarded_new : (declared : List ℕ) (guards slice : List (Option LineChanView)) (known : List SeatShareView)
    (now : GuardsView) (at n : ℕ) (channel : LineChanView) → view_of declared guards known ≡ now
    → AreLocked known declared guards → at ≡ first_place_of n now.declared → at < length now.declared → slice ≡ guards
    → chans_of (view_of declared (changed guards slice at channel) known) n ≡ channel.held.logged
guarded_new declared guards slice known now at n channel view are place there same =
    ap (λ (gs : List (Option LineChanView)). chans_of (view_of declared gs known) n)
    (refilled guards slice at (Some channel) same)
    ∙ guarded_set declared guards known now at n channel view are place there

-- a guard of the same line in the place of another leaves the lines locked
pub locked_set : (known : List SeatShareView) (declared : List ℕ) (guards : List (Option LineChanView)) (at : ℕ)
    (d : Option LineChanView) (old new : LineChanView) → AreLocked known declared guards → at < length declared
    → slice_index_or guards at d ≡ Some old → new.line ≡ old.line
    → AreLocked known declared (slice_set guards at (Some new))
locked_set known [] guards at d old new are below is same = absurd (omega (arith, below))
locked_set known (n ∷ declared) [] at d old new are below is same = absurd are
locked_set known (n ∷ declared) (None ∷ guards) zero d old new are below is same = absurd are.0.1
locked_set known (n ∷ declared) (Some channel ∷ guards) zero d old new are below is same =
    let e : channel ≡ old = cc in
    ((are.0.0, same ∙ sym (ap (λ (c : LineChanView). c.line) e) ∙ are.0.1), are.1)
locked_set known (n ∷ declared) (g ∷ guards) (suc at) d old new are below is same =
    (are.0, locked_set known declared guards at d old new are.1 (omega (arith, below)) is same)

-- .. also as it is written back
pub locked_changed : (known : List SeatShareView) (declared : List ℕ) (guards slice : List (Option LineChanView))
    (at : ℕ)
    (d : Option LineChanView) (old new : LineChanView) (now : GuardsView) → view_of declared guards known ≡ now
    → AreLocked known declared guards → at < length now.declared → slice ≡ guards → slice_index_or slice at d ≡ Some old
    → new.line ≡ old.line → AreLocked known declared (changed guards slice at new)
locked_changed known declared guards slice at d old new now view are there same is line =
    subst (AreLocked known declared) (sym (refilled guards slice at (Some new) same))
    (locked_set known declared guards at d old new are
    (omega (arith, there, ap (λ (l : GuardsView). length l.declared) view))
    (subst (λ (gs : List (Option LineChanView)). slice_index_or gs at d ≡ Some old) same is) line)

-- what is true of a guard before and after is true of the channel with its number
pub guarded_step : (F : Logged → Logged → Type 0) (declared : List ℕ) (guards slice : List (Option LineChanView))
    (known : List SeatShareView) (now : GuardsView) (at n : ℕ) (d : Option LineChanView) (old new : LineChanView)
    → view_of declared guards known ≡ now → AreLocked known declared guards → at ≡ first_place_of n now.declared
    → at < length now.declared → slice ≡ guards → slice_index_or slice at d ≡ Some old
    → F old.held.logged new.held.logged
    → F (chans_of now n) (chans_of (view_of declared (changed guards slice at new) known) n)
guarded_step F declared guards slice known now at n d old new view are place there same is holds =
    subst (λ (l : Logged). F l (chans_of (view_of declared (changed guards slice at new) known) n))
    (sym (guarded declared guards slice known now at n d old view are place there same is))
    (subst (F old.held.logged)
    (sym (guarded_new declared guards slice known now at n new view are place there same)) holds)
