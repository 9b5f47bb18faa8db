-- A line that is settled, among those that are locked.
use Rattle.std.proofs.Common.{◌≡◌, ◌∙◌, refl, sym, ap, subst, ℕ, zero, suc, ◌<◌, Option, Some, None, List}
use Rattle.std.proofs.Common.{[], ◌∷◌, length, map, slice_index_or, slice_set, arith}
use Rattle.std.proofs.Common.{get_or-set_same}
use Rattle.std.proofs.lemmas.List.{length-set}
use Rattle.txc_base.specs.declared.tag.Tag.{Tag}
use Rattle.txc_table_line.specs.LineChan.{LineChanView, no_channel}
use Rattle.txc_table_line.specs.SeatShare.{SeatShareView}
use Rattle.txc_table_lines.specs.Committed.{IsSettled, SettledAt}
use Rattle.txc_table_lines.specs.Guards.{AreLocked, GuardsView, channel_in}
use Rattle.txc_table_lines.specs.Lines.{line_ids, no_share, share_at}
use Rattle.txc_table_lines.proofs.Placing.{changed, locked_long, refilled, view_of, within}
use Rattle.txc_table_lines.proofs.Sharing.{indexed, map_long, same_long}

-- the line of a guard is there, and is the channel's
pub locked_line : (known : List SeatShareView) (declared : List ℕ) (guards : List (Option LineChanView)) (at : ℕ)
    (d : Option LineChanView) (channel : LineChanView) → AreLocked known declared guards → at < length declared
    → slice_index_or guards at d ≡ Some channel
    → (slice_index_or declared at 0 < length known)
    × (channel.line ≡ (share_at known (slice_index_or declared at 0)).line)
locked_line known [] guards at d channel are below is = absurd (omega (arith, below))
locked_line known (n ∷ declared) [] at d channel are below is = absurd are
locked_line known (n ∷ declared) (None ∷ guards) zero d channel are below is = absurd are.0.1
locked_line known (n ∷ declared) (Some c ∷ guards) zero d channel are below is =
    let e : c ≡ channel = cc in
    (are.0.0, sym (ap (λ (x : LineChanView). x.line) e) ∙ are.0.1)
locked_line known (n ∷ declared) (g ∷ guards) (suc at) d channel are below is =
    locked_line known declared guards at d channel are.1 (omega (arith, below)) is

-- the number at a place is that of a share
locked_there : (known : List SeatShareView) (declared : List ℕ) (guards : List (Option LineChanView)) (at : ℕ)
    → AreLocked known declared guards → at < length declared → slice_index_or declared at 0 < length known
locked_there known [] guards at are below = absurd (omega (arith, below))
locked_there known (n ∷ declared) [] at are below = absurd are
locked_there known (n ∷ declared) (g ∷ guards) zero are below = are.0.0
locked_there known (n ∷ declared) (g ∷ guards) (suc at) are below =
    locked_there known declared guards at are.1 (omega (arith, below))

pub share_there : (declared : List ℕ) (guards : List (Option LineChanView)) (known shares items : List SeatShareView)
    (now : GuardsView) (at from number : ℕ) → view_of declared guards known ≡ now → AreLocked known declared guards
    → at < length now.declared → line_ids shares ≡ line_ids now.known → items ≡ shares → from ≡ number
    → number ≡ slice_index_or declared at 0 → from < length items
share_there declared guards known shares items now at from number view are there same inside is from_is = omega (
  arith,
  locked_there known declared guards at are (omega (arith, there, ap (λ (l : GuardsView). length l.declared) view)),
  is,
  from_is,
  same_long shares now.known same,
  ap (λ (l : GuardsView). length l.known) view,
  ap length inside,
)

-- the channel of a guard
pub channel_at : (guards : List (Option LineChanView)) (at : ℕ) (d : Option LineChanView)
    (channel : LineChanView) → at < length guards → slice_index_or guards at d ≡ Some channel
    → slice_index_or (map channel_in guards) at no_channel ≡ channel
channel_at [] at d channel below is = absurd (omega (arith, below))
channel_at (g ∷ guards) zero d channel below is = ap channel_in is
channel_at (g ∷ guards) (suc at) d channel below is = channel_at guards at d channel (omega (arith, below)) is

map_set : (guards : List (Option LineChanView)) (at : ℕ) (channel : LineChanView)
    → map channel_in (slice_set guards at (Some channel)) ≡ slice_set (map channel_in guards) at channel
map_set [] at channel = refl
map_set (g ∷ guards) zero channel = refl
map_set (g ∷ guards) (suc at) channel = ap (λ rest. channel_in g ∷ rest) (map_set guards at channel)

-- .. after a change
pub channel_new : (guards slice : List (Option LineChanView)) (at : ℕ) (channel : LineChanView) → slice ≡ guards
    → at < length guards → slice_index_or (map channel_in (changed guards slice at channel)) at no_channel ≡ channel
channel_new guards slice at channel same below =
    ap (λ (gs : List (Option LineChanView)). slice_index_or (map channel_in gs) at no_channel)
    (refilled guards slice at (Some channel) same)
    ∙ channel_at (slice_set guards at (Some channel)) at None channel
    (omega (arith, below, length-set guards at (Some channel)))
    (get_or-set_same guards at (Some channel) None below)

-- .. which is the only one
pub channels_set : (guards slice : List (Option LineChanView)) (at : ℕ) (channel : LineChanView) → slice ≡ guards
    → at < length guards → map channel_in (changed guards slice at channel)
    ≡ slice_set (map channel_in guards) at
    (slice_index_or (map channel_in (changed guards slice at channel)) at no_channel)
channels_set guards slice at channel same below =
    ap (map channel_in) (refilled guards slice at (Some channel) same) ∙ map_set guards at channel
    ∙ ap (slice_set (map channel_in guards) at) (sym (channel_new guards slice at channel same below))

-- the channel at a place is the guard's
pub guard_channel : (declared : List ℕ) (guards slice : List (Option LineChanView)) (known : List SeatShareView)
    (now : GuardsView) (at : ℕ) (d : Option LineChanView) (channel : LineChanView)
    → view_of declared guards known ≡ now → AreLocked known declared guards → at < length now.declared
    → slice ≡ guards → slice_index_or slice at d ≡ Some channel → slice_index_or now.channels at no_channel ≡ channel
guard_channel declared guards slice known now at d channel view are there same is =
    subst (λ (l : GuardsView). slice_index_or l.channels at no_channel ≡ channel) view
    (channel_at guards at d channel (within declared guards guards known now at view are there refl)
    (subst (λ (gs : List (Option LineChanView)). slice_index_or gs at d ≡ Some channel) same is))

-- .. and is of the line with the number at that place
pub guard_line : (declared : List ℕ) (guards slice : List (Option LineChanView)) (known : List SeatShareView)
    (now : GuardsView) (at : ℕ) (d : Option LineChanView) (channel : LineChanView)
    → view_of declared guards known ≡ now → AreLocked known declared guards → at < length now.declared
    → slice ≡ guards → slice_index_or slice at d ≡ Some channel
    → channel.line ≡ (share_at now.known (slice_index_or now.declared at 0)).line
guard_line declared guards slice known now at d channel view are there same is =
    subst (λ (l : GuardsView). channel.line ≡ (share_at l.known (slice_index_or l.declared at 0)).line) view
    (locked_line known declared guards at d channel are
    (omega (arith, there, ap (λ (l : GuardsView). length l.declared) view))
    (subst (λ (gs : List (Option LineChanView)). slice_index_or gs at d ≡ Some channel) same is)).1

-- the share with the number at a place
pub share_is : (declared : List ℕ) (guards : List (Option LineChanView)) (known shares items : List SeatShareView)
    (now : GuardsView) (at from : ℕ) (x : SeatShareView) → view_of declared guards known ≡ now
    → AreLocked known declared guards
    → at < length now.declared → line_ids shares ≡ line_ids now.known → items ≡ shares
    → from ≡ slice_index_or declared at 0 → x ≡ slice_index_or items from x
    → x ≡ share_at shares (slice_index_or now.declared at 0)
share_is declared guards known shares items now at from x view are there same inside number is =
    let at_number : from ≡ slice_index_or now.declared at 0
    = number ∙ ap (λ (l : GuardsView). slice_index_or l.declared at 0) view in
    let below = share_there declared guards known shares items now at from from view are there same inside refl number
    in
    indexed items shares from (slice_index_or now.declared at 0) x no_share inside at_number
    (omega (arith, below, ap length inside, at_number)) is

-- what is settled of a guard and a share is settled of the line at their place
pub settled_at : (tag : Tag) (declared : List ℕ) (guards slice : List (Option LineChanView))
    (known shares items : List SeatShareView) (now : GuardsView) (at from : ℕ) (d : Option LineChanView)
    (old new : LineChanView) (x y : SeatShareView) → view_of declared guards known ≡ now
    → AreLocked known declared guards
    → at < length now.declared → slice ≡ guards → slice_index_or slice at d ≡ Some old
    → line_ids shares ≡ line_ids now.known → items ≡ shares → from ≡ slice_index_or declared at 0
    → x ≡ slice_index_or items from x → IsSettled tag old.held.logged x new.held.logged y
    → SettledAt tag at now shares (view_of declared (changed guards slice at new) known) (slice_set items from y)
settled_at tag declared guards slice known shares items now at from d old new x y view are there same is lines inside
    number x_is settled =
    let at_number : from ≡ slice_index_or now.declared at 0
    = number ∙ ap (λ (l : GuardsView). slice_index_or l.declared at 0) view in
    let below = share_there declared guards known shares items now at from from view are there lines inside refl number
    in
    let here : share_at (slice_set items from y) (slice_index_or now.declared at 0) ≡ y
    = subst (λ n. share_at (slice_set items from y) n ≡ y) at_number (get_or-set_same items from y no_share below) in
    let left = channel_new guards slice at new same (within declared guards guards known now at view are there refl) in
    let found = guard_channel declared guards slice known now at d old view are there same is in
    let share = share_is declared guards known shares items now at from x view are there lines inside number x_is in
    subst (λ (c : LineChanView). IsSettled tag c.held.logged (share_at shares (slice_index_or now.declared at 0))
    (slice_index_or (map channel_in (changed guards slice at new)) at no_channel).held.logged
    (share_at (slice_set items from y) (slice_index_or now.declared at 0))) (sym found)
    (subst (λ (c : LineChanView). IsSettled tag old.held.logged
    (share_at shares (slice_index_or now.declared at 0)) c.held.logged
    (share_at (slice_set items from y) (slice_index_or now.declared at 0))) (sym left)
    (subst (λ (s : SeatShareView). IsSettled tag old.held.logged (share_at shares (slice_index_or now.declared at 0))
    new.held.logged s) (sym here)
    (subst (λ (s : SeatShareView). IsSettled tag old.held.logged s new.held.logged y) share settled)))

-- there is a channel for each number
pub channels_long : (declared : List ℕ) (guards : List (Option LineChanView)) (known : List SeatShareView)
    (now : GuardsView)
    → view_of declared guards known ≡ now → AreLocked known declared guards
    → length now.channels ≡ length now.declared
channels_long declared guards known now view are =
    subst (λ (l : GuardsView). length l.channels ≡ length l.declared) view
    (map_long channel_in guards ∙ locked_long known declared guards are)

-- .. and a share
pub numbers_there : (declared : List ℕ) (guards : List (Option LineChanView)) (known shares : List SeatShareView)
    (now : GuardsView) (at : ℕ) → view_of declared guards known ≡ now → AreLocked known declared guards
    → line_ids shares ≡ line_ids now.known → at < length now.declared
    → slice_index_or now.declared at 0 < length shares
numbers_there declared guards known shares now at view are same below =
    subst (λ n. slice_index_or now.declared at 0 < n) (sym (same_long shares now.known same))
    (subst (λ (l : GuardsView). slice_index_or l.declared at 0 < length l.known) view
    (locked_there known declared guards at are (omega (arith, below, ap (λ (l : GuardsView). length l.declared) view))))
