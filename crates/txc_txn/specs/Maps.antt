-- Channels by their numbers.
use Rattle.std.specs.Prelude.{ℕ, Option, Some, List, [], ◌∷◌, nat_eq, if◌then◌else◌}
use Rattle.txc_base.specs.declared.kind.Kind.{Kind}
use Rattle.txc_chan.specs.Logged.{Logged, settled}

-- the channel with each number
abbrev pub Map : Type 0
Map = ℕ → Logged

-- the map with this channel at this number
abbrev pub put_at : Map → ℕ → Logged → Map
put_at m chan l = λ n. if nat_eq n chan then l else m n

-- the map with these channels settled
abbrev pub settle_all : Map → ℕ → List ℕ → Map
settle_all m stamp [] = m
settle_all m stamp (n ∷ numbers) = settle_all (put_at m n (settled stamp (m n))) stamp numbers

-- the kind of each channel
abbrev pub kinds_of : Map → ℕ → Option Kind
kinds_of m n = Some (m n).decl.kind
