-- Short names of channels, for the examples of operations.
use Rattle.std.specs.Prelude.{ℕ, Bool, false, List, [], ◌∷◌, replicate}
use Rattle.txc_base.specs.declared.item.Item.{Item}
use Rattle.txc_base.specs.declared.kind.Kind.{Kind}
use Rattle.txc_base.specs.declared.kind.Kind.TheVariants.{Queue, Bounded, Cast, MQueue, BMQueue}
use Rattle.txc_base.specs.Channel.{Channel}
use Rattle.txc_base.specs.declared.limits.TheConstants.{MAX_READERS}

-- a channel with these lists
abbrev pub channel : Kind → ℕ → Bool → ℕ → ℕ → List (List Item) → Channel
channel kind bound closed written backs lists =
    record { kind = kind; bound = bound; closed = closed; written = written; backs = backs; lists = lists }

-- a queue with one list
abbrev pub tqueue : ℕ → List Item → Channel
tqueue written list = channel Queue 0 false written 0 (list ∷ [])

-- a queue with bound 1
abbrev pub tbqueue : ℕ → List Item → Channel
tbqueue written list = channel Bounded 1 false written 0 (list ∷ [])

-- a queue that can be closed
abbrev pub tmqueue : Bool → ℕ → List Item → Channel
tmqueue closed written list = channel MQueue 0 closed written 0 (list ∷ [])

-- a queue with bound 1 that can be closed
abbrev pub tbmqueue : Bool → ℕ → ℕ → List Item → Channel
tbmqueue closed written backs list = channel BMQueue 1 closed written backs (list ∷ [])

-- a broadcast channel
abbrev pub tchan : ℕ → ℕ → List (List Item) → Channel
tchan written backs lists = channel Cast 0 false written backs lists

-- the most readers that there can be, with nothing to read
abbrev pub crowd : List (List Item)
crowd = replicate MAX_READERS []
