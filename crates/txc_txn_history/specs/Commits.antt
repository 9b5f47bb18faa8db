-- Commits on channels, each under a lock of its own, and when they are one history.
use Rattle.std.specs.Prelude.{◌≡◌, ◌⊎◌, ℕ, ◌<◌, ◌≤◌, Bool, true, false, List, [], ◌∷◌, ◌++◌, length, map, filter}

-- the value is in the list
abbrev pub Has : {X : Type 0} → List X → X → Type 0
Has [] x = ⊥
Has (y ∷ ys) x = (y ≡ x) ⊎ Has ys x

-- no value is in the list twice
abbrev pub Once : {X : Type 0} → List X → Type 0
Once [] = Unit {0}
Once (x ∷ xs) = (¬ Has xs x) × Once xs

module _ {G : Type 0} (stamp : G → ℕ) where
  -- the stamps rise
  abbrev pub Rises : List G → Type 0
  Rises [] = Unit {0}
  Rises (x ∷ xs) = ((y : G) → Has xs y → stamp x < stamp y) × Rises xs

  -- the stamps do not fall
  abbrev pub NeverFalls : List G → Type 0
  NeverFalls [] = Unit {0}
  NeverFalls (x ∷ xs) = ((y : G) → Has xs y → stamp x ≤ stamp y) × NeverFalls xs

-- commits on channels; each channel has a state and a history, and each commit that held the channel has left a mark in
-- the history
pub record Commits (E T G S : Type 0) : Type 1 where
  pub tag : E → G  -- identifies a commit
  pub marked : T → G  -- the tag of a mark
  pub stamp : G → ℕ
  pub holds : ℕ → E → Bool  -- the commit held the channel's lock
  pub gives : E → (ℕ → S) → Type 0  -- on these channels the transaction commits and gives its receipt
  pub leaves : E → (ℕ → S) → ℕ → S  -- the channels after that commit

module _ {E T G S : Type 0} (k : Commits E T G S) where
  -- a transaction reads only the channels that it holds, and leaves all others unchanged
  pub record IsLocal (e : E) : Type 0 where
    pub same : (m n : ℕ → S) → ((c : ℕ) → k.holds c e ≡ true → m c ≡ n c) → k.gives e m → k.gives e n
    pub alike : (m n : ℕ → S) → ((c : ℕ) → k.holds c e ≡ true → m c ≡ n c) → (c : ℕ) → k.holds c e ≡ true
        → k.leaves e m c ≡ k.leaves e n c
    pub others : (m : ℕ → S) → k.gives e m → (c : ℕ) → k.holds c e ≡ false → k.leaves e m c ≡ m c

  -- the place of a commit in the history of a channel that it held: the commit found the channel in the state before
  -- its mark, and left it in the state after its mark
  pub record StandsAt (past : ℕ → List T) (state : ℕ → List T → S) (e : E) (m : ℕ → S) (c : ℕ) : Type 0 where
    pub before : List T
    pub mark : T
    pub later : List T
    pub here : past c ≡ before ++ mark ∷ later
    pub its : k.marked mark ≡ k.tag e
    pub found : m c ≡ state c before
    pub left : k.leaves e m c ≡ state c (before ++ mark ∷ [])

  -- the commit gave its receipt on channels in such states, at one moment when it held all of them
  pub record IsPlaced (past : ℕ → List T) (state : ℕ → List T → S) (e : E) : Type 0 where
    pub channels : ℕ → S
    pub gave : k.gives e channels
    pub at : (c : ℕ) → k.holds c e ≡ true → StandsAt past state e channels c

  -- these commit and give their receipts one after another, and leave these channels
  abbrev pub Follow : (ℕ → S) → List E → (ℕ → S) → Type 0
  Follow m [] left = left ≡ m
  Follow m (e ∷ es) left = k.gives e m × Follow (k.leaves e m) es left

  -- histories of channels, whose stamps rise, and an order of commits by their stamps, each once: each commit is placed
  -- in the histories of all channels that it held, and each history is at most as long as the number of these commits
  pub record AreKept (past : ℕ → List T) (state : ℕ → List T → S) (order : List E) : Type 0 where
    pub rises : (c : ℕ) → Rises k.stamp (map k.marked (past c))
    pub sorted : NeverFalls k.stamp (map k.tag order)
    pub once : Once (map k.tag order)
    pub local : (e : E) → Has order e → IsLocal e
    pub placed : (e : E) → Has order e → IsPlaced past state e
    pub counted : (c : ℕ) → length (past c) ≤ length (filter (k.holds c) order)
