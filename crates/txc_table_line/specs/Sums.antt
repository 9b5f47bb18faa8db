-- Numbers of several lines, by their places.
use Rattle.std.specs.Prelude.{ℕ, ◌+◌, List, [], ◌∷◌}

-- the sums of these numbers and those
abbrev pub sums : List ℕ → List ℕ → List ℕ
sums [] others = []
sums (n ∷ numbers) [] = n ∷ numbers
sums (n ∷ numbers) (m ∷ others) = (n + m) ∷ sums numbers others
