-- The last of some numbers.
use Rattle.std.specs.Prelude.{ℕ, List, [], ◌∷◌}

-- the last of these numbers, or the first argument if there is none
abbrev pub last_from : ℕ → List ℕ → ℕ
last_from n [] = n
last_from n (m ∷ numbers) = last_from m numbers
