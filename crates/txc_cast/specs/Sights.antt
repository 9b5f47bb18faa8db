-- Sights of a shelf.
use Rattle.boxcar.specs.Table.{Shelves, Shows}
use Rattle.txc_cast.specs.declared.sight.Sight.{Sight}

-- the sight is of this shelf
abbrev pub IsOf : Shelves → Sight → Type 0
IsOf shelf sight = Shows shelf sight.token
