-- The limits of a declaration.
use Rattle.std.specs.Prelude.{ℕ, ◌&&◌, Option, Some, None, List, [], ◌∷◌, nat_lt, if◌then◌else◌}
use Rattle.txc_base.specs.declared.kind.Kind.{Kind}
use Rattle.txc_base.specs.declared.limits.TheConstants.{MAX_BOUND}
use Rattle.txc_base.specs.declared.limits.TheConstants.{MAX_READERS}
use Rattle.txc_base.specs.Kinds.{is_bounded, is_broadcast}
use Rattle.txc_chan.specs.declared.decl.Decl.{Decl}
use Rattle.txc_chan.specs.declared.fault.ChanFault.{ChanFault}
use Rattle.txc_chan.specs.declared.fault.ChanFault.TheVariants.{BoundTooLarge, TooManyReaders}

-- the largest bound
abbrev pub max_bound : ℕ
max_bound = MAX_BOUND

-- the first fault of a declaration; `None` if a channel can be made of it
abbrev pub declared_fault : Kind → ℕ → ℕ → Option ChanFault
declared_fault kind bound readers =
    if is_bounded kind && nat_lt max_bound bound then Some BoundTooLarge
    else if is_broadcast kind && nat_lt MAX_READERS readers then Some TooManyReaders
    else None

-- the first fault, or the other if there is none
abbrev pub fault_or : Option ChanFault → Option ChanFault → Option ChanFault
fault_or None other = other
fault_or (Some fault) other = Some fault

-- the fault of the first declaration that has one
abbrev pub first_fault : List Decl → Option ChanFault
first_fault [] = None
first_fault (decl ∷ decls) = fault_or (declared_fault decl.kind decl.bound decl.readers) (first_fault decls)
