-- What declarations say together.
use Rattle.std.specs.Prelude.{List, map}
use Rattle.txc_base.specs.declared.kind.Kind.{Kind}
use Rattle.txc_chan.specs.declared.decl.Decl.{Decl}

-- the kinds of the channels, by their numbers
abbrev pub kinds_in : List Decl → List Kind
kinds_in decls = map (λ decl. decl.kind) decls
