use Rattle.std.proofs.Common.{◌≡◌, drop}
use Rattle.txc_base.specs.Kinds.{kinds, kind_named, named_among}
use Rattle.txc_base.proofs.kind.KindFromStr.from_str.Given as goal

abbrev pub invariant-loop-kind : goal.invariant-loop-kind
invariant-loop-kind l = record {
  all : l.kind-items ≡ kinds;
  rest : kind_named l.name ≡ named_among (drop l.kind-index kinds) l.name;
}
