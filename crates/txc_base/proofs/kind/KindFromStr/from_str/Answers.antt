use Rattle.std.proofs.Common.{rules, ◌≡◌, refl, sym, ap, ◌∙◌, false, nat_eq, slice_index_or}
use Rattle.std.specs.Cmp.Lexicographic.{pointwise}
use Rattle.txc_base.specs.declared.kind.Kind.TheVariants.{Queue}
use Rattle.txc_base.specs.Kinds.{kinds, name_of}
use Rattle.txc_base.proofs.Naming.{passed_next}
use Rattle.txc_base.proofs.kind.KindFromStr.from_str.Goals as goal

pub loop-kind-preserved : goal.loop-kind-preserved
loop-kind-preserved c =
    let other : pointwise nat_eq c.args.name.now (name_of (slice_index_or kinds c.loop-kind.kind-index Queue)) ≡ false =
    ap (pointwise nat_eq c.args.name.now) (sym c.name.ensures) ∙ sym c.if-eq.ensures in
    record {
      all = refl;
      rest = c.loop-kind.invariant.rest
          ∙ passed_next kinds c.loop-kind.kind-index Queue c.args.name.now (search rules) other;
    }
