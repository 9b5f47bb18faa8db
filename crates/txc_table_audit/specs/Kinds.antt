-- Channels with their kinds.
use Rattle.std.specs.Prelude.{List}
use Rattle.txc_base.specs.declared.kind.Kind.{Kind}
use Rattle.txc_chan.specs.ChanView.{ChanView}

-- channels, and the kinds of the first of them
pub record Channels : Type 0 where
  pub held : List ChanView
  pub kinds : List Kind
