use Rattle.std.proofs.Common.{ap, ◌∙◌, reverse}
use Rattle.txc_cast.specs.Standing.{ReaderState}
use Rattle.txc_cast.proofs.cursor.Cursor.backs.Goals as goal

pub returns : goal.returns
returns c = ap reverse c.as_slice.ensures.value ∙ ap (λ (standing : ReaderState). standing.backs) c.self.view_is
