use Rattle.std.proofs.Common.{sym, ap, ◌∙◌}
use Rattle.std.specs.Prelude.{slice_get}
use Rattle.txc_cast.specs.Broadcast.{Broadcast}
use Rattle.txc_cast.specs.Kept.{items_shown}
use Rattle.txc_cast.specs.Standing.{reader_standing}
use Rattle.txc_cast.proofs.Readers.{answers_none, answers_back, answers_written}
use Rattle.txc_cast.proofs.Tokens.{stands_at, none_at}
use Rattle.txc_cast.proofs.cast.Cast.front.Goals as goal

pub returns-in_default : goal.returns-in_default
returns-in_default c =
    let inside = c.self.inside in
    answers_none c.args.self.now c.args.reader
    (ap (λ (b : Broadcast). slice_get b.readers c.args.reader) (sym c.self.view_is)
    ∙ none_at (reader_standing (items_shown inside.tokens.items)) inside.cursors.items c.deref.result.now c.args.reader
    c.deref.ensures.value c.in_default.ensures.lookup.0)

pub returns-in-Some-back : goal.returns-in-Some-back
returns-in-Some-back c =
    let inside = c.self.inside in
    let found = c.in-Some.ensures.lookup in
    answers_back (items_shown inside.tokens.items) c.args.self.now c.args.reader c.in-Some.cursor.now _
    (ap (λ (b : Broadcast). slice_get b.readers c.args.reader) (sym c.self.view_is)
    ∙ stands_at (reader_standing (items_shown inside.tokens.items)) inside.cursors.items c.deref.result.now
    c.args.reader c.in-Some.cursor.now c.deref.ensures.value found.0 found.1)
    (sym c.in-Some-back.ensures)

pub returns-in-None : goal.returns-in-None
returns-in-None c =
    let inside = c.self.inside in
    let found = c.in-Some.ensures.lookup in
    answers_written (items_shown inside.tokens.items) c.args.self.now c.args.reader c.in-Some.cursor.now c.item.result
    (ap (λ (b : Broadcast). slice_get b.readers c.args.reader) (sym c.self.view_is)
    ∙ stands_at (reader_standing (items_shown inside.tokens.items)) inside.cursors.items c.deref.result.now
    c.args.reader c.in-Some.cursor.now c.deref.ensures.value found.0 found.1)
    (sym c.in-None.ensures)
    (c.item.ensures ∙ ap (λ (b : Broadcast). slice_get b.items c.position.result) (sym c.self.view_is)
    ∙ ap (slice_get (items_shown inside.tokens.items)) c.position.ensures)
