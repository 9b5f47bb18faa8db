use Rattle.std.proofs.Common.{◌≡◌, ◌++◌, ◌∷◌, [], rules, sym}
use Rattle.yalwythen_domain.proofs.Going.{precedes_now, saved_here}
use Rattle.yalwythen_domain.proofs.channels.Channels.set_savepoint.Goals as goal

pub returns-clause-savepoint : goal.returns-clause-savepoint
returns-clause-savepoint g c =
    let added : c.push.new.self.items ≡ c.self.inside.savepoints.items
    ++ c.in_ok-savepoint.savepoint ∷ [] = search rules in
    rw (sym c.self.view_is) (record {
      savepoint = c.in_ok-savepoint.savepoint;
      added = added;
      saved = λ began marked. rw c.savepoint.ensures.same
          (saved_here c.in_ok-savepoint.savepoint c.self.inside.plain c.self.inside.kinds.items
          c.self.inside.txn c.push.new.self.items (c.in_ok-savepoint.ensures.marked began marked)
          c.in_ok-savepoint.ensures.trace);
      later = λ point at trace saved. precedes_now point at trace _ saved;
    })
