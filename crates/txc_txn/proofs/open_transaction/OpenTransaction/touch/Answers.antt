use Rattle.std.proofs.Common.{rules, arith, ◌≡◌, sym, ◌∙◌, subst, [], ◌∷◌, ◌++◌, ℕ, List}
use Rattle.std.proofs.lemmas.List.{length-append}
use Rattle.txc_txn.specs.Growth.{IsMarked}
use Rattle.txc_txn.specs.OpenTransaction.{marks_since}
use Rattle.txc_txn.proofs.Touching.{marked_more, any_none, any_some, since_more}
use Rattle.txc_txn.proofs.open_transaction.OpenTransaction.touch.Goals as goal

pub returns-clause-marked : goal.returns-clause-marked
returns-clause-marked g c saved before k =
    let on : c.push_reserved.new.self.items ≡ c.args.self.now.touched.items ++ c.args.chan ∷ [] = search rules in
    let at : c.push_reserved-2.new.self.items ≡ c.args.self.now.marks.items ++ c.pending.result ∷ [] = search rules in
    rw (on, at) (
      omega (arith, k.0, length-append c.args.self.now.marks.items (c.pending.result ∷ [])),
      subst (λ (l : List ℕ). IsMarked c.args.self.now.tag (c.args.self.now.touched.items ++ c.args.chan ∷ []) l before
          (g.H.Hold.chans c.args.hold.now))
          (sym (since_more saved c.args.self.now.marks.items c.pending.result k.0))
          (marked_more c.args.self.now.tag c.args.self.now.touched.items (marks_since saved c.args.self.now.marks.items)
          before (g.H.Hold.chans c.args.hold.now) c.args.chan c.pending.result
          (any_none c.args.chan c.args.self.now.touched.items (sym c.has_touched.ensures ∙ c.if-has_touched.false))
          c.pending.ensures.value
          c.pending.ensures.lawful k.1),
    )

pub returns-then-has_touched-clause-there : goal.returns-then-has_touched-clause-there
returns-then-has_touched-clause-there g c = any_some c.args.chan c.args.self.now.touched.items
    (sym c.has_touched.ensures ∙ c.if-has_touched.true)
