use Rattle.std.proofs.Common.{rules, ◌≡◌, ℕ, true, [], length, arith}
use Rattle.std.proofs.lemmas.List.{length-replicate}
use Rattle.txc_base.specs.declared.kind.Kind.{Kind}
use Rattle.txc_base.specs.declared.kind.Kind.TheVariants.{Queue, Bounded, Cast, MQueue, BMQueue, MCast}
use Rattle.txc_base.specs.Channel.{opening}
use Rattle.txc_base.specs.Kinds.{is_broadcast}
use Rattle.txc_base_laws.proofs.KeptLaw.{keeps}
use Rattle.txc_chan.specs.Body.{channel_of}
use Rattle.txc_chan.proofs.chan.Chan.first_readers.Goals as goal

-- a broadcast channel opens with a list for each reader
opens_with : (kind : Kind) (bound readers : ℕ) → is_broadcast kind ≡ true
    → length (opening kind bound readers).lists ≡ readers
opens_with Queue bound readers is = cc
opens_with Bounded bound readers is = cc
opens_with Cast bound readers is = length-replicate readers []
opens_with MQueue bound readers is = cc
opens_with BMQueue bound readers is = cc
opens_with MCast bound readers is = length-replicate readers []

pub prove-unreachable-requires : goal.prove-unreachable-requires
prove-unreachable-requires g c =
    let now = c.self.inside in
    let kept = keeps now.decl.kind now.decl.bound now.decl.readers (g.K.Log.entries now.log)
    (channel_of now.decl.kind now.body now.closed now.written now.backs) c.self.invariant.sound.lawful in
    let broadcast : is_broadcast now.decl.kind ≡ true = search rules in
    omega (arith, kept.first_readers, opens_with now.decl.kind now.decl.bound now.decl.readers broadcast)
