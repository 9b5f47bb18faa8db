use Rattle.std.proofs.Common.{◌≡◌, ℕ, ◌+◌, ◌-◌, length, length-drop, List, Option, Some, None, take, drop, arith}
use Rattle.std.proofs.Math.Seq.{take-add, take-length}
use Rattle.std.proofs.lemmas.Grind.{common_steps}
use Rattle.std.specs.Io.KnownBytes.{Appends}
use Rattle.txc_cmd_io.proofs.bytes.write_text.Goals as goal

-- two appends, one after the other
Appends-add : (a b c : Option (List ℕ)) (text : List ℕ) (i n : ℕ) → Appends a b (take i text)
    → Appends b c (take n (drop i text)) → Appends a c (take (i + n) text)
Appends-add None b c text i n p q = tt
Appends-add (Some xs) None c text i n p q = absurd p
Appends-add (Some xs) (Some ys) None text i n p q = absurd q
Appends-add (Some xs) (Some ys) (Some zs) text i n p q = rw take-add (grind (arith, common_steps))

-- the rest of a text, cut at its end
rest_whole : (text : List ℕ) (i : ℕ) → take (length text - i) (drop i text) ≡ drop i text
rest_whole text i = rw (← length-drop i text) (take-length (drop i text))

pub loop-at-preserved : goal.loop-at-preserved
loop-at-preserved g c = record {
  within = grind (arith, common_steps);
  written = Appends-add _ _ _ c.args.text.now c.loop-at.at c.put.result c.loop-at.invariant.written
      (rw rest_whole at c.put.ensures.bytes);
}
