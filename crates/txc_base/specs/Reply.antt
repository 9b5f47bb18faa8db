-- The body that was read last, after a reply.
use Rattle.std.specs.Prelude.{ℕ, Option, Some}
use Rattle.txc_base.specs.declared.reply.Reply.{Reply}
use Rattle.txc_base.specs.declared.reply.Reply.TheVariants.{Got}

-- the body that was read or peeked last, after this reply
abbrev pub last_read_after : Reply → Option ℕ → Option ℕ
last_read_after (Got item) last = Some item.body
last_read_after reply last = last
