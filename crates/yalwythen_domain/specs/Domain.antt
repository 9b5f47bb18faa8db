-- The state of a domain.
use Rattle.std.specs.Prelude.{◌≡◌, ℕ, List, []}
use Rattle.txc_base.specs.declared.tag.Tag.{Tag}
use Rattle.txc_txn.specs.declared.receipt.Receipt.{Receipt}
use Rattle.yalwythen_domain.specs.declared.domain.TransactionStatus.{TransactionStatus}
use Rattle.yalwythen_domain.specs.declared.domain.TransactionStatus.TheVariants.{Idle}
use Rattle.yalwythen_domain.specs.Channels.{DomainChannels}

-- its channels, its seats' next tags without their stamps, the greatest stamp, its status, and its last receipt
pub record DomainState : Type 0 where
  pub channels : DomainChannels
  pub tags : List Tag
  pub clock : ℕ
  pub status : TransactionStatus
  pub last : Receipt

-- there are no channels and no seats, and no transaction was committed or is open
pub record IsNew (state : DomainState) : Type 0 where
  pub channels : (state.channels.held ≡ []) × (state.channels.kinds ≡ []) × (state.channels.savepoints ≡ [])
  pub tags : state.tags ≡ []
  pub clock : state.clock ≡ 0
  pub status : state.status ≡ Idle
  pub replies : state.last.replies ≡ []
