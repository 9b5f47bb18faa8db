-- A domain in a contract, with recorded or unrecorded logs.
use Rattle.std.specs.Prelude.{◌≡◌, ◌≢◌, ℕ, Bool, true, false, List}
use Rattle.yalwythen_domain.specs.declared.account.Record.{Record}
use Rattle.yalwythen_domain.specs.declared.any.Domain.{Domain}
use Rattle.yalwythen_domain.specs.declared.any.Domain.TheVariants.{Unrecorded, Recorded}
use Rattle.yalwythen_domain.specs.declared.raw_steps.RawStep.{RawStep}
use Rattle.yalwythen_domain.specs.declared.call_result.CallResult.{CallResult}
use Rattle.yalwythen_domain.specs.Accounts.{HasRecords, account_of_domain}
use Rattle.yalwythen_domain.specs.Domain.{DomainState, IsNew}
use Rattle.yalwythen_domain.specs.RawSteps.{HasItems, reply_in}
use Rattle.yalwythen_domain.specs.Requests.{HasAnswered, HasTransacted}

-- the state of a domain
abbrev pub state_in : Domain → DomainState
state_in (Unrecorded state) = state
state_in (Recorded state) = state

-- whether its logs are recorded
abbrev pub is_recorded : Domain → Bool
is_recorded (Unrecorded state) = false
is_recorded (Recorded state) = true

-- a domain without channels and seats, whose logs are recorded or not
abbrev pub IsNewDomain : Bool → Domain → Type 0
IsNewDomain records domain = (is_recorded domain ≡ records) × IsNew (state_in domain)

-- what the request with this number and these arguments did to a domain, and what it returned
pub record AnswersRequest (request : ℕ) (a : ℕ) (b : ℕ) (old : Domain) (new : Domain) (response : CallResult) : Type 0
  where
    pub answered : HasAnswered request a b (is_recorded old) (state_in old) (state_in new) response
    pub records : is_recorded new ≡ is_recorded old

-- what a transaction with these raw steps did to a domain and to the array for its replies, and what it returned
pub record Transacts (seat : ℕ) (raw_steps : List RawStep) (old : Domain) (new : Domain)
    (out : List CallResult) (out' : List CallResult) (response : CallResult) : Type 0 where
  pub transacted : HasTransacted seat raw_steps (state_in old) (state_in new) out out' response
  pub records : is_recorded new ≡ is_recorded old

-- the result of reading a reply's items from a place on, and the array for them before and after
abbrev pub TellsItems : ℕ → ℕ → Domain → List ℕ → List ℕ → CallResult → Type 0
TellsItems reply from domain out out' response = HasItems (reply_in (state_in domain) reply) from out out' response

-- the result of reading a channel's account, and the array before and after, unless an allocation failed
abbrev pub TellsRecords : ℕ → ℕ → Domain → List Record → List Record → CallResult → Type 0
TellsRecords chan from domain out out' response =
    response.code ≢ 5 → HasRecords (account_of_domain (is_recorded domain) (state_in domain) chan) from out out'
    response
