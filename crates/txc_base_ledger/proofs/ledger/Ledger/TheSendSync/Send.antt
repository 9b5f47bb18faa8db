use denote.Param.Send.{IsSend}
use Rattle.txc_base_ledger.specs.contracts.ledger.Ledger.{the_row}
use Rattle.txc_base_ledger.proofs.Fields.{ledger_keyless}

pub send : IsSend the_row
send = record {
  owned = λ d vs. ((λ vss. (tt, ((λ uss. (tt, tt)), tt))), ledger_keyless d.name d.whole d.total);
  leaving = λ k f vs. tt;
}
