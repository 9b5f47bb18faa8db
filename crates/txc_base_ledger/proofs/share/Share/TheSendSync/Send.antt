use denote.Param.Send.{IsSend}
use Rattle.txc_base_ledger.specs.contracts.share.Share.{the_row}
use Rattle.txc_base_ledger.proofs.Fields.{share_keyless}

pub send : IsSend the_row
send = record {
  owned = λ d vs. ((λ vss. (tt, ((λ uss. (tt, tt)), tt))), share_keyless d.name d.whole d.parts d.amount);
  leaving = λ k f vs. tt;
}
