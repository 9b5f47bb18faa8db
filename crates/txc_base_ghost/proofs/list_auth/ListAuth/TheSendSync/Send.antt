use denote.RattleType.{RattleType}
use denote.Param.Send.{IsSend}
use Rattle.txc_base_ghost.specs.contracts.list_auth.ListAuth.{the_row}
use Rattle.txc_base_ghost.proofs.Fields.{stands_keyless}

pub send : (E : RattleType) → IsSend (the_row E)
send E = record {
  owned = λ d vs. ((λ vss. (tt, ((λ uss. (tt, tt)), tt))), stands_keyless E.coded.code d.name d.log);
  leaving = λ k f vs. tt;
}
