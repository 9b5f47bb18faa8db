use Rattle.std.proofs.Common.{◌≡◌, drop, length, take}
use Rattle.yalwythen_domain.specs.Accounts.{account_records}
use Rattle.yalwythen_domain.proofs.account.copy_records.Given as goal

abbrev pub invariant-loop-place : goal.invariant-loop-place
invariant-loop-place l = record {
  so_far : take l.place l.out ≡ take l.place (drop l.from (account_records l.account));
  length : length l.out ≡ length l.initial.out;
}
