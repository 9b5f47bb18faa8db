-- What `==` says of accounts: it is true exactly where they are equal.
use Rattle.std.proofs.Common.{◌≡◌, refl, ap, rules, Decides}
use Rattle.std.proofs.lemmas.Bool.Decides.{Decides-and, Decides-eqb, Decides-like}
use Rattle.std.proofs.lemmas.Slice.Eq.{slice_eq-Decides}
use Rattle.txc_base.specs.declared.kind.Kind.{Kind}
use Rattle.txc_base.specs.contracts.kind.KindPartialEq.TheImpl as kind
use Rattle.txc_base.proofs.Deciding.{decides_entry, decides_item}
use Rattle.txc_chan.specs.declared.account.Account.{Account}
use Rattle.txc_chan.specs.contracts.account.AccountPartialEq.TheImpl as account

-- of kinds
decides_kind : (a b : Kind) → Decides (kind.eq-value.it a b) (a ≡ b)
decides_kind a b = search rules

-- of accounts
pub decides_account : (a b : Account) → Decides (account.eq-value.it a b) (a ≡ b)
decides_account a b =
    Decides-like _
    (λ p j. record {
      kind = p.0 j;
      bound = p.1.0 j;
      first_readers = p.1.1.0 j;
      closed = p.1.1.1.0 j;
      log = p.1.1.1.1.0 j;
      remaining = p.1.1.1.1.1.0 j;
      slots = p.1.1.1.1.1.1 j;
    })
    (λ e. (
      ap (λ (x : Account). x.kind) e,
      (
        ap (λ (x : Account). x.bound) e,
        (
          ap (λ (x : Account). x.first_readers) e,
          (
            ap (λ (x : Account). x.closed) e,
            (ap (λ (x : Account). x.log) e, (ap (λ (x : Account). x.remaining) e, ap (λ (x : Account). x.slots) e)),
          ),
        ),
      ),
    ))
    (Decides-and _ _ (decides_kind a.kind b.kind)
    (Decides-and _ _ (Decides-eqb a.bound b.bound) (Decides-and _ _ (Decides-eqb a.first_readers b.first_readers)
    (Decides-and _ _ (search rules) (Decides-and _ _ (slice_eq-Decides decides_entry a.log b.log _ refl)
    (Decides-and _ _ (slice_eq-Decides (λ x y. slice_eq-Decides decides_item x y _ refl) a.remaining b.remaining _ refl)
    (slice_eq-Decides Decides-eqb a.slots b.slots _ refl)))))))
