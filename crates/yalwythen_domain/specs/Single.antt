-- The steps of a transaction: one operation, or a list.
use Rattle.std.specs.Prelude.{List, [], ◌∷◌}
use Rattle.txc_txn_check.specs.declared.step.Step.{Step}
use Rattle.txc_txn_check.specs.declared.step.Step.TheVariants.{Do}
use Rattle.yalwythen_domain.specs.declared.raw_steps.Steps.{Steps}
use Rattle.yalwythen_domain.specs.declared.raw_steps.Steps.TheVariants.{One, Many}

-- the steps as a list
abbrev pub list_of_steps : Steps → List Step
list_of_steps (One op) = Do op ∷ []
list_of_steps (Many steps) = steps.items
