use Rattle.std.proofs.Common.{◌≢◌, subst, sym}
use Rattle.mp_logic.specs.declared.limits.Limits.{Limits}
use Rattle.mp_wcnf.specs.Refusals.{IsRefused}
use Rattle.mp_wcnf.specs.declared.errors.ReadError.TheVariants as errors
use Rattle.mp_modes.specs.declared.refusal.Refusal.{Refusal}
use Rattle.mp_modes.specs.Instances.{IsReadingFault, IsWantOr}
use Rattle.mp_modes.proofs.Refused.{refused_text}
use Rattle.mp_modes.proofs.instances.read_instance.Goals as goal

pub returns-clause-refused : goal.returns-clause-refused
returns-clause-refused c =
    let At : Limits → Type 0 = λ m. c.in-Err.error ≢ errors.NoMemory → IsRefused m c.args.text c.in-Err.error in
    let Says : Refusal → Type 0 = IsWantOr (IsReadingFault c.args.text) in
    subst Says (sym c.refusal_of.ensures) (refused_text c.args.text c.in-Err.error (subst At c.limits.ensures (rw c.items.ensures at c.in-Err.ensures.refused)))

pub returns-in-Ok-clause-refused : goal.returns-in-Ok-clause-refused
returns-in-Ok-clause-refused c = tt
