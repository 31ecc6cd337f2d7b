use Rattle.std.proofs.Common.{◌≡◌, All, List, ap, cond, false, map, true, ◌∙◌}
use Rattle.std.proofs.lemmas.Result.{IfOk-weaker}
use Rattle.mp_logic.specs.declared.instances.Repair.{Repair}
use Rattle.mp_map.specs.Entries.{entry_of, joined, repairs_of}
use Rattle.mp_map.proofs.Joins.{Fits, joined_are_fit, repairs_of-entries_of, single_are_fit}
use Rattle.mp_map.proofs.joining.entries.Goals as goal

pub returns-then-join-clause-stand : goal.returns-then-join-clause-stand
returns-then-join-clause-stand c =
    let rs : List Repair = c.args.repairs.now in
    IfOk-weaker c.joined_entries.result (λ made. made ≡ joined (map entry_of rs)) (λ made. repairs_of made ≡ rs) (λ made e. ap repairs_of e ∙ repairs_of-entries_of true rs) c.joined_entries.ensures

pub returns-then-join-clause-fit : goal.returns-then-join-clause-fit
returns-then-join-clause-fit c =
    let rs : List Repair = c.args.repairs.now in
    IfOk-weaker c.joined_entries.result (λ made. made ≡ joined (map entry_of rs)) (All (Fits (cond c.args.join 2 1))) (λ made e. joined_are_fit c.args.join rs made c.if-join.true e) c.joined_entries.ensures

pub returns-else-join-clause-stand : goal.returns-else-join-clause-stand
returns-else-join-clause-stand c =
    let rs : List Repair = c.args.repairs.now in
    IfOk-weaker c.single_entries.result (λ made. made ≡ map entry_of rs) (λ made. repairs_of made ≡ rs) (λ made e. ap repairs_of e ∙ repairs_of-entries_of false rs) c.single_entries.ensures

pub returns-else-join-clause-fit : goal.returns-else-join-clause-fit
returns-else-join-clause-fit c =
    let rs : List Repair = c.args.repairs.now in
    IfOk-weaker c.single_entries.result (λ made. made ≡ map entry_of rs) (All (Fits (cond c.args.join 2 1))) (λ made e. single_are_fit c.args.join rs made c.if-join.false e) c.single_entries.ensures
