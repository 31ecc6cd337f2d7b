-- What a letter leaves nothing of, and the counts, in states that are alike: a line for each letter.
use Rattle.std.proofs.Common.{ℕ, length, map, sum_by, ap, ◌∙◌}
use Rattle.std.proofs.lemmas.List.{length-map}
use Rattle.std.proofs.lemmas.List.Sorted.{length_permutation}
use Rattle.mp_script.specs.declared.scripts.Letter.TheVariants.{U, F, P, B, S, R, V, E, L, Gr, M, C, Amo, T, K, H}
use Rattle.mp_engine.specs.Alike.{numbered, numbered_cost, EndStatesMove, CountsMove}
use Rattle.mp_engine.proofs.Alike.{no_units_move, no_blocked_move, none_subsumed_move, no_strengthened_move, none_eliminable_move, sum_moves}
use Rattle.mp_engine.proofs.AlikeSteps.{none_equivalent_move}
use Rattle.mp_engine.proofs.AlikeLabels.{none_covered_move, no_core_move, no_matching_move}
use Rattle.mp_engine.proofs.AlikeGroups.{none_group_covered_move}
use Rattle.mp_engine.proofs.AlikePairs.{no_label_pair_move}
use Rattle.mp_engine.proofs.AlikeFailed.{no_failed_move, no_implied_pair_move}
use Rattle.mp_engine.proofs.AlikeProbes.{each_false_move, no_pair_core_move, hardened_move}

pub end_states_move : EndStatesMove
end_states_move U u s t a h = no_units_move s t a h
end_states_move F u s t a h = no_failed_move s t a h
end_states_move P u s t a h = no_implied_pair_move s t a h
end_states_move B u s t a h = no_blocked_move s t a h
end_states_move S u s t a h = none_subsumed_move s t a h
end_states_move R u s t a h = no_strengthened_move s t a h
end_states_move V u s t a h = none_eliminable_move s t a h
end_states_move E u s t a h = none_equivalent_move s t a h
end_states_move L u s t a h = none_covered_move s t a h
end_states_move Gr u s t a h = none_group_covered_move s t a h
end_states_move M u s t a h = no_matching_move s t a h
end_states_move C u s t a h = no_core_move s t a h
end_states_move Amo u s t a h = no_label_pair_move s t a h
end_states_move T u s t a h = each_false_move s t a h
end_states_move K u s t a h = no_pair_core_move s t a h
end_states_move H u s t a h = hardened_move u s t a h

-- clauses, literals and costs
pub counts_move : CountsMove
counts_move s t a =
    let ms = map (map (numbered a.number)) s.hard in
    let clauses = length_permutation ms t.hard a.hard ∙ length-map s.hard (map (numbered a.number)) in
    let literals = sum_moves s t a (λ c. length c) (λ c. length c) (λ c own. length-map c (numbered a.number)) in
    let costs = length_permutation (map (numbered_cost a.number) s.costs) t.costs a.costs ∙ length-map s.costs (numbered_cost a.number) in
    ap (λ (k : ℕ). record { clauses = k; literals = sum_by length t.hard; costs = length t.costs }) clauses
    ∙ (ap (λ (k : ℕ). record { clauses = length s.hard; literals = k; costs = length t.costs }) literals
    ∙ ap (λ (k : ℕ). record { clauses = length s.hard; literals = sum_by length s.hard; costs = k }) costs)
