use Rattle.std.proofs.Common.{◌≡◌, ◌≤◌, ℕ, All, ap, false, length, replicate, subst, sym, take, ◌∙◌}
use Rattle.std.proofs.lemmas.List.{length-replicate}
use Rattle.mp_logic.specs.Carrying.{named}
use Rattle.mp_logic.specs.Literal.{IsUpTo}
use Rattle.mp_logic.specs.Repairs.{repaired}
use Rattle.mp_map.specs.Entries.{repairs_of}
use Rattle.mp_map.specs.declared.maps.MapFile.{MapFile}
use Rattle.mp_map.proofs.Mending.{mended-repairs, proper_count, sets_within}
use Rattle.mp_map.proofs.Rooms.{names_within}
use Rattle.mp_map.proofs.reconstruct.back.Goals as goal

pub name-requires : goal.name-requires
name-requires c =
    let size : length c.clear.new.room ≡ c.args.map.now.inner = ap length c.clear.ensures ∙ length-replicate _ false ∙ c.requires.room in
    subst (λ (n : ℕ). All (λ name. (1 ≤ name) × (name ≤ n)) c.args.map.now.names) (sym size) (names_within 0 c.args.map.now.inner c.args.map.now.names c.requires.valid.names_rising)

pub apply_entries-requires : goal.apply_entries-requires
apply_entries-requires c =
    let m : MapFile = c.args.map.now in
    let size : length c.name.new.room ≡ m.inner = c.name.ensures.len ∙ ap length c.clear.ensures ∙ length-replicate _ false ∙ c.requires.room in
    subst (λ (n : ℕ). All (λ e. All (IsUpTo n) e.sets) m.repairs) (sym size) (sets_within m.version m.inner m.repairs c.requires.valid.entries_fit c.requires.valid.repairs_proper)

pub returns-clause-repairs : goal.returns-clause-repairs
returns-clause-repairs c =
    let m : MapFile = c.args.map.now in
    c.cut.ensures
    ∙ ap (take m.original)
    (c.apply_entries.ensures.value
    ∙ mended-repairs m.repairs _ (proper_count m.inner (repairs_of m.repairs) c.requires.valid.repairs_proper)
    ∙ ap (repaired (repairs_of m.repairs)) (c.name.ensures.value ∙ ap (named m.names c.args.values.now) (c.clear.ensures ∙ ap (λ (n : ℕ). replicate n false) c.requires.room)))
