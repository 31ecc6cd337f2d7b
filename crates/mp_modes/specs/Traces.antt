-- What a run does to the outside: it asks for names, creates a map and sends texts, in order.
use Rattle.std.specs.Prelude.{◌≡◌, ◌⊎◌, ◌<◌, ℕ, List, [], ◌∷◌, ◌++◌, Option, length, take}
use Rattle.mp_host.specs.World.{World, Asked, SameButInput, mapped, sent}
use Rattle.mp_host.specs.declared.host.Port.{Port}

-- a host as a whole: its world, the names that it was asked for, and its two counts of faults
pub record Outside : Type 0 where
  pub world : World
  pub asked : Option (List (List ℕ))
  pub read_faults : ℕ
  pub write_faults : ℕ

-- the outside that a host stands for, by the four parts of its meaning
abbrev pub outside_of : {Host : Type 0} → (Host → World) → (Host → Option (List (List ℕ))) → (Host → ℕ) → (Host → ℕ) → Host → Outside
outside_of world asked read_faults write_faults host = record { world = world host; asked = asked host; read_faults = read_faults host; write_faults = write_faults host }

-- what a run did so far: the world as it left it, and the names that it asked for
pub record Trace : Type 0 where
  pub world : World
  pub names : List (List ℕ)

-- nothing was done yet
abbrev pub begun : World → Trace
begun w = record { world = w; names = [] }

-- a map of this name is created, or the whole of a text goes out on a port
pub data Step : Type 0 where
  Creates : List ℕ → Step
  Sends : Port → List ℕ → Step

-- a name was asked for, and no more
abbrev pub asking : Trace → List ℕ → Trace
asking t name = record t { names = t.names ++ name ∷ [] }

-- a step was done
abbrev pub stepped : Trace → Step → Trace
stepped t (Creates name) = record { world = mapped t.world; names = t.names ++ name ∷ [] }
stepped t (Sends port text) = record t { world = sent t.world port text }

-- all steps were done, one after the other
abbrev pub after_steps : Trace → List Step → Trace
after_steps t [] = t
after_steps t (step ∷ steps) = after_steps (stepped t step) steps

-- a step failed: the map was asked for and not created, or a front of the text went out that is not all of it
abbrev pub IsCutOff : Trace → Step → Trace → Type 0
IsCutOff t (Creates name) end = end ≡ asking t name
IsCutOff t (Sends port text) end = (count : ℕ) × (count < length text) × (end ≡ stepped t (Sends port (take count text)))

-- some first steps were done, the next one failed, and no further one was begun
abbrev pub AreCutOff : Trace → List Step → Trace → Type 0
AreCutOff t [] end = ⊥
AreCutOff t (step ∷ steps) end = IsCutOff t step end ⊎ AreCutOff (stepped t step) steps end

-- the run left the outside so; of its input nothing is said
pub record IsLeft (t : Trace) (old new : Outside) : Type 0 where
  pub world : SameButInput t.world new.world
  pub names : Asked old.asked new.asked t.names
