-- The inputs of a mode, in the order in which they are read, and how reading them stops.
use Rattle.std.specs.Prelude.{◌≡◌, ◌⊎◌, ◌<◌, ◌≤◌, ℕ, List, [], ◌∷◌, ◌++◌, Option, IfSome, length}
use Rattle.mp_host.specs.World.{World}
use Rattle.mp_modes.specs.Limits.{longest}
use Rattle.mp_modes.specs.Traces.{Trace, asking}
use Rattle.mp_modes.specs.declared.refusal.TextRefusal.{TextRefusal}
use Rattle.mp_modes.specs.declared.refusal.Refusal.{Refusal}
use Rattle.mp_modes.specs.declared.refusal.Refusal.TheVariants as refusals

-- an input: its name, and why its text is refused, given the texts of the inputs before it
pub record Input : Type 1 where
  pub name : List ℕ
  pub Refuses : List (List ℕ) → List ℕ → TextRefusal → Type 0

-- the text is the content of the file of this name, where the host tells that
abbrev pub IsTextOf : World → List ℕ → List ℕ → Type 0
IsTextOf w name text = IfSome (w.file name) (λ content. text ≡ content)

-- nothing is wrong with the text of an input
pub record IsFine (before : List (List ℕ)) (i : Input) (text : List ℕ) : Type 0 where
  pub fits : length text ≤ longest
  pub unrefused : (refusal : TextRefusal) → i.Refuses before text refusal → ⊥

-- the inputs have these texts, each of them fine behind those before it
abbrev pub AreRead : World → List (List ℕ) → List Input → List (List ℕ) → Type 0
AreRead w before [] texts = texts ≡ []
AreRead w before (i ∷ is) [] = ⊥
AreRead w before (i ∷ is) (text ∷ texts) = IsTextOf w i.name text × IsFine before i text × AreRead w (before ++ text ∷ []) is texts

-- the names of the inputs were asked for
abbrev pub after_inputs : Trace → List Input → Trace
after_inputs t [] = t
after_inputs t (i ∷ is) = after_inputs (asking t i.name) is

-- Why reading an input stops a run. A fault in reading and want of memory have causes of their own.
abbrev pub StopsAt : (List ℕ → TextRefusal → Type 0) → Option (List ℕ) → Refusal → Type 0
StopsAt Refuses content refusals.NoMemory = Unit {0}
StopsAt Refuses content refusals.ReadFault = Unit {0}
StopsAt Refuses content refusals.TooLong = IfSome content (λ text. longest < length text)
StopsAt Refuses content (refusals.Text refusal) = IfSome content (λ text. (length text ≤ longest) × Refuses text refusal)
StopsAt Refuses content refusals.Usage = ⊥

-- A run stops with this refusal at the first input that isn't fine, and has asked for the names up to that one. Behind the
-- last input only memory can be wanting.
abbrev pub Stops : Trace → List (List ℕ) → List Input → Refusal → Trace → Type 0
Stops t before [] refusal end = (refusal ≡ refusals.NoMemory) × (end ≡ t)
Stops t before (i ∷ is) refusal end =
    (StopsAt (i.Refuses before) (t.world.file i.name) refusal × (end ≡ asking t i.name))
    ⊎ ((text : List ℕ) × IsTextOf t.world i.name text × IsFine before i text × Stops (asking t i.name) (before ++ text ∷ []) is refusal end)

-- a text was read whole, it fits, and this holds of it
abbrev pub IsReadAs : World → List ℕ → (List ℕ → Type 0) → Type 0
IsReadAs w name P = (text : List ℕ) × IsTextOf w name text × (length text ≤ longest) × P text
