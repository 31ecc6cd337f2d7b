-- What a host means: the world that it stands for, the names that it was asked for, and its counts of faults.
use Rattle.std.specs.Prelude.{◌≡◌, ℕ, ◌-◌, ◌^◌, ◌≤◌, Bool, true, List, [], ◌∷◌, ◌++◌, Some, None, OnErr, Result, Option}
use Rattle.std.specs.Option.{option_map}
use Rattle.mp_host.specs.declared.host.Port.{Port}
use Rattle.mp_host.specs.declared.host.Port.TheVariants.{Out, Log, Map}

-- The files by name, the rest of the open input and the bytes on each port, each none where the host doesn't tell it
-- (or holds no file of the name), and two marks: whether an input is open, and whether a map was created.
pub record World : Type 0 where
  pub file : List ℕ → Option (List ℕ)
  pub rest : Option (List ℕ)
  pub out : Option (List ℕ)
  pub log : Option (List ℕ)
  pub map : Option (List ℕ)
  pub is_open : Bool
  pub has_map : Bool

-- the told bytes with these before them, and nothing told where nothing was
abbrev pub before_told : List ℕ → Option (List ℕ) → Option (List ℕ)
before_told front told = option_map (λ bytes. front ++ bytes) told

-- the told bytes with these after them, and nothing told where nothing was
abbrev pub after_told : Option (List ℕ) → List ℕ → Option (List ℕ)
after_told told more = option_map (λ bytes. bytes ++ more) told

-- no bytes at all, where bytes are told
abbrev pub emptied : Option (List ℕ) → Option (List ℕ)
emptied told = option_map (λ _. []) told

-- the world once the file of this name is the open input
abbrev pub opened : World → List ℕ → World
opened w name = record w { rest = w.file name; is_open = true }

-- the world once the Map port is an empty file
abbrev pub mapped : World → World
mapped w = record w { map = emptied w.map; has_map = true }

-- the world once these bytes went out on a port
abbrev pub sent : World → Port → List ℕ → World
sent w Out bytes = record w { out = after_told w.out bytes }
sent w Log bytes = record w { log = after_told w.log bytes }
sent w Map bytes = record w { map = after_told w.map bytes }

-- nothing but the rest of the input and its mark differs
abbrev pub SameButInput : World → World → Type 0
SameButInput old new = new ≡ record old { rest = new.rest; is_open = new.is_open }

-- The names asked for are these more. They may cease to be told where there are some, and are never told anew.
abbrev pub Asked : Option (List (List ℕ)) → Option (List (List ℕ)) → List (List ℕ) → Type 0
Asked old new [] = new ≡ old
Asked old None (name ∷ names) = Unit {0}
Asked None (Some now) (name ∷ names) = ⊥
Asked (Some before) (Some now) (name ∷ names) = now ≡ before ++ name ∷ names

-- the last value of a count of faults
abbrev pub last_count : ℕ
last_count = 2 ^ 64 - 1

-- the count rose, or it stands at its last value
abbrev pub Rose : ℕ → ℕ → Type 0
Rose before now = now ≤ before → now ≡ last_count

-- the count doesn't fall, and where the answer is an error it rose
pub record HasCause {T E : Type 0} (before now : ℕ) (result : Result T E) : Type 0 where
  pub later : before ≤ now
  pub failed : OnErr result (Rose before now)
