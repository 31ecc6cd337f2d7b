-- How a mode reads its inputs one after the other, from what reading one file says.
use Rattle.std.proofs.Common.{◌≡◌, ◌≤◌, ℕ, List, [], ◌∷◌, ◌++◌, Option, IfSome, length, refl, ap, sym, ◌∙◌, subst, inl, inr, append_assoc}
use Rattle.std.proofs.lemmas.List.{append-nil}
use Rattle.std.proofs.lemmas.Option.{IfSome_then}
use Rattle.mp_host.specs.World.{World, Asked, SameButInput}
use Rattle.mp_engine.specs.declared.done.Done.{Done}
use Rattle.mp_modes.specs.Inputs.{Input, AreRead, IsFine, IsReadAs, IsTextOf, Stops, StopsAt, after_inputs}
use Rattle.mp_modes.specs.Instances.{IsWantOr}
use Rattle.mp_modes.specs.Limits.{longest}
use Rattle.mp_modes.specs.Outputs.{steps_of}
use Rattle.mp_modes.specs.Running.{Mode, Prepares, StopsReading}
use Rattle.mp_modes.specs.Traces.{Outside, Trace, begun, asking, IsLeft}
use Rattle.mp_modes.specs.declared.outputs.Outputs.{Outputs}
use Rattle.mp_modes.specs.declared.refusal.Refusal.{Refusal}
use Rattle.mp_modes.specs.declared.refusal.Refusal.TheVariants as refusals
use Rattle.mp_modes.specs.declared.refusal.TextRefusal.{TextRefusal}
use Rattle.mp_modes.proofs.Traced.{left-asked, left-begun}

-- what refuses a text by one relation does so by a wider one
pub stops_more : (P Q : List ℕ → TextRefusal → Type 0) (content : Option (List ℕ)) (r : Refusal) → ((text : List ℕ) (x : TextRefusal) → P text x → Q text x) → StopsAt P content r → StopsAt Q content r
stops_more P Q content refusals.NoMemory f h = tt
stops_more P Q content refusals.ReadFault f h = tt
stops_more P Q content refusals.TooLong f h = h
stops_more P Q content (refusals.Text x) f h = IfSome_then content h (λ text p. (p.0, f text x p.1))
stops_more P Q content refusals.Usage f h = absurd h

-- a text that was read is refused
pub stops_text : (P : TextRefusal → Type 0) (Q : List ℕ → TextRefusal → Type 0) (content : Option (List ℕ)) (text : List ℕ) (r : Refusal) → IfSome content (λ c. text ≡ c) → length text ≤ longest
    → ((x : TextRefusal) → P x → Q text x) → IsWantOr P r → StopsAt Q content r
stops_text P Q content text refusals.NoMemory same fits f h = tt
stops_text P Q content text (refusals.Text x) same fits f h = IfSome_then content same (λ c e. let R : List ℕ → Type 0 = λ t. (length t ≤ longest) × Q t x in subst R e (fits, f x h))
stops_text P Q content text refusals.ReadFault same fits f h = absurd h
stops_text P Q content text refusals.TooLong same fits f h = absurd h
stops_text P Q content text refusals.Usage same fits f h = absurd h

-- what was read of a file is what is said of it
pub read_as : (w : World) (name text : List ℕ) (Q : List ℕ → Type 0) → IsTextOf w name text → length text ≤ longest → Q text → IsReadAs w name Q
read_as w name text Q told fits h = (text, told, fits, h)

pub unread_stops : (Q : List ℕ → TextRefusal → Type 0) (content : Option (List ℕ)) (r : Refusal) → StopsAt (λ _ _. ⊥) content r → StopsAt Q content r
unread_stops Q content r h = stops_more (λ _ _. ⊥) Q content r (λ text x none. absurd none) h

pub read_refused : (Q : List ℕ → TextRefusal → Type 0) (content : Option (List ℕ)) (text : List ℕ) (x : TextRefusal) → IfSome content (λ c. text ≡ c) → length text ≤ longest → Q text x → StopsAt Q content (refusals.Text x)
read_refused Q content text x told fits h = IfSome_then content told (λ c e. let R : List ℕ → Type 0 = λ t. (length t ≤ longest) × Q t x in subst R e (fits, h))

-- one more input was read behind others
read_more : (w : World) (before : List (List ℕ)) (is : List Input) (texts : List (List ℕ)) (i : Input) (text : List ℕ) → AreRead w before is texts → IsTextOf w i.name text
    → IsFine (before ++ texts) i text → AreRead w before (is ++ i ∷ []) (texts ++ text ∷ [])
read_more w before [] texts i text h told fine =
    let Goal : List (List ℕ) → Type 0 = λ ts. IsFine (before ++ ts) i text → AreRead w before (i ∷ []) (ts ++ text ∷ []) in
    let Fine : List (List ℕ) → Type 0 = λ b. IsFine b i text in
    let here : Goal [] = λ f. (told, subst Fine (append-nil before) f, refl) in
    subst Goal (sym h) here fine
read_more w before (j ∷ is) [] i text h told fine = absurd h
read_more w before (j ∷ is) (t ∷ ts) i text h told fine =
    let Fine : List (List ℕ) → Type 0 = λ b. IsFine b i text in
    (h.0, h.1, read_more w (before ++ t ∷ []) is ts i text h.2 told (subst Fine (sym (append_assoc before (t ∷ []) ts)) fine))

-- a run stops at an input behind others that were read
stops_behind : (t : Trace) (before : List (List ℕ)) (is : List Input) (texts : List (List ℕ)) (i : Input) (later : List Input) (r : Refusal) → AreRead t.world before is texts
    → StopsAt (i.Refuses (before ++ texts)) (t.world.file i.name) r → Stops t before (is ++ i ∷ later) r (asking (after_inputs t is) i.name)
stops_behind t before [] texts i later r h cause =
    let At : List (List ℕ) → Type 0 = λ b. StopsAt (i.Refuses b) (t.world.file i.name) r in
    inl (subst At (ap (λ (ts : List (List ℕ)). before ++ ts) h ∙ append-nil before) cause, refl)
stops_behind t before (j ∷ is) [] i later r h cause = absurd h
stops_behind t before (j ∷ is) (text ∷ texts) i later r h cause =
    let At : List (List ℕ) → Type 0 = λ b. StopsAt (i.Refuses b) (t.world.file i.name) r in
    inr (text, h.0, h.1, stops_behind (asking t j.name) (before ++ text ∷ []) is texts i later r h.2 (subst At (sym (append_assoc before (text ∷ []) texts)) cause))

-- behind its last input a run stops for want of memory
stops_last : (t : Trace) (before : List (List ℕ)) (is : List Input) (texts : List (List ℕ)) → AreRead t.world before is texts → Stops t before is refusals.NoMemory (after_inputs t is)
stops_last t before [] texts h = (refl, refl)
stops_last t before (j ∷ is) [] h = absurd h
stops_last t before (j ∷ is) (text ∷ texts) h = inr (text, h.0, h.1, stops_last (asking t j.name) (before ++ text ∷ []) is texts h.2)

after_more : (t : Trace) (is : List Input) (i : Input) → after_inputs t (is ++ i ∷ []) ≡ asking (after_inputs t is) i.name
after_more t [] i = refl
after_more t (j ∷ is) i = after_more (asking t j.name) is i

-- a run has read these inputs, with these texts
pub record HasRead (old mid : Outside) (is : List Input) (texts : List (List ℕ)) : Type 0 where
  pub read : AreRead old.world [] is texts
  pub left : IsLeft (after_inputs (begun old.world) is) old mid
  pub file : (name : List ℕ) → mid.world.file name ≡ old.world.file name

-- it has read none yet
pub none_read : (old : Outside) → HasRead old old [] []
none_read old = record { read = refl; left = left-begun old; file = λ name. refl }

-- it has read one more
pub one_read : (old mid new : Outside) (is : List Input) (texts : List (List ℕ)) (i : Input) (text : List ℕ) → HasRead old mid is texts → IsTextOf mid.world i.name text
    → IsFine texts i text → SameButInput mid.world new.world → Asked mid.asked new.asked (i.name ∷ []) → HasRead old new (is ++ i ∷ []) (texts ++ text ∷ [])
one_read old mid new is texts i text h told fine frame names = record {
  read = let Told : Option (List ℕ) → Type 0 = λ content. IfSome content (λ c. text ≡ c) in read_more old.world [] is texts i text h.read (subst Told (h.file i.name) told) fine;
  left = let At : Trace → Type 0 = λ t. IsLeft t old new in subst At (sym (after_more (begun old.world) is i)) (left-asked (after_inputs (begun old.world) is) old mid new i.name h.left frame names);
  file = λ name. ap (λ (w : World). w.file name) frame ∙ h.file name;
}

-- the next input stops it
pub next_stops : (mode : Mode) (old mid new : Outside) (is : List Input) (texts : List (List ℕ)) (i : Input) (later : List Input) (r : Refusal) → mode.inputs ≡ is ++ i ∷ later → HasRead old mid is texts
    → StopsAt (i.Refuses texts) (mid.world.file i.name) r → SameButInput mid.world new.world → Asked mid.asked new.asked (i.name ∷ []) → StopsReading mode old new r
next_stops mode old mid new is texts i later r inputs h cause frame names = record {
  end = asking (after_inputs (begun old.world) is) i.name;
  stops =
      let At : Option (List ℕ) → Type 0 = λ content. StopsAt (i.Refuses texts) content r in
      let Stop : List Input → Type 0 = λ js. Stops (begun old.world) [] js r (asking (after_inputs (begun old.world) is) i.name) in
      subst Stop (sym inputs) (stops_behind (begun old.world) [] is texts i later r h.read (subst At (h.file i.name) cause));
  left = left-asked (after_inputs (begun old.world) is) old mid new i.name h.left frame names;
}

-- the next input is refused, once it was read
pub next_refused : (mode : Mode) (old mid new : Outside) (is : List Input) (texts : List (List ℕ)) (i : Input) (later : List Input) (text : List ℕ) (P : TextRefusal → Type 0) (r : Refusal) → mode.inputs ≡ is ++ i ∷ later
    → HasRead old mid is texts → IsTextOf mid.world i.name text → length text ≤ longest → ((x : TextRefusal) → P x → i.Refuses texts text x) → IsWantOr P r
    → SameButInput mid.world new.world → Asked mid.asked new.asked (i.name ∷ []) → StopsReading mode old new r
next_refused mode old mid new is texts i later text P r inputs h told fits f cause frame names =
    next_stops mode old mid new is texts i later r inputs h (stops_text P (i.Refuses texts) (mid.world.file i.name) text r told fits f cause) frame names

-- memory is wanting behind the last one
pub memory_wants : (mode : Mode) (old new : Outside) (texts : List (List ℕ)) → HasRead old new mode.inputs texts → StopsReading mode old new refusals.NoMemory
memory_wants mode old new texts h = record {
  end = after_inputs (begun old.world) mode.inputs;
  stops = stops_last (begun old.world) [] mode.inputs texts h.read;
  left = h.left;
}

-- right texts are built behind the last one
pub texts_built : (mode : Mode) (old new : Outside) (texts : List (List ℕ)) (outputs : Outputs) → HasRead old new mode.inputs texts → mode.IsRight texts outputs.done (steps_of outputs) → Prepares mode old new outputs
texts_built mode old new texts outputs h right = record {
  prepared = record { texts = texts; read = h.read; right = right };
  left = h.left;
}
