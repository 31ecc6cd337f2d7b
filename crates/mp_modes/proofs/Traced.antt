-- What a run did, step by step.
use Rattle.std.proofs.Common.{◌≡◌, ◌≢◌, ◌⊎◌, ◌<◌, ◌≤◌, ◌+◌, ℕ, Bool, true, false, cond, List, [], ◌∷◌, ◌++◌, Option, Some, None, length, take, string_bytes, refl, ap, sym, ◌∙◌, subst, inl, inr, arith, append_assoc}
use Rattle.std.specs.Prelude.{nat_lt}
use Rattle.std.proofs.lemmas.Bool.{lt-ltb, le-ltb}
use Rattle.std.proofs.lemmas.List.{take_all, append-nil}
use Rattle.std.proofs.Math.Seq.{take-length}
use Rattle.mp_host.specs.World.{World, Asked, SameButInput, mapped, sent}
use Rattle.mp_host.specs.declared.host.Port.{Port}
use Rattle.mp_host.specs.declared.host.Port.TheVariants as ports
use Rattle.mp_host.proofs.Worlds.{Asked-trans}
use Rattle.mp_modes.specs.Outputs.{map_steps, steps_of}
use Rattle.mp_modes.specs.Refusals.{HasFixedLine, faults_of, line_of, status_of}
use Rattle.mp_modes.specs.Running.{Does, DoesPart, Says, IsSaid, unsaid}
use Rattle.mp_modes.specs.Traces.{Outside, Trace, Step, Creates, Sends, begun, asking, stepped, after_steps, IsCutOff, AreCutOff, IsLeft}
use Rattle.mp_modes.specs.declared.outputs.MapText.{MapText}
use Rattle.mp_modes.specs.declared.outputs.Outputs.{Outputs}
use Rattle.mp_modes.specs.declared.refusal.Refusal.{Refusal}
use Rattle.mp_modes.specs.declared.refusal.Refusal.TheVariants as refusals
use Rattle.mp_modes.specs.declared.refusal.TextRefusal.{TextRefusal}
use Rattle.mp_modes.specs.declared.status.Outcome.{Outcome}

-- the same but the input, twice
pub same_input-trans : (a b c : World) → SameButInput a b → SameButInput b c → SameButInput a c
same_input-trans a b c p q = q ∙ ap (λ (w : World). let v : World = record w { rest = c.rest; is_open = c.is_open } in v) p

-- a text that goes out differs in no input
same_input-sent : (a b : World) (port : Port) (text : List ℕ) → SameButInput a b → SameButInput (sent a port text) (sent b port text)
same_input-sent a b ports.Out text p = ap (λ (w : World). sent w ports.Out text) p
same_input-sent a b ports.Log text p = ap (λ (w : World). sent w ports.Log text) p
same_input-sent a b ports.Map text p = ap (λ (w : World). sent w ports.Map text) p

same_input-mapped : (a b : World) → SameButInput a b → SameButInput (mapped a) (mapped b)
same_input-mapped a b p = ap mapped p

-- nothing was asked for
asked_nothing : (first old new : Option (List (List ℕ))) (names : List (List ℕ)) → Asked first old names → new ≡ old → Asked first new names
asked_nothing first old new names h q = let P : Option (List (List ℕ)) → Type 0 = λ o. Asked first o names in subst P (sym q) h

-- a text went out
pub left-sent : (t : Trace) (first old new : Outside) (port : Port) (text : List ℕ) → IsLeft t first old → new.world ≡ sent old.world port text → new.asked ≡ old.asked → IsLeft (stepped t (Sends port text)) first new
left-sent t first old new port text h w a = record {
  world = let P : World → Type 0 = λ v. SameButInput (sent t.world port text) v in subst P (sym w) (same_input-sent t.world old.world port text h.world);
  names = asked_nothing first.asked old.asked new.asked t.names h.names a;
}

-- a map was created
pub left-created : (t : Trace) (first old new : Outside) (name : List ℕ) → IsLeft t first old → new.world ≡ mapped old.world → Asked old.asked new.asked (name ∷ []) → IsLeft (stepped t (Creates name)) first new
left-created t first old new name h w a = record {
  world = let P : World → Type 0 = λ v. SameButInput (mapped t.world) v in subst P (sym w) (same_input-mapped t.world old.world h.world);
  names = Asked-trans first.asked old.asked new.asked t.names (name ∷ []) h.names a;
}

-- a name was asked for, and nothing but the input differs
pub left-asked : (t : Trace) (first old new : Outside) (name : List ℕ) → IsLeft t first old → SameButInput old.world new.world → Asked old.asked new.asked (name ∷ []) → IsLeft (asking t name) first new
left-asked t first old new name h w a = record {
  world = same_input-trans t.world old.world new.world h.world w;
  names = Asked-trans first.asked old.asked new.asked t.names (name ∷ []) h.names a;
}

-- nothing was done
pub left-same : (t : Trace) (first old new : Outside) → IsLeft t first old → new.world ≡ old.world → new.asked ≡ old.asked → IsLeft t first new
left-same t first old new h w a = record {
  world = let P : World → Type 0 = λ v. SameButInput t.world v in subst P (sym w) h.world;
  names = asked_nothing first.asked old.asked new.asked t.names h.names a;
}

-- nothing was done yet
pub left-begun : (old : Outside) → IsLeft (begun old.world) old old
left-begun old = record { world = refl; names = refl }

-- some steps, and then others
after_steps-append : (t : Trace) (xs ys : List Step) → after_steps t (xs ++ ys) ≡ after_steps (after_steps t xs) ys
after_steps-append t [] ys = refl
after_steps-append t (x ∷ xs) ys = after_steps-append (stepped t x) xs ys

-- steps that are cut off are so before others
cut-front : (t : Trace) (xs ys : List Step) (end : Trace) → AreCutOff t xs end → AreCutOff t (xs ++ ys) end
cut-front t [] ys end h = absurd h
cut-front t (x ∷ xs) ys end h = elim h [ inl e ↦ inl e | inr r ↦ inr (cut-front (stepped t x) xs ys end r) ]

-- and behind others
cut-later : (t : Trace) (xs ys : List Step) (end : Trace) → AreCutOff (after_steps t xs) ys end → AreCutOff t (xs ++ ys) end
cut-later t [] ys end h = h
cut-later t (x ∷ xs) ys end h = inr (cut-later (stepped t x) xs ys end h)

-- an outside of which only the world and the names are looked at
abbrev seen : World → Option (List (List ℕ)) → Outside
seen w a = record { world = w; asked = a; read_faults = 0; write_faults = 0 }

-- the whole map was written
pub map_written : (given : Option MapText) (map : MapText) (old new : Outside) (w : World) (a : Option (List (List ℕ))) → given ≡ Some map → w ≡ mapped old.world → Asked old.asked a ((string_bytes map.name) ∷ [])
    → new.world ≡ sent w ports.Map map.text → new.asked ≡ a → Does (map_steps given) old new
map_written given map old new w a is created named out same = λ t first h.
    let P : Option MapText → Type 0 = λ m. IsLeft (after_steps t (map_steps m)) first new in
    subst P (sym is) (left-sent (stepped t (Creates (string_bytes map.name))) first (seen w a) new ports.Map map.text (left-created t first old (seen w a) (string_bytes map.name) h created named) out same)

-- no map was created
pub map_missed : (given : Option MapText) (map : MapText) (old new : Outside) → given ≡ Some map → new.world ≡ old.world → Asked old.asked new.asked ((string_bytes map.name) ∷ []) → DoesPart (map_steps given) old new
map_missed given map old new is same named = λ t first h.
    let P : Option MapText → Type 0 = λ m. (end : Trace) × AreCutOff t (map_steps m) end × IsLeft end first new in
    let frame : SameButInput old.world new.world = let P : World → Type 0 = λ v. SameButInput old.world v in subst P (sym same) refl in
    subst P (sym is) (asking t (string_bytes map.name), inl refl, left-asked t first old new (string_bytes map.name) h frame named)

-- a front of the map was written
pub map_cut_off : (given : Option MapText) (map : MapText) (old new : Outside) (w : World) (a : Option (List (List ℕ))) (n : ℕ) → given ≡ Some map → w ≡ mapped old.world → Asked old.asked a ((string_bytes map.name) ∷ []) → n < length map.text
    → new.world ≡ sent w ports.Map (take n map.text) → new.asked ≡ a → DoesPart (map_steps given) old new
map_cut_off given map old new w a n is created named short out same = λ t first h.
    let P : Option MapText → Type 0 = λ m. (end : Trace) × AreCutOff t (map_steps m) end × IsLeft end first new in
    let s = stepped t (Creates (string_bytes map.name)) in
    subst P (sym is)
    (stepped s (Sends ports.Map (take n map.text)), inr (inl (n, short, refl)), left-sent s first (seen w a) new ports.Map (take n map.text) (left-created t first old (seen w a) (string_bytes map.name) h created named) out same)

-- all texts were written
pub outputs_written : (outputs : Outputs) (old mid new : Outside) (w : World) (a : Option (List (List ℕ))) → Does (map_steps outputs.map) old mid → w ≡ sent mid.world ports.Out outputs.out → a ≡ mid.asked
    → new.world ≡ sent w ports.Log outputs.log → new.asked ≡ a → Does (steps_of outputs) old new
outputs_written outputs old mid new w a map out same log same' = λ t first h.
    let s = after_steps t (map_steps outputs.map) in
    let one = left-sent s first mid (seen w a) ports.Out outputs.out (map t first h) out same in
    let two = left-sent (stepped s (Sends ports.Out outputs.out)) first (seen w a) new ports.Log outputs.log one log same' in
    let P : Trace → Type 0 = λ e. IsLeft e first new in
    subst P (sym (after_steps-append t (map_steps outputs.map) (Sends ports.Out outputs.out ∷ Sends ports.Log outputs.log ∷ []))) two

-- the map was not written whole
pub outputs_without_map : (outputs : Outputs) (old new : Outside) → DoesPart (map_steps outputs.map) old new → DoesPart (steps_of outputs) old new
outputs_without_map outputs old new map = λ t first h.
    let p = map t first h in
    (p.0, cut-front t (map_steps outputs.map) (Sends ports.Out outputs.out ∷ Sends ports.Log outputs.log ∷ []) p.0 p.1, p.2)

-- a front of the output was written
pub outputs_without_log : (outputs : Outputs) (old mid new : Outside) (n : ℕ) → Does (map_steps outputs.map) old mid → n < length outputs.out → new.world ≡ sent mid.world ports.Out (take n outputs.out) → new.asked ≡ mid.asked
    → DoesPart (steps_of outputs) old new
outputs_without_log outputs old mid new n map short out same = λ t first h.
    let s = after_steps t (map_steps outputs.map) in
    let end = stepped s (Sends ports.Out (take n outputs.out)) in
    (end, cut-later t (map_steps outputs.map) (Sends ports.Out outputs.out ∷ Sends ports.Log outputs.log ∷ []) end (inl (n, short, refl)), left-sent s first mid new ports.Out (take n outputs.out) (map t first h) out same)

-- the whole output and a front of the log were written
pub outputs_cut_off : (outputs : Outputs) (old mid new : Outside) (w : World) (a : Option (List (List ℕ))) (n : ℕ) → Does (map_steps outputs.map) old mid → w ≡ sent mid.world ports.Out outputs.out → a ≡ mid.asked
    → n < length outputs.log → new.world ≡ sent w ports.Log (take n outputs.log) → new.asked ≡ a → DoesPart (steps_of outputs) old new
outputs_cut_off outputs old mid new w a n map out same short log same' = λ t first h.
    let s = after_steps t (map_steps outputs.map) in
    let one = left-sent s first mid (seen w a) ports.Out outputs.out (map t first h) out same in
    let end = stepped (stepped s (Sends ports.Out outputs.out)) (Sends ports.Log (take n outputs.log)) in (
      end,
      cut-later t (map_steps outputs.map) (Sends ports.Out outputs.out ∷ Sends ports.Log outputs.log ∷ []) end (inr (inl (n, short, refl))),
      left-sent (stepped s (Sends ports.Out outputs.out)) first (seen w a) new ports.Log (take n outputs.log) one log same',
    )

-- the line went out whole
pub line_whole : (old new : World) (line : List ℕ) → new ≡ sent old ports.Log line → (count : ℕ) × (count ≤ length line) × (new ≡ sent old ports.Log (take count line)) × (0 ≡ unsaid line count)
line_whole old new line is = (
  length line,
  omega arith,
  is ∙ ap (sent old ports.Log) (sym (take_all (length line) line (omega arith))),
  ap (λ (b : Bool). cond b 1 0) (sym (le-ltb (length line) (length line) (omega arith))),
)

-- a front of it went out
pub line_cut_off : (old new : World) (line : List ℕ) (n : ℕ) → n < length line → new ≡ sent old ports.Log (take n line) → (count : ℕ) × (count ≤ length line) × (new ≡ sent old ports.Log (take count line)) × (1 ≡ unsaid line count)
line_cut_off old new line n short is = (n, omega (arith, short), is, ap (λ (b : Bool). cond b 1 0) (sym (lt-ltb n (length line) short)))

-- the line of a refusal was said
pub refusal_said : (refusal : Refusal) (old new : Outside) (outcome : Outcome) (line : List ℕ) (count : ℕ) → line ≡ line_of refusal → count ≤ length line → new.world ≡ sent old.world ports.Log (take count line)
    → new.asked ≡ old.asked → outcome.status ≡ status_of refusal → outcome.done ≡ None → outcome.faults_seen ≡ faults_of refusal + unsaid line count → Says refusal old new outcome
refusal_said refusal old new outcome line count is within out same status nothing faults = λ t first h.
    let At : List ℕ → Type 0 = λ l. (count ≤ length l) × (new.world ≡ sent old.world ports.Log (take count l)) × (outcome.faults_seen ≡ faults_of refusal + unsaid l count) in
    let at : At (line_of refusal) = subst At is (within, out, faults) in
    record {
      count = count;
      within = at.0;
      left = left-sent t first old new ports.Log (take count (line_of refusal)) h at.1 same;
      status = status;
      seen = at.2;
      nothing = nothing;
    }

-- the line of a refused text has a number
pub fixed_unsaid : (refusal : Refusal) (text : TextRefusal) → refusal ≡ refusals.Text text → HasFixedLine refusal → ⊥
fixed_unsaid refusal text is h = let P : Refusal → Type 0 = HasFixedLine in subst P is h

-- and no call failed on the way to it
pub unfaulted : (refusal : Refusal) (text : TextRefusal) → refusal ≡ refusals.Text text → faults_of refusal ≡ 0
unfaulted refusal text is = ap faults_of is
