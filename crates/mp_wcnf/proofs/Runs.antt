-- A front of a text stands where its words lead, and nowhere else.
use Rattle.std.proofs.Common.{◌≡◌, ℕ, Bool, true, false, List, [], ◌∷◌, ◌++◌, Option, Some, None, IsSome, refl, ap, ap₂, subst, sym, ◌∙◌, append_assoc, if◌then◌else◌, codes}
use Rattle.std.specs.Str.{bytes_eq}
use Rattle.std.proofs.lemmas.Slice.Eq.{bytes_eq-Decides}
use Rattle.std.proofs.lemmas.List.{append-nil}
use Rattle.std.proofs.lemmas.Option.{none-some}
use Rattle.std.proofs.lemmas.Bool.{false≢true}
use Rattle.mp_logic.specs.Literal.{Literal}
use Rattle.mp_text.specs.Tokens.{Word}
use Rattle.mp_wcnf.specs.Grammar.{Header, Item, number_of, head_of, AreLiterals, IsOpen, IsClause, AreClauses, IsLine, IsSized, IsHeader, IsHeaderPart, GoesBehind, top_of}
use Rattle.mp_wcnf.specs.Refusals.{Front, Heading, Clauses, IsPart, BeginClauses, Begins}
use Rattle.mp_wcnf.proofs.Stands.{Stand, Start, AtFormat, AtVariables, AtCount, AtTop, AtLineEnd, Among, with_top, front_of, after_head, after_literal, after_count, next_in, and_run, run}

stand_or : Stand → Option Stand → Stand
stand_or d None = d
stand_or d (Some s) = s

pub same_stand : (s t : Stand) → Some s ≡ Some t → s ≡ t
unfolding stand_or
same_stand s t e = ap (stand_or s) e

pub run_append : (a b : List Word) (s : Stand) → run (a ++ b) s ≡ and_run (run a s) (λ t. run b t)
run_append [] b s = refl
run_append (w ∷ ws) b s =
    let step : (x : Option Stand) → and_run x (λ t. run (ws ++ b) t) ≡ and_run (and_run x (λ t. run ws t)) (λ t. run b t) =
    λ (x : Option Stand). elim x as (λ x. and_run x (λ t. run (ws ++ b) t) ≡ and_run (and_run x (λ t. run ws t)) (λ t. run b t)) [
      | None ↦ refl
      | Some t ↦ run_append ws b t
    ] in
    step (next_in s w)

-- words that lead on lead further
pub run_on : (ws : List Word) (w : Word) (s t : Stand) → run ws s ≡ Some t → run (ws ++ w ∷ []) s ≡ next_in t w
run_on ws w s t h =
    let last : (x : Option Stand) → and_run x (λ t. run [] t) ≡ x = λ (x : Option Stand). elim x as (λ x. and_run x (λ t. run [] t) ≡ x) [ None ↦ refl | Some t ↦ refl ] in
    run_append ws (w ∷ []) s ∙ ap (λ x. and_run x (λ t. run (w ∷ []) t)) h ∙ last (next_in t w)

-- clauses
run_literals : (ws : List Word) (ls front : List Literal) (wt : Option ℕ) (h : Option Header) (items : List Item) → AreLiterals ws ls
    → run ws (Among h items (Some (record { weight = wt; lits = front }))) ≡ Some (Among h items (Some (record { weight = wt; lits = front ++ ls })))
run_literals [] [] front wt h items k = rw (append-nil front) refl
run_literals [] (l ∷ ls) front wt h items k = absurd k
run_literals (w ∷ ws) [] front wt h items k = absurd k
run_literals (w ∷ ws) (l ∷ ls) front wt h items k =
    rw k.0 (run_literals ws ls (front ++ l ∷ []) wt h items k.1 ∙ ap (λ v. Some (Among h items (Some (record { weight = wt; lits = v })))) (append_assoc front (l ∷ []) ls))

run_open : (ws : List Word) (i : Item) (h : Option Header) (items : List Item) → IsOpen (top_of h) ws i → run ws (Among h items None) ≡ Some (Among h items (Some i))
run_open [] i h items k = absurd k
run_open (w ∷ ws) i h items k = rw k.0 (run_literals ws i.lits [] i.weight h items k.1)

run_clause : (ws : List Word) (i : Item) (h : Option Header) (items : List Item) → IsClause (top_of h) ws i → run ws (Among h items None) ≡ Some (Among h (items ++ i ∷ []) None)
run_clause ws i h items k =
    ap (λ v. run v (Among h items None)) k.2 ∙ run_append k.0 (k.1 ∷ []) (Among h items None)
    ∙ ap (λ x. and_run x (λ t. run (k.1 ∷ []) t)) (run_open k.0 i h items k.3)
    ∙ ap (λ x. and_run (after_literal h items i x) (λ t. run [] t)) k.4

run_clauses : (ws : List Word) (is items : List Item) (h : Option Header) → AreClauses (top_of h) ws is → run ws (Among h items None) ≡ Some (Among h (items ++ is) None)
run_clauses ws [] items h k = ap (λ v. run v (Among h items None)) k ∙ ap (λ v. Some (Among h v None)) (sym (append-nil items))
run_clauses ws (i ∷ is) items h k =
    ap (λ v. run v (Among h items None)) k.2 ∙ run_append k.0 k.1 (Among h items None)
    ∙ ap (λ x. and_run x (λ t. run k.1 t)) (run_clause k.0 i h items k.3)
    ∙ run_clauses k.1 is (items ++ i ∷ []) h k.4
    ∙ ap (λ v. Some (Among h v None)) (append_assoc items (i ∷ []) is)

run_part : (ws : List Word) (part : Option Item) (h : Option Header) (items : List Item) → IsPart (top_of h) ws part → run ws (Among h items None) ≡ Some (Among h items part)
run_part ws None h items k = ap (λ v. run v (Among h items None)) k
run_part ws (Some i) h items k = run_open ws i h items k

run_begun : (ws : List Word) (h : Option Header) (items : List Item) (part : Option Item) → BeginClauses (top_of h) ws items part → run ws (Among h [] None) ≡ Some (Among h items part)
run_begun ws h items part k =
    ap (λ v. run v (Among h [] None)) k.2 ∙ run_append k.0 k.1 (Among h [] None)
    ∙ ap (λ x. and_run x (λ t. run k.1 t)) (run_clauses k.0 items [] h k.3)
    ∙ run_part k.1 part h items k.4

-- a header, word by word
is_word : (t w : List ℕ) → t ≡ w → bytes_eq t w ≡ true
is_word t w e = (bytes_eq-Decides t w).1 e

starts : (w : Word) → w.text ≡ codes "p" → next_in Start w ≡ Some (AtFormat w.line)
starts w e = rw (is_word w.text (codes "p") e) refl

formats : (w : Word) (line : ℕ) → w.leads ≡ false → w.text ≡ codes "wcnf" → next_in (AtFormat line) w ≡ Some (AtVariables line)
formats w line l e = rw (l, is_word w.text (codes "wcnf") e) refl

sizes : (w : Word) (line n : ℕ) → w.leads ≡ false → number_of w.text ≡ Some n → next_in (AtVariables line) w ≡ Some (AtCount line n)
sizes w line n l e = rw (l, e) refl

counts : (w : Word) (line n : ℕ) → w.leads ≡ false → IsSome (number_of w.text) → next_in (AtCount line n) w ≡ Some (AtTop n)
counts w line n l k =
    let go : (x : Option ℕ) → IsSome x → after_count n x ≡ Some (AtTop n) =
    λ (x : Option ℕ). elim x as (λ x. IsSome x → after_count n x ≡ Some (AtTop n)) [ None ↦ λ k. absurd (false≢true k) | Some m ↦ λ k. refl ] in
    rw l (go (number_of w.text) k)

tops : (w : Word) (n t : ℕ) → w.leads ≡ false → number_of w.text ≡ Some t → next_in (AtTop n) w ≡ Some (AtLineEnd n t)
tops w n t l e = rw (l, e) refl

run_two : (p wcnf : Word) (ws : List Word) → wcnf.leads ≡ false → p.text ≡ codes "p" → wcnf.text ≡ codes "wcnf" → run (p ∷ wcnf ∷ ws) Start ≡ run ws (AtVariables p.line)
run_two p wcnf ws l e f = ap (λ x. and_run x (λ t. run (wcnf ∷ ws) t)) (starts p e) ∙ ap (λ x. and_run x (λ t. run ws t)) (formats wcnf p.line l f)

run_three : (p wcnf size : Word) (ws : List Word) (n : ℕ) → wcnf.leads ≡ false → size.leads ≡ false → IsSized p wcnf size n
    → run (p ∷ wcnf ∷ size ∷ ws) Start ≡ run ws (AtCount p.line n)
run_three p wcnf size ws n l m k = run_two p wcnf (size ∷ ws) l k.0 k.1 ∙ ap (λ x. and_run x (λ t. run ws t)) (sizes size p.line n m k.2)

-- behind a whole header, a word that leads begins a clause
record Behind (heading : List Word) (h : Header) : Type 0 where
  last : Stand
  there : run heading Start ≡ Some last
  front : front_of last ≡ Clauses (Some h) [] None
  next : (w : Word) → w.leads ≡ true → next_in last w ≡ next_in (Among (Some h) [] None) w

behind_header : (heading : List Word) (h : Header) (line : ℕ) → IsLine line heading → IsHeader heading h → Behind heading h
behind_header [] h line k m = absurd k
behind_header (p ∷ []) h line k m = absurd m
behind_header (p ∷ wcnf ∷ []) h line k m = absurd m
behind_header (p ∷ wcnf ∷ n ∷ []) h line k m = absurd m
behind_header (p ∷ wcnf ∷ n ∷ c ∷ []) h line k m = record {
  last = AtTop h.vars;
  there = run_three p wcnf n (c ∷ []) h.vars k.1.0 k.1.1.0 m.0 ∙ ap (λ x. and_run x (λ t. run [] t)) (counts c p.line h.vars k.1.1.1.0 m.1);
  front = ap (λ t. Clauses (with_top h.vars t) [] None) (sym m.2);
  next = λ w l. rw l (ap (λ t. after_head (with_top h.vars t) [] (head_of (Some t) w.text)) (sym m.2));
}
behind_header (p ∷ wcnf ∷ n ∷ c ∷ t ∷ []) h line k m = record {
  last = AtLineEnd h.vars h.top;
  there = run_three p wcnf n (c ∷ t ∷ []) h.vars k.1.0 k.1.1.0 m.0 ∙ ap (λ x. and_run x (λ s. run (t ∷ []) s)) (counts c p.line h.vars k.1.1.1.0 m.1)
      ∙ ap (λ x. and_run x (λ s. run [] s)) (tops t h.vars h.top k.1.1.1.1.0 m.2);
  front = refl;
  next = λ w l. rw l refl;
}
behind_header (p ∷ wcnf ∷ n ∷ c ∷ t ∷ more ∷ ws) h line k m = absurd m

-- a text that begins with a clause has no header
no_head : (w : Word) → w.text ≡ codes "p" → next_in (Among None [] None) w ≡ None
no_head w e = ap (λ t. after_head None [] (head_of None t)) e

run_first : (w : Word) (ws : List Word) (s : Stand) → run (w ∷ ws) (Among None [] None) ≡ Some s → run (w ∷ ws) Start ≡ Some s
run_first w ws s h =
    let step : (b : Bool) → bytes_eq w.text (codes "p") ≡ b → and_run (if b then Some (AtFormat w.line) else after_head None [] (head_of None w.text)) (λ t. run ws t) ≡ Some s =
    λ (b : Bool). elim b as (λ b. bytes_eq w.text (codes "p") ≡ b → and_run (if b then Some (AtFormat w.line) else after_head None [] (head_of None w.text)) (λ t. run ws t) ≡ Some s) [
      | true ↦ λ e. absurd (none-some s (sym (ap (λ x. and_run x (λ t. run ws t)) (no_head w ((bytes_eq-Decides w.text (codes "p")).0 e))) ∙ h))
      | false ↦ λ e. h
    ] in
    step (bytes_eq w.text (codes "p")) refl

-- all of a front
pub record Reached (ws : List Word) (front : Front) : Type 0 where
  pub last : Stand
  pub there : run ws Start ≡ Some last
  pub goes : front_of last ≡ front

reach_part : (ws : List Word) (line vars : ℕ) → IsLine line ws → IsHeaderPart ws vars → Reached ws (Heading line vars)
reach_part [] line vars k m = absurd k
reach_part (p ∷ []) line vars k m = record { last = AtFormat p.line; there = ap (λ x. and_run x (λ t. run [] t)) (starts p m.0); goes = ap₂ Heading k.0 (sym m.1) }
reach_part (p ∷ wcnf ∷ []) line vars k m = record { last = AtVariables p.line; there = run_two p wcnf [] k.1.0 m.0 m.1; goes = ap₂ Heading k.0 (sym m.2) }
reach_part (p ∷ wcnf ∷ n ∷ []) line vars k m = record { last = AtCount p.line vars; there = run_three p wcnf n [] vars k.1.0 k.1.1.0 m; goes = ap (λ l. Heading l vars) k.0 }
reach_part (p ∷ wcnf ∷ n ∷ c ∷ ws) line vars k m = absurd m

reach_first : (rest : List Word) (items : List Item) (part : Option Item) → BeginClauses None rest items part → Reached rest (Clauses None items part)
reach_first [] items part b = record { last = Start; there = refl; goes = ap front_of (same_stand _ _ (run_begun [] None items part b)) }
reach_first (w ∷ ws) items part b = record { last = Among None items part; there = run_first w ws _ (run_begun (w ∷ ws) None items part b); goes = refl }

reach_behind : (heading rest : List Word) (h : Header) (items : List Item) (part : Option Item) → Behind heading h → GoesBehind (Some h) rest → BeginClauses (Some h.top) rest items part
    → Reached (heading ++ rest) (Clauses (Some h) items part)
reach_behind heading [] h items part k g b = record {
  last = k.last;
  there = ap (λ v. run v Start) (append-nil heading) ∙ k.there;
  goes = k.front ∙ ap front_of (same_stand _ _ (run_begun [] (Some h) items part b));
}
reach_behind heading (w ∷ ws) h items part k g b = record {
  last = Among (Some h) items part;
  there = run_append heading (w ∷ ws) Start ∙ ap (λ x. and_run x (λ t. run (w ∷ ws) t)) k.there
      ∙ ap (λ x. and_run x (λ t. run ws t)) (k.next w g) ∙ run_begun (w ∷ ws) (Some h) items part b;
  goes = refl;
}

pub run_front : (ws : List Word) (front : Front) → Begins ws front → Reached ws front
run_front ws (Heading line vars) b = reach_part ws line vars b.0 b.1
run_front ws (Clauses None items part) b =
    let same : ws ≡ b.1 = b.2 ∙ ap (λ v. v ++ b.1) b.3 in
    subst (λ v. Reached v (Clauses None items part)) (sym same) (reach_first b.1 items part b.5)
run_front ws (Clauses (Some h) items part) b =
    subst (λ v. Reached v (Clauses (Some h) items part)) (sym b.2) (reach_behind b.0 b.1 h items part (behind_header b.0 h b.3.0 b.3.1 b.3.2) b.4 b.5)
