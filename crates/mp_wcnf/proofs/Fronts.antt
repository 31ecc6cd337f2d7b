-- Words that lead somewhere are a front of an accepted text.
use Rattle.std.proofs.Common.{◌≡◌, ℕ, Bool, true, false, List, [], ◌∷◌, ◌++◌, Option, Some, None, refl, ap, subst, sym, ◌∙◌, append_assoc, if◌then◌else◌, codes}
use Rattle.std.specs.Str.{bytes_eq}
use Rattle.std.proofs.lemmas.Slice.Eq.{bytes_eq-Decides}
use Rattle.std.proofs.lemmas.List.{append-nil}
use Rattle.std.proofs.lemmas.Option.{none-some}
use Rattle.mp_logic.specs.Literal.{Literal}
use Rattle.mp_text.specs.Tokens.{Word}
use Rattle.mp_text.specs.Numbers.{literal_of}
use Rattle.mp_text.specs.declared.numbers.LitToken.{LitToken}
use Rattle.mp_text.specs.declared.numbers.LitToken.TheVariants as kinds
use Rattle.mp_wcnf.specs.Grammar.{Header, Item, number_of, head_of, AreLiterals, IsOpen, IsClause, AreClauses, IsHeading, GoesBehind, top_of}
use Rattle.mp_wcnf.specs.Refusals.{BeginClauses, Begins}
use Rattle.mp_wcnf.proofs.Runs.{same_stand}
use Rattle.mp_wcnf.proofs.Stands.{Stand, Start, AtFormat, AtVariables, AtCount, AtTop, AtLineEnd, Among, with_top, front_of, after_head, after_literal, after_vars, after_count, after_top, next_in, and_run, run, StartsLine, Stands, GoesOn}

literals_more : (ws : List Word) (w : Word) (ls : List Literal) (l : Literal) → AreLiterals ws ls → literal_of w.text ≡ Some (kinds.Lit l.variable l.negative)
    → AreLiterals (ws ++ w ∷ []) (ls ++ l ∷ [])
literals_more [] w [] l k e = (e, tt)
literals_more [] w (m ∷ ls) l k e = absurd k
literals_more (x ∷ ws) w [] l k e = absurd k
literals_more (x ∷ ws) w (m ∷ ls) l k e = (k.0, literals_more ws w ls l k.1 e)

open_more : (top : Option ℕ) (ws : List Word) (w : Word) (i : Item) (l : Literal) → IsOpen top ws i → literal_of w.text ≡ Some (kinds.Lit l.variable l.negative)
    → IsOpen top (ws ++ w ∷ []) (record { weight = i.weight; lits = i.lits ++ l ∷ [] })
open_more top [] w i l k e = absurd k
open_more top (x ∷ ws) w i l k e = (k.0, literals_more ws w i.lits l k.1 e)

clauses_more : (top : Option ℕ) (ws piece : List Word) (items : List Item) (i : Item) → AreClauses top ws items → IsClause top piece i → AreClauses top (ws ++ piece) (items ++ i ∷ [])
clauses_more top ws piece [] i k m = (piece, [], ap (λ v. v ++ piece) k ∙ sym (append-nil piece), m, refl)
clauses_more top ws piece (x ∷ items) i k m =
    (k.0, k.1 ++ piece, ap (λ v. v ++ piece) k.2 ∙ append_assoc k.0 k.1 piece, k.3, clauses_more top k.1 piece items i k.4 m)

starts_more : (h : Option Header) (ws : List Word) (w : Word) → StartsLine h ws → StartsLine h (ws ++ w ∷ [])
starts_more None ws w k = tt
starts_more (Some h) [] w k = absurd k
starts_more (Some h) (v ∷ ws) w k = k

starts_behind : (h : Option Header) (ws : List Word) → StartsLine h ws → GoesBehind h ws
starts_behind None ws k = tt
starts_behind (Some h) [] k = absurd k
starts_behind (Some h) (w ∷ ws) k = k

-- the first word of a clause
head_more : (ws heading front : List Word) (w : Word) (h : Option Header) (items : List Item) → ws ≡ heading ++ front → IsHeading h heading → StartsLine h (front ++ w ∷ [])
    → AreClauses (top_of h) front items → (x : Option (Option ℕ)) → head_of (top_of h) w.text ≡ x → GoesOn (ws ++ w ∷ []) (after_head h items x)
head_more ws heading front w h items whole headed starts clauses None e = tt
head_more ws heading front w h items whole headed starts clauses (Some wt) e =
    (heading, front ++ w ∷ [], ap (λ v. v ++ w ∷ []) whole ∙ append_assoc heading front (w ∷ []), headed, starts, (front, w ∷ [], refl, clauses, (e, tt)))

literal_more : (ws : List Word) (w : Word) (h : Option Header) (items : List Item) (i : Item) → Stands ws (Among h items (Some i)) → (x : Option LitToken) → literal_of w.text ≡ x
    → GoesOn (ws ++ w ∷ []) (after_literal h items i x)
literal_more ws w h items i k None e = tt
literal_more ws w h items i k (Some kinds.Close) e =
    let b = k.5 in
    let same : k.1 ++ w ∷ [] ≡ b.0 ++ (b.1 ++ w ∷ []) = ap (λ v. v ++ w ∷ []) b.2 ∙ append_assoc b.0 b.1 (w ∷ []) in
    let clauses : AreClauses (top_of h) (k.1 ++ w ∷ []) (items ++ i ∷ []) =
    subst (λ v. AreClauses (top_of h) v (items ++ i ∷ [])) (sym same) (clauses_more (top_of h) b.0 (b.1 ++ w ∷ []) items i b.3 (b.1, w, refl, b.4, e)) in
    (k.0, k.1 ++ w ∷ [], ap (λ v. v ++ w ∷ []) k.2 ∙ append_assoc k.0 k.1 (w ∷ []), k.3, starts_more h k.1 w k.4, (k.1 ++ w ∷ [], [], sym (append-nil (k.1 ++ w ∷ [])), clauses, refl))
literal_more ws w h items i k (Some (kinds.Lit v n)) e =
    let b = k.5 in
    let same : k.1 ++ w ∷ [] ≡ b.0 ++ (b.1 ++ w ∷ []) = ap (λ v. v ++ w ∷ []) b.2 ∙ append_assoc b.0 b.1 (w ∷ []) in
    (k.0, k.1 ++ w ∷ [], ap (λ v. v ++ w ∷ []) k.2 ∙ append_assoc k.0 k.1 (w ∷ []), k.3, starts_more h k.1 w k.4, (b.0, b.1 ++ w ∷ [], same, b.3, open_more (top_of h) b.1 w i (record { variable = v; negative = n }) b.4 e))

-- a word of the header
first_more : (ws : List Word) (w : Word) → ws ≡ [] → GoesOn (ws ++ w ∷ []) (next_in Start w)
first_more ws w k =
    let go : (b : Bool) → bytes_eq w.text (codes "p") ≡ b → GoesOn (ws ++ w ∷ []) (if b then Some (AtFormat w.line) else after_head None [] (head_of None w.text)) =
    λ (b : Bool). elim b as (λ b. bytes_eq w.text (codes "p") ≡ b → GoesOn (ws ++ w ∷ []) (if b then Some (AtFormat w.line) else after_head None [] (head_of None w.text))) [
      | true ↦ λ e. (w, ap (λ v. v ++ w ∷ []) k, refl, (bytes_eq-Decides w.text (codes "p")).0 e)
      | false ↦ λ e. head_more ws [] [] w None [] k refl tt refl (head_of None w.text) refl
    ] in
    go (bytes_eq w.text (codes "p")) refl

-- a word that has to be on the header's line
on_line : (ws : List Word) (leads : Bool) (x : Option Stand) → (leads ≡ false → GoesOn ws x) → GoesOn ws (if leads then None else x)
on_line ws true x f = tt
on_line ws false x f = f refl

format_more : (ws : List Word) (w : Word) (line : ℕ) → Stands ws (AtFormat line) → GoesOn (ws ++ w ∷ []) (next_in (AtFormat line) w)
format_more ws w line k =
    let go : w.leads ≡ false → (b : Bool) → bytes_eq w.text (codes "wcnf") ≡ b → GoesOn (ws ++ w ∷ []) (if b then Some (AtVariables line) else None) =
    λ l. λ (b : Bool). elim b as (λ b. bytes_eq w.text (codes "wcnf") ≡ b → GoesOn (ws ++ w ∷ []) (if b then Some (AtVariables line) else None)) [
      | true ↦ λ e. (k.0, w, ap (λ v. v ++ w ∷ []) k.1, k.2, l, k.3, (bytes_eq-Decides w.text (codes "wcnf")).0 e)
      | false ↦ λ e. tt
    ] in
    on_line (ws ++ w ∷ []) w.leads _ (λ l. go l (bytes_eq w.text (codes "wcnf")) refl)

vars_more : (ws : List Word) (w : Word) (line : ℕ) → Stands ws (AtVariables line) → GoesOn (ws ++ w ∷ []) (next_in (AtVariables line) w)
vars_more ws w line k =
    let go : w.leads ≡ false → (x : Option ℕ) → number_of w.text ≡ x → GoesOn (ws ++ w ∷ []) (after_vars line x) =
    λ l. λ (x : Option ℕ). elim x as (λ x. number_of w.text ≡ x → GoesOn (ws ++ w ∷ []) (after_vars line x)) [
      | None ↦ λ e. tt
      | Some n ↦ λ e. (k.0, k.1, w, ap (λ v. v ++ w ∷ []) k.2, k.3, k.4, l, (k.5, k.6, e))
    ] in
    on_line (ws ++ w ∷ []) w.leads _ (λ l. go l (number_of w.text) refl)

count_more : (ws : List Word) (w : Word) (line n : ℕ) → Stands ws (AtCount line n) → GoesOn (ws ++ w ∷ []) (next_in (AtCount line n) w)
count_more ws w line n k =
    let go : w.leads ≡ false → (x : Option ℕ) → number_of w.text ≡ x → GoesOn (ws ++ w ∷ []) (after_count n x) =
    λ l. λ (x : Option ℕ). elim x as (λ x. number_of w.text ≡ x → GoesOn (ws ++ w ∷ []) (after_count n x)) [
      | None ↦ λ e. tt
      | Some m ↦ λ e. (k.0, k.1, k.2, w, ap (λ v. v ++ w ∷ []) k.3, k.5, k.6, l, k.7, rw e refl)
    ] in
    on_line (ws ++ w ∷ []) w.leads _ (λ l. go l (number_of w.text) refl)

top_more : (ws : List Word) (w : Word) (n : ℕ) → Stands ws (AtTop n) → GoesOn (ws ++ w ∷ []) (next_in (AtTop n) w)
top_more ws w n k =
    let number : w.leads ≡ false → (x : Option ℕ) → number_of w.text ≡ x → GoesOn (ws ++ w ∷ []) (after_top n x) =
    λ l. λ (x : Option ℕ). elim x as (λ x. number_of w.text ≡ x → GoesOn (ws ++ w ∷ []) (after_top n x)) [
      | None ↦ λ e. tt
      | Some t ↦ λ e. (k.0, k.1, k.2, k.3, w, ap (λ v. v ++ w ∷ []) k.4, k.5, k.6, k.7, l, k.8, k.9, e)
    ] in
    let headed : IsHeading (with_top n 0) (k.0 ∷ k.1 ∷ k.2 ∷ k.3 ∷ []) = (k.0.line, (refl, (k.5, (k.6, (k.7, tt)))), (k.8, k.9, refl)) in
    let whole : ws ≡ (k.0 ∷ k.1 ∷ k.2 ∷ k.3 ∷ []) ++ [] = k.4 in
    let go : (l : Bool) → w.leads ≡ l → GoesOn (ws ++ w ∷ []) (if l then after_head (with_top n 0) [] (head_of (Some 0) w.text) else after_top n (number_of w.text)) =
    λ (l : Bool). elim l as (λ l. w.leads ≡ l → GoesOn (ws ++ w ∷ []) (if l then after_head (with_top n 0) [] (head_of (Some 0) w.text) else after_top n (number_of w.text))) [
      | true ↦ λ e. head_more ws (k.0 ∷ k.1 ∷ k.2 ∷ k.3 ∷ []) [] w (with_top n 0) [] whole headed e refl (head_of (Some 0) w.text) refl
      | false ↦ λ e. number e (number_of w.text) refl
    ] in
    go w.leads refl

line_end_more : (ws : List Word) (w : Word) (n t : ℕ) → Stands ws (AtLineEnd n t) → GoesOn (ws ++ w ∷ []) (next_in (AtLineEnd n t) w)
line_end_more ws w n t k =
    let headed : IsHeading (with_top n t) (k.0 ∷ k.1 ∷ k.2 ∷ k.3 ∷ k.4 ∷ []) = (k.0.line, (refl, (k.6, (k.7, (k.8, (k.9, tt))))), (k.10, k.11, k.12)) in
    let whole : ws ≡ (k.0 ∷ k.1 ∷ k.2 ∷ k.3 ∷ k.4 ∷ []) ++ [] = k.5 in
    let go : (l : Bool) → w.leads ≡ l → GoesOn (ws ++ w ∷ []) (if l then after_head (with_top n t) [] (head_of (Some t) w.text) else None) =
    λ (l : Bool). elim l as (λ l. w.leads ≡ l → GoesOn (ws ++ w ∷ []) (if l then after_head (with_top n t) [] (head_of (Some t) w.text) else None)) [
      | true ↦ λ e. head_more ws (k.0 ∷ k.1 ∷ k.2 ∷ k.3 ∷ k.4 ∷ []) [] w (with_top n t) [] whole headed e refl (head_of (Some t) w.text) refl
      | false ↦ λ e. tt
    ] in
    go w.leads refl

pub whole_rest : (top : Option ℕ) (ws : List Word) (items : List Item) → BeginClauses top ws items None → AreClauses top ws items
whole_rest top ws items b = subst (λ v. AreClauses top v items) (sym (b.2 ∙ ap (λ v. b.0 ++ v) b.4 ∙ append-nil b.0)) b.3

pub front_more : (ws : List Word) (w : Word) (s : Stand) → Stands ws s → GoesOn (ws ++ w ∷ []) (next_in s w)
front_more ws w Start k = first_more ws w k
front_more ws w (AtFormat line) k = format_more ws w line k
front_more ws w (AtVariables line) k = vars_more ws w line k
front_more ws w (AtCount line n) k = count_more ws w line n k
front_more ws w (AtTop n) k = top_more ws w n k
front_more ws w (AtLineEnd n t) k = line_end_more ws w n t k
front_more ws w (Among h items None) k =
    head_more ws k.0 k.1 w h items k.2 k.3 (starts_more h k.1 w k.4) (whole_rest (top_of h) k.1 items k.5) (head_of (top_of h) w.text) refl
front_more ws w (Among h items (Some i)) k = literal_more ws w h items i k (literal_of w.text) refl

-- whoever stands somewhere stands at the front of an accepted text
pub stands_begin : (ws : List Word) (s : Stand) → Stands ws s → Begins ws (front_of s)
stands_begin ws Start k = ([], [], k, refl, tt, ([], [], refl, refl, refl))
stands_begin ws (AtFormat line) k = subst (λ v. Begins v (front_of (AtFormat line))) (sym k.1) ((k.2, tt), (k.3, refl))
stands_begin ws (AtVariables line) k = subst (λ v. Begins v (front_of (AtVariables line))) (sym k.2) ((k.3, (k.4, tt)), (k.5, k.6, refl))
stands_begin ws (AtCount line n) k = subst (λ v. Begins v (front_of (AtCount line n))) (sym k.3) ((k.4, (k.5, (k.6, tt))), k.7)
stands_begin ws (AtTop n) k =
    (k.0 ∷ k.1 ∷ k.2 ∷ k.3 ∷ [], [], k.4, (k.0.line, (refl, (k.5, (k.6, (k.7, tt)))), (k.8, k.9, refl)), tt, ([], [], refl, refl, refl))
stands_begin ws (AtLineEnd n t) k =
    (k.0 ∷ k.1 ∷ k.2 ∷ k.3 ∷ k.4 ∷ [], [], k.5, (k.0.line, (refl, (k.6, (k.7, (k.8, (k.9, tt))))), (k.10, k.11, k.12)), tt, ([], [], refl, refl, refl))
stands_begin ws (Among h items part) k = (k.0, k.1, k.2, k.3, starts_behind h k.1 k.4, k.5)

run_stands : (ws before : List Word) (s t : Stand) → Stands before s → run ws s ≡ Some t → Stands (before ++ ws) t
run_stands [] before s t k e = subst (λ v. Stands v t) (sym (append-nil before)) (subst (Stands before) (same_stand s t e) k)
run_stands (w ∷ ws) before s t k e =
    let go : (x : Option Stand) → GoesOn (before ++ w ∷ []) x → and_run x (λ u. run ws u) ≡ Some t → Stands (before ++ w ∷ ws) t =
    λ (x : Option Stand). elim x as (λ x. GoesOn (before ++ w ∷ []) x → and_run x (λ u. run ws u) ≡ Some t → Stands (before ++ w ∷ ws) t) [
      | None ↦ λ g e. absurd (none-some t e)
      | Some u ↦ λ g e. subst (λ v. Stands v t) (append_assoc before (w ∷ []) ws) (run_stands ws (before ++ w ∷ []) u t g e)
    ] in
    go (next_in s w) (front_more before w s k) e

-- words that lead somewhere begin an accepted text
pub run_begins : (ws : List Word) (s : Stand) → run ws Start ≡ Some s → Begins ws (front_of s)
run_begins ws s e = stands_begin ws s (run_stands ws [] Start s refl e)
