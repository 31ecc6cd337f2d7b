-- A reader that refuses a line refuses that of the first byte at fault.
use Rattle.std.proofs.Common.{◌≡◌, ◌≤◌, ◌<◌, ◌+◌, ◌-◌, ℕ, Bool, true, false, not, cond, List, [], ◌∷◌, ◌++◌, length, refl, ap, subst, sym, ◌∙◌, arith, append_assoc, length-append}
use Rattle.std.specs.Prelude.{nat_eq, nat_le}
use Rattle.std.specs.List.{count_by}
use Rattle.std.proofs.lemmas.Bool.{and_parts, and_from, leb-true, leb-false, false≢true}
use Rattle.std.proofs.lemmas.List.{take_at}
use Rattle.std.proofs.lemmas.List.Sums.{sum_by-append}
use Rattle.mp_text.specs.Tokens.{ends_line}
use Rattle.mp_text.specs.Lines.{line_behind, end_line}
use Rattle.mp_map.specs.Faults.{BeginsSpelling, IsFirstFault}
use Rattle.mp_map.proofs.Texts.{lacks}

-- the longer of two fronts of one list goes on from the shorter
pub record GoesOn {X : Type 0} (a b c d : List X) : Type 0 where
  pub between : List X
  pub front : c ≡ a ++ between
  pub rest : b ≡ between ++ d

pub split : {X : Type 0} (a b c d : List X) → a ++ b ≡ c ++ d → length a ≤ length c → GoesOn a b c d
split [] b c d e h = record { between = c; front = refl; rest = e }
split (x ∷ a) b [] d e h = absurd (let no : length a + 1 ≤ 0 = omega (arith, h) in omega (arith, no))
split {X = X} (x ∷ a) b (y ∷ c) d e h =
    let heads : x ≡ y = cc in
    let tails : a ++ b ≡ c ++ d = cc in
    let g : GoesOn a b c d = split a b c d tails (omega (arith, h)) in
    record { between = g.between; front = ap (λ (z : X). z ∷ c) (sym heads) ∙ ap (λ (v : List X). x ∷ v) g.front; rest = g.rest }

pub count_more : (a b : List ℕ) → count_by ends_line (a ++ b) ≡ count_by ends_line a + count_by ends_line b
count_more a b = sum_by-append (λ b. cond (ends_line b) 1 0) a b

-- fronts of what begins a spelling begin one
pub closed : (front more : List ℕ) → BeginsSpelling (front ++ more) → BeginsSpelling front
closed front more h = (h.0, more ++ h.1, h.2, h.3 ∙ append_assoc front more h.1)

-- no byte before is at fault
pub early : (text before tail front : List ℕ) (fault : IsFirstFault text front) → text ≡ before ++ tail → BeginsSpelling before → length front < length before → ⊥
early text before tail front fault whole begins h =
    let same : front ++ fault.byte ∷ fault.after ≡ before ++ tail = sym fault.whole ∙ whole in
    let g : GoesOn (front ++ fault.byte ∷ []) fault.after before tail =
    split (front ++ fault.byte ∷ []) fault.after before tail (append_assoc front (fault.byte ∷ []) fault.after ∙ same) (omega (arith, h, length-append front (fault.byte ∷ []))) in
    fault.ends (closed (front ++ fault.byte ∷ []) g.between (subst BeginsSpelling g.front begins))

pub count_lacks : (bytes : List ℕ) → lacks 10 bytes ≡ true → count_by ends_line bytes ≡ 0
count_lacks [] h = refl
count_lacks (b ∷ bs) h =
    let p = and_parts (not (nat_eq b 10)) (lacks 10 bs) h in
    let weight : Bool → ℕ = λ t. cond t 1 0 in
    let one : (t : Bool) → not t ≡ true → weight t ≡ 0 = λ (t : Bool). elim t as (λ t. not t ≡ true → weight t ≡ 0) [ true ↦ λ e. absurd (false≢true e) | false ↦ λ e. refl ] in
    let zero_here : weight (nat_eq b 10) ≡ 0 = one (nat_eq b 10) p.0 in
    omega (arith, count_more (b ∷ []) bs, count_lacks bs p.1, zero_here)

pub lacks-front : (s : ℕ) (a b : List ℕ) → lacks s (a ++ b) ≡ true → lacks s a ≡ true
lacks-front s [] b h = refl
lacks-front s (x ∷ a) b h =
    let p = and_parts (not (nat_eq x s)) (lacks s (a ++ b)) h in
    and_from (not (nat_eq x s)) (lacks s a) p.0 (lacks-front s a b p.1)

-- where a line, whose end or last byte is last, can't stand, the first byte at fault is in it
pub fault_line : (text before body after front : List ℕ) (last : ℕ) → text ≡ before ++ (body ++ last ∷ after) → lacks 10 body ≡ true → BeginsSpelling before
    → (BeginsSpelling (before ++ (body ++ last ∷ [])) → ⊥) → IsFirstFault text front → line_behind front ≡ line_behind before
fault_line text before body after front last whole inner begins ends fault =
    let same : front ++ fault.byte ∷ fault.after ≡ before ++ (body ++ last ∷ after) = sym fault.whole ∙ whole in
    let none : count_by ends_line body ≡ 0 = count_lacks body inner in
    let late : length before ≤ length front → line_behind front ≡ line_behind before = λ h.
    let g : GoesOn before (body ++ last ∷ after) front (fault.byte ∷ fault.after) = split before (body ++ last ∷ after) front (fault.byte ∷ fault.after) (sym same) h in
    let inside : length g.between ≤ length body → line_behind front ≡ line_behind before = λ k.
    let i : GoesOn g.between (fault.byte ∷ fault.after) body (last ∷ after) = split g.between (fault.byte ∷ fault.after) body (last ∷ after) (sym g.rest) k in
    let c : count_by ends_line body ≡ count_by ends_line g.between + count_by ends_line i.between = ap (count_by ends_line) i.front ∙ count_more g.between i.between in
    let d : count_by ends_line front ≡ count_by ends_line before + count_by ends_line g.between = ap (count_by ends_line) g.front ∙ count_more before g.between in
    omega (arith, c, d, none) in
    let beyond : length body < length g.between → line_behind front ≡ line_behind before = λ k.
    let i : GoesOn (body ++ last ∷ []) after g.between (fault.byte ∷ fault.after) =
    split (body ++ last ∷ []) after g.between (fault.byte ∷ fault.after) (append_assoc body (last ∷ []) after ∙ g.rest) (omega (arith, k, length-append body (last ∷ []))) in
    let longer : front ≡ (before ++ (body ++ last ∷ [])) ++ i.between =
    g.front ∙ ap (λ (v : List ℕ). before ++ v) i.front ∙ sym (append_assoc before (body ++ last ∷ []) i.between) in
    absurd (ends (closed (before ++ (body ++ last ∷ [])) i.between (subst BeginsSpelling longer fault.begins))) in
    let which : (t : Bool) → nat_le (length g.between) (length body) ≡ t → line_behind front ≡ line_behind before =
    λ (t : Bool). elim t as (λ t. nat_le (length g.between) (length body) ≡ t → line_behind front ≡ line_behind before) [
      | true ↦ λ e. inside (leb-true _ _ e)
      | false ↦ λ e. beyond (leb-false _ _ e)
    ] in
    which (nat_le (length g.between) (length body)) refl in
    let which : (t : Bool) → nat_le (length before) (length front) ≡ t → line_behind front ≡ line_behind before =
    λ (t : Bool). elim t as (λ t. nat_le (length before) (length front) ≡ t → line_behind front ≡ line_behind before) [
      | true ↦ λ e. late (leb-true _ _ e)
      | false ↦ λ e. absurd (early text before (body ++ last ∷ after) front fault whole begins (leb-false _ _ e))
    ] in
    which (nat_le (length before) (length front)) refl

-- the last piece of a text holds the first byte at fault, where what stands before begins a spelling
pub fault_tail : (text before tail front : List ℕ) → text ≡ before ++ tail → lacks 10 tail ≡ true → BeginsSpelling before → IsFirstFault text front → line_behind front ≡ line_behind before
fault_tail text before tail front whole inner begins fault =
    let late : length before ≤ length front → line_behind front ≡ line_behind before = λ h.
    let g : GoesOn before tail front (fault.byte ∷ fault.after) = split before tail front (fault.byte ∷ fault.after) (sym whole ∙ fault.whole) h in
    let none : count_by ends_line g.between ≡ 0 = count_lacks g.between (lacks-front 10 g.between (fault.byte ∷ fault.after) (subst (λ (v : List ℕ). lacks 10 v ≡ true) g.rest inner)) in
    let d : count_by ends_line front ≡ count_by ends_line before + count_by ends_line g.between = ap (count_by ends_line) g.front ∙ count_more before g.between in
    omega (arith, none, d) in
    let which : (t : Bool) → nat_le (length before) (length front) ≡ t → line_behind front ≡ line_behind before =
    λ (t : Bool). elim t as (λ t. nat_le (length before) (length front) ≡ t → line_behind front ≡ line_behind before) [
      | true ↦ λ e. late (leb-true _ _ e)
      | false ↦ λ e. absurd (early text before tail front fault whole begins (leb-false _ _ e))
    ] in
    which (nat_le (length before) (length front)) refl

-- the last byte's line
pub end_line-last : (front : List ℕ) (last : ℕ) → end_line (front ++ last ∷ []) ≡ line_behind front
end_line-last front last = ap line_behind (take_at front (last ∷ []) (length (front ++ last ∷ []) - 1) (omega (arith, length-append front (last ∷ []))))
