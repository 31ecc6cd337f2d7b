-- Laws of what calls of a host do to its world.
use Rattle.std.proofs.Common.{◌≡◌, ℕ, List, [], ◌∷◌, ◌++◌, Option, Some, None, ◌+◌, ◌-◌, length, take, drop, refl, sym, subst, ap, append_assoc, arith, ◌≤◌}
use Rattle.std.proofs.Math.Seq.{take-add}
use Rattle.std.proofs.lemmas.List.{append-nil, take_all, take_at, length-drop, length-take-le, drop-drop, take-append-drop}
use Rattle.mp_host.specs.World.{World, Asked, sent, before_told, after_told}
use Rattle.mp_host.specs.declared.host.Port.{Port}
use Rattle.mp_host.specs.declared.host.Port.TheVariants.{Out, Log, Map}

pub after_told-after_told : (told : Option (List ℕ)) (a b : List ℕ) → after_told (after_told told a) b ≡ after_told told (a ++ b)
after_told-after_told None a b = refl
after_told-after_told (Some x) a b = ap (λ (l : List ℕ). Some l) (append_assoc x a b)

pub after_told-nil : (told : Option (List ℕ)) → after_told told [] ≡ told
after_told-nil None = refl
after_told-nil (Some x) = ap (λ (l : List ℕ). Some l) (append-nil x)

pub before_told-before_told : (a b : List ℕ) (told : Option (List ℕ)) → before_told a (before_told b told) ≡ before_told (a ++ b) told
before_told-before_told a b None = refl
before_told-before_told a b (Some x) = ap (λ (l : List ℕ). Some l) (sym (append_assoc a b x))

pub sent-sent : (w : World) (port : Port) (a b : List ℕ) → sent (sent w port a) port b ≡ sent w port (a ++ b)
sent-sent w Out a b = ap (λ (o : Option (List ℕ)). let v : World = record w { out = o } in v) (after_told-after_told w.out a b)
sent-sent w Log a b = ap (λ (o : Option (List ℕ)). let v : World = record w { log = o } in v) (after_told-after_told w.log a b)
sent-sent w Map a b = ap (λ (o : Option (List ℕ)). let v : World = record w { map = o } in v) (after_told-after_told w.map a b)

pub sent-nil : (w : World) (port : Port) → sent w port [] ≡ w
sent-nil w Out = ap (λ (o : Option (List ℕ)). let v : World = record w { out = o } in v) (after_told-nil w.out)
sent-nil w Log = ap (λ (o : Option (List ℕ)). let v : World = record w { log = o } in v) (after_told-nil w.log)
sent-nil w Map = ap (λ (o : Option (List ℕ)). let v : World = record w { map = o } in v) (after_told-nil w.map)

pub has_map-sent : (w : World) (port : Port) (a : List ℕ) → (sent w port a).has_map ≡ w.has_map
has_map-sent w Out a = refl
has_map-sent w Log a = refl
has_map-sent w Map a = refl

-- the next bytes go out behind those that went out before; the piece is `&bytes[i..]`
pub sent_more : (first before now : World) (port : Port) (i n : ℕ) (bytes : List ℕ) → before ≡ sent first port (take i bytes) → now ≡ sent before port (take n (take (length bytes - i) (drop i bytes))) → now ≡ sent first port (take (i + n) bytes)
sent_more first before now port i n bytes was is =
    let whole : take (length bytes - i) (drop i bytes) ≡ drop i bytes = take_all _ _ (omega (arith, length-drop i bytes)) in
    rw (is, was, whole, sent-sent first port (take i bytes) (take n (drop i bytes)), take-add i n bytes) refl

-- what was copied to the front of a buffer are the next bytes of the rest
pub next_bytes : (content items front tail : List ℕ) (at n : ℕ) → items ≡ content → front ≡ take n (take (length items - at) (drop at items)) → n ≤ length items - at → drop at content ≡ take n (front ++ tail) ++ drop (at + n) content
next_bytes content items front tail at n same is few =
    let whole : take (length items - at) (drop at items) ≡ drop at items = take_all _ _ (omega (arith, length-drop at items)) in
    let here : front ≡ take n (drop at items) = rw (is, whole) refl in
    let size : length front ≡ n = rw here (length-take-le n (drop at items) (omega (arith, length-drop at items))) in
    rw (← same, take_at front tail n size, here, ← drop-drop n at items, take-append-drop n (drop at items)) refl

-- what two calls ask for, one after the other
pub Asked-trans : (first middle last : Option (List (List ℕ))) (xs ys : List (List ℕ)) → Asked first middle xs → Asked middle last ys → Asked first last (xs ++ ys)
Asked-trans first middle last [] ys a b = let P : Option (List (List ℕ)) → Type 0 = λ old. Asked old last ys in subst P a b
Asked-trans first middle last (x ∷ xs) [] a b = let P : Option (List (List ℕ)) → Type 0 = λ new. Asked first new (x ∷ xs) in rw (append-nil xs) (subst P (sym b) a)
Asked-trans first middle None (x ∷ xs) (y ∷ ys) a b = tt
Asked-trans first None (Some now) (x ∷ xs) (y ∷ ys) a b = absurd b
Asked-trans None (Some then) (Some now) (x ∷ xs) (y ∷ ys) a b = absurd a
Asked-trans (Some before) (Some then) (Some now) (x ∷ xs) (y ∷ ys) a b = rw (b, a, append_assoc) refl
