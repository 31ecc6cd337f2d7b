-- Words, as they are read.
use Rattle.std.proofs.Common.{◌≡◌, ◌∙◌, ◌==◌, ◌++◌, ◌+◌, ◌<◌, ◌≤◌, ◌∷◌, [], ℕ, zero, suc, List, Some, Bool, true, false, codes, refl, sym, ap, ap₂, subst, map, take, length, inl, inr, arith, add-one}
use Rattle.std.specs.Prelude.{Contains, All, slice_get, Option, drop, not, ◌&&◌, ◌||◌, ◌⊎◌, IfNone, None, slice_index_or}
use Rattle.std.specs.List.{list_any}
use Rattle.std.specs.Borrow.{Bor}
use Rattle.std.specs.Str.{bytes_eq}
use Rattle.std.proofs.lemmas.List.{append_cancel_left, append-nil}
use Rattle.std.proofs.lemmas.List.Elements.{All-head, All-tail, All-nil, All-cons, All-append}
use Rattle.std.proofs.lemmas.Bool.{or_parts, true≢false}
use Rattle.std.proofs.lemmas.Slice.Eq.{bytes_eq-Decides}
use Rattle.mp_words.specs.declared.modes.Mode.{Mode}
use Rattle.mp_words.specs.Modes.{all_options, mode_word, options_of}
use Rattle.mp_words.specs.CommandLines.{Given, Word, plain, option, word_text, option_text, IsWord, plain_words, options_in, names_in, no_twins, IsLine}
use Rattle.mp_words.specs.Reading.{texts, HasValue, IsOption, IsPlain, Takes, AreRead, AreModeAndOperand, HasLine}
use Rattle.mp_words.proofs.Names.{Each, each_of}
use Rattle.mp_words.proofs.Taken.{known}

-- the word at a place is the last of those up to it
pub take_more : (xs : List (List ℕ)) (i : ℕ) (x : List ℕ) → slice_get xs i ≡ Some x → take (suc i) xs ≡ take i xs ++ x ∷ []
take_more [] i x e = cc
take_more (y ∷ ys) zero x e = ap (λ (t : List ℕ). t ∷ []) (same_text y x e)
  where
    same_text : (y x : List ℕ) → Some y ≡ Some x → y ≡ x
    same_text y x e = cc
take_more (y ∷ ys) (suc i) x e = ap (λ (t : List (List ℕ)). y ∷ t) (take_more ys i x e)

-- and the first of those from it on
pub drop_more : (xs : List (List ℕ)) (i : ℕ) (x : List ℕ) → slice_get xs i ≡ Some x → drop i xs ≡ x ∷ drop (suc i) xs
drop_more [] i x e = cc
drop_more (y ∷ ys) zero x e = ap (λ (t : List ℕ). t ∷ ys) (same_text y x e)
  where
    same_text : (y x : List ℕ) → Some y ≡ Some x → y ≡ x
    same_text y x e = cc
drop_more (y ∷ ys) (suc i) x e = drop_more ys i x e

spelled_append : (us bs : List Word) → map word_text (us ++ bs) ≡ map word_text us ++ map word_text bs
spelled_append [] bs = refl
spelled_append (a ∷ us) bs = ap (λ (t : List (List ℕ)). word_text a ∷ t) (spelled_append us bs)

plain_append : (us bs : List Word) → plain_words (us ++ bs) ≡ plain_words us ++ plain_words bs
plain_append [] bs = refl
plain_append (plain text ∷ us) bs = ap (λ (t : List (List ℕ)). text ∷ t) (plain_append us bs)
plain_append (option g ∷ us) bs = plain_append us bs

names_append : (us bs : List Word) → names_in (options_in (us ++ bs)) ≡ names_in (options_in us) ++ names_in (options_in bs)
names_append [] bs = refl
names_append (plain text ∷ us) bs = names_append us bs
names_append (option g ∷ us) bs = ap (λ (t : List (List ℕ)). g.name ∷ t) (names_append us bs)

pub read_none : (names : List (List ℕ)) (words : List (List ℕ)) → AreRead names (take 0 words) [] []
read_none names words = record { read = []; spelled = refl; right = All-nil (IsWord names); plain_words_are = refl; options_are = refl }

pub read_more : (names words : List (List ℕ)) (i : ℕ) (word : List ℕ) (w : Word) (ps ns qs ms : List (List ℕ)) → slice_get words i ≡ Some word → IsWord names w → word ≡ word_text w
    → qs ≡ ps ++ plain_words (w ∷ []) → ms ≡ ns ++ names_in (options_in (w ∷ [])) → AreRead names (take i words) ps ns → AreRead names (take (i + 1) words) qs ms
read_more names words i word w ps ns qs ms at right e q m r = record {
  read = r.read ++ w ∷ [];
  spelled = rw add-one (take_more words i word at ∙ ap (λ (t : List (List ℕ)). t ++ word ∷ []) r.spelled ∙ ap (λ (t : List ℕ). map word_text r.read ++ t ∷ []) e ∙ sym (spelled_append r.read (w ∷ [])));
  right = All-append (IsWord names) r.read (w ∷ []) r.right (All-cons (IsWord names) w [] right (All-nil (IsWord names)));
  plain_words_are = plain_append r.read (w ∷ []) ∙ ap (λ (t : List (List ℕ)). t ++ plain_words (w ∷ [])) r.plain_words_are ∙ sym q;
  options_are = names_append r.read (w ∷ []) ∙ ap (λ (t : List (List ℕ)). t ++ names_in (options_in (w ∷ []))) r.options_are ∙ sym m;
}

no_word : (names : List (List ℕ)) (read : List Word) (i : ℕ) (word : List ℕ) → slice_get (map word_text read) i ≡ Some word → All (IsWord names) read → ((w : Word) → IsWord names w → word ≡ word_text w → ⊥) → ⊥
no_word names [] i word e a h = cc
no_word names (w ∷ ws) zero word e a h = h w (All-head (IsWord names) w ws a) (same_text (word_text w) word e)
  where
    same_text : (y x : List ℕ) → Some y ≡ Some x → x ≡ y
    same_text y x e = cc
no_word names (w ∷ ws) (suc i) word e a h = no_word names ws i word e (All-tail (IsWord names) w ws a) h

pub not_read : (names words : List (List ℕ)) (i : ℕ) (word : List ℕ) (ps ns : List (List ℕ)) → slice_get words i ≡ Some word → ((w : Word) → IsWord names w → word ≡ word_text w → ⊥) → AreRead names words ps ns → ⊥
not_read names words i word ps ns at h r = no_word names r.read i word (ap (λ (t : List (List ℕ)). slice_get t i) (sym r.spelled) ∙ at) r.right h

-- a name has no `=`, so that a word is one option with one value
no_equals : Each (λ name. list_any (λ x. x == 61) name ≡ false) all_options
no_equals = (refl, (refl, (refl, (refl, (refl, (refl, (refl, (refl, tt))))))))

eq_self : (x : ℕ) → 61 ≡ x → (x == 61) ≡ false → ⊥
eq_self x e h = true≢false (sym (subst (λ (y : ℕ). (y == 61) ≡ true) e refl) ∙ h)

pub cons_first : (x y : ℕ) (xs ys : List ℕ) → x ∷ xs ≡ y ∷ ys → x ≡ y
cons_first x y xs ys e = cc

cons_rest : (x y : ℕ) (xs ys : List ℕ) → x ∷ xs ≡ y ∷ ys → xs ≡ ys
cons_rest x y xs ys e = cc

cons_both : (x y : ℕ) (xs ys : List ℕ) → x ≡ y → xs ≡ ys → x ∷ xs ≡ y ∷ ys
cons_both x y xs ys e h = cc

split_once : (a b v w : List ℕ) → list_any (λ x. x == 61) a ≡ false → list_any (λ x. x == 61) b ≡ false → a ++ 61 ∷ v ≡ b ++ 61 ∷ w → (a ≡ b) × (v ≡ w)
split_once [] [] v w p q e = (refl, cons_rest 61 61 v w e)
split_once [] (y ∷ b) v w p q e = absurd (eq_self y (cons_first 61 y v (b ++ 61 ∷ w) e) (or_parts (y == 61) (list_any (λ x. x == 61) b) q).0)
split_once (x ∷ a) [] v w p q e = absurd (eq_self x (sym (cons_first x 61 (a ++ 61 ∷ v) w e)) (or_parts (x == 61) (list_any (λ x. x == 61) a) p).0)
split_once (x ∷ a) (y ∷ b) v w p q e =
    let r = split_once a b v w (or_parts (x == 61) (list_any (λ x. x == 61) a) p).1 (or_parts (y == 61) (list_any (λ x. x == 61) b) q).1 (cons_rest x y (a ++ 61 ∷ v) (b ++ 61 ∷ w) e) in
    (cons_both x y a b (cons_first x y (a ++ 61 ∷ v) (b ++ 61 ∷ w) e) r.0, r.1)

given_same : (g h : Given) → g.name ≡ h.name → g.value ≡ h.value → g ≡ h
given_same g h e f = ap₂ (λ (n v : List ℕ). record { name = n; value = v }) e f

word_once : (mode : Mode) (a b : Word) → IsWord (options_of mode) a → IsWord (options_of mode) b → word_text a ≡ word_text b → a ≡ b
word_once mode (plain t) (plain u) p q e = ap (λ (x : List ℕ). plain x) e
word_once mode (plain []) (option h) p q e = absurd p
word_once mode (plain (x ∷ xs)) (option h) p q e = absurd (p (cons_first x 45 xs (45 ∷ (h.name ++ 61 ∷ h.value)) e))
word_once mode (option g) (plain []) p q e = absurd q
word_once mode (option g) (plain (x ∷ xs)) p q e = absurd (q (sym (cons_first 45 x (45 ∷ (g.name ++ 61 ∷ g.value)) xs e)))
word_once mode (option g) (option h) p q e =
    let lacks : (name : List ℕ) → Contains (options_of mode) name → list_any (λ x. x == 61) name ≡ false = λ name c. each_of (λ (n : List ℕ). list_any (λ x. x == 61) n ≡ false) all_options name no_equals (known mode name c) in
    let r = split_once g.name h.name g.value h.value (lacks g.name p.0) (lacks h.name q.0) (append_cancel_left (codes "--") (g.name ++ 61 ∷ g.value) (h.name ++ 61 ∷ h.value) e) in
    ap (λ (x : Given). option x) (given_same g h r.0 r.1)

pub first_text : (x y : List ℕ) (xs ys : List (List ℕ)) → x ∷ xs ≡ y ∷ ys → x ≡ y
first_text x y xs ys e = cc

rest_text : (x y : List ℕ) (xs ys : List (List ℕ)) → x ∷ xs ≡ y ∷ ys → xs ≡ ys
rest_text x y xs ys e = cc

words_both : (x y : Word) (xs ys : List Word) → x ≡ y → xs ≡ ys → x ∷ xs ≡ y ∷ ys
words_both x y xs ys e h = cc

pub read_once : (mode : Mode) (us bs : List Word) → All (IsWord (options_of mode)) us → All (IsWord (options_of mode)) bs → map word_text us ≡ map word_text bs → us ≡ bs
read_once mode [] [] p q e = refl
read_once mode [] (b ∷ bs) p q e = cc
read_once mode (a ∷ us) [] p q e = cc
read_once mode (a ∷ us) (b ∷ bs) p q e =
    words_both a b us bs
    (word_once mode a b (All-head (IsWord (options_of mode)) a us p) (All-head (IsWord (options_of mode)) b bs q) (first_text (word_text a) (word_text b) (map word_text us) (map word_text bs) e))
    (read_once mode us bs (All-tail (IsWord (options_of mode)) a us p) (All-tail (IsWord (options_of mode)) b bs q) (rest_text (word_text a) (word_text b) (map word_text us) (map word_text bs) e))

-- two lines of the same words have the same operand and options
pub line_once : (mode : Mode) (words : List (List ℕ)) (o p : List ℕ) (gs hs : List Given) → IsLine mode words o gs → IsLine mode words p hs → (o ≡ p) × (gs ≡ hs)
line_once mode words o p gs hs a b =
    let e : a.read ≡ b.read = read_once mode a.read b.read a.are b.are (sym a.spelled ∙ b.spelled) in (
      first_text o p [] [] (rest_text (mode_word mode) (mode_word mode) (o ∷ []) (p ∷ []) (sym a.plain_are ∙ ap (λ (x : List Word). plain_words x) e ∙ b.plain_are)),
      sym a.options_are ∙ ap (λ (x : List Word). options_in x) e ∙ b.options_are,
    )

pub not_line : (mode : Mode) (words : List (List ℕ)) (i : ℕ) (word : List ℕ) → slice_get words i ≡ Some word → ((w : Word) → IsWord (options_of mode) w → word ≡ word_text w → ⊥) → HasLine mode words → ⊥
not_line mode words i word at h (operand, options, line) =
    not_read (options_of mode) words i word (mode_word mode ∷ (operand ∷ [])) (names_in options) at h
    (record { read = line.read; spelled = line.spelled; right = line.are; plain_words_are = line.plain_are; options_are = ap (λ (x : List Given). names_in x) line.options_are })

-- what was read is a line where the plain words are two, and no option stands twice
pub line_of : (mode : Mode) (words ps ns : List (List ℕ)) → AreRead (options_of mode) words ps ns → AreModeAndOperand mode ps → no_twins ns ≡ true → HasLine mode words
line_of mode words ps ns r (operand, e) t = (
  operand,
  options_in r.read,
  record {
    read = r.read;
    spelled = r.spelled;
    are = r.right;
    plain_are = r.plain_words_are ∙ e;
    options_are = refl;
    once = ap (λ (x : List (List ℕ)). no_twins x) r.options_are ∙ t;
  },
)

pub line_parts : (mode : Mode) (words ps ns : List (List ℕ)) → AreRead (options_of mode) words ps ns → HasLine mode words → AreModeAndOperand mode ps × (no_twins ns ≡ true)
line_parts mode words ps ns r (operand, options, line) =
    let e : r.read ≡ line.read = read_once mode r.read line.read r.right line.are (sym r.spelled ∙ line.spelled) in (
      (operand, sym r.plain_words_are ∙ ap (λ (x : List Word). plain_words x) e ∙ line.plain_are),
      ap (λ (x : List (List ℕ)). no_twins x) (sym r.options_are ∙ ap (λ (x : List Word). names_in (options_in x)) e ∙ ap (λ (x : List Given). names_in x) line.options_are) ∙ line.once,
    )

-- the value in a word
pub no_front : (word name : List ℕ) → ((rest : List ℕ) → word ≡ codes "--" ++ rest → ⊥) → (value : List ℕ) → word ≡ option_text name value → ⊥
no_front word name h value e = h (name ++ 61 ∷ value) e

pub no_name : (word rest name : List ℕ) → word ≡ codes "--" ++ rest → ((more : List ℕ) → rest ≡ name ++ more → ⊥) → (value : List ℕ) → word ≡ option_text name value → ⊥
no_name word rest name w h value e = h (61 ∷ value) (append_cancel_left (codes "--") rest (name ++ 61 ∷ value) (sym w ∙ e))

pub no_sign : (word rest more name : List ℕ) → word ≡ codes "--" ++ rest → rest ≡ name ++ more → ((value : List ℕ) → more ≡ codes "=" ++ value → ⊥) → (value : List ℕ) → word ≡ option_text name value → ⊥
no_sign word rest more name w r h value e =
    h value (append_cancel_left name more (61 ∷ value) (sym r ∙ append_cancel_left (codes "--") rest (name ++ 61 ∷ value) (sym w ∙ e)))

pub none_then : {X : Type 0} (o : Option X) (A B : Type 0) → (A → B) → IfNone o A → IfNone o B
none_then None A B f h = f h
none_then (Some x) A B f h = h

-- a word that is neither
plain_right : (names : List (List ℕ)) (word : List ℕ) → IsPlain word → IsWord names (plain word)
plain_right names [] h = h
plain_right names (x ∷ xs) h = h

right_plain : (names : List (List ℕ)) (word : List ℕ) → IsWord names (plain word) → IsPlain word
right_plain names [] h = h
right_plain names (x ∷ xs) h = h

pub neither : (names : List (List ℕ)) (word : List ℕ) → (IsPlain word → ⊥) → ((name : List ℕ) → IsOption names word name → ⊥) → (w : Word) → IsWord names w → word ≡ word_text w → ⊥
neither names word h k (plain text) right e = h (subst (λ (t : List ℕ). IsPlain t) (sym e) (right_plain names text right))
neither names word h k (option g) right e = k g.name (right.0, (g.value, right.1, e))

pub takes_plain : (names : List (List ℕ)) (word : List ℕ) (ps ns qs ms : List (List ℕ)) → IsPlain word → qs ≡ ps ++ word ∷ [] → ms ≡ ns → Takes names word ps ns qs ms true
takes_plain names word ps ns qs ms h q m = (plain word, plain_right names word h, refl, q, m ∙ sym (append-nil ns))

pub takes_option : (names : List (List ℕ)) (word name : List ℕ) (ps ns qs ms : List (List ℕ)) → IsOption names word name → qs ≡ ps → ms ≡ ns ++ name ∷ [] → Takes names word ps ns qs ms true
takes_option names word name ps ns qs ms (own, (value, some, e)) q m = (option (record { name = name; value = value }), (own, some), e, q ∙ sym (append-nil ps), m)

pub texts_more : (xs : List (Bor (List ℕ))) (x : Bor (List ℕ)) → texts (xs ++ x ∷ []) ≡ texts xs ++ x.now ∷ []
texts_more [] x = refl
texts_more (y ∷ xs) x = ap (λ (t : List (List ℕ)). y.now ∷ t) (texts_more xs x)

-- names at places
got_of : (xs : List (List ℕ)) (k : ℕ) (x : List ℕ) → k < length xs → slice_index_or xs k x ≡ x → slice_get xs k ≡ Some x
got_of [] k x b e = absurd (omega (arith, b))
got_of (y ∷ ys) zero x b e = ap (λ (t : List ℕ). Some t) e
got_of (y ∷ ys) (suc k) x b e = got_of ys k x (omega (arith, b)) e

place_of_got : (xs : List (List ℕ)) (k : ℕ) (x : List ℕ) → slice_get xs k ≡ Some x → (k < length xs) × (slice_index_or xs k x ≡ x)
place_of_got [] k x e = cc
place_of_got (y ∷ ys) zero x e = (omega arith, same_text y x e)
  where
    same_text : (y x : List ℕ) → Some y ≡ Some x → y ≡ x
    same_text y x e = cc
place_of_got (y ∷ ys) (suc k) x e = let r = place_of_got ys k x e in (omega (arith, r.0), r.1)

pub option_found : (names : List (List ℕ)) (word name : List ℕ) (k : ℕ) → slice_get names k ≡ Some name → HasValue word name → IsOption names word name
option_found names word name k at h = let r = place_of_got names k name at in ((k, r.0, r.1), h)

pub option_none : (names : List (List ℕ)) (word : List ℕ) (n : ℕ) → length names ≤ n → ((k : ℕ) (name : List ℕ) → k < n → slice_get names k ≡ Some name → HasValue word name → ⊥) → (name : List ℕ) → IsOption names word name → ⊥
option_none names word n b h name ((k, l, e), v) = h k name (omega (arith, b, l)) (got_of names k name l e) v

lt_or : (k n : ℕ) → k < n + 1 → (k < n) ⊎ (k ≡ n)
lt_or zero zero b = inr refl
lt_or zero (suc n) b = inl (omega arith)
lt_or (suc k) zero b = absurd (omega (arith, b))
lt_or (suc k) (suc n) b =
    let h : k < n + 1 = omega (arith, b) in
    elim (lt_or k n h) [ inl l ↦ inl (omega (arith, l)) | inr e ↦ inr (ap (λ (m : ℕ). suc m) e) ]

pub option_next : (names : List (List ℕ)) (word found : List ℕ) (n : ℕ) → slice_get names n ≡ Some found → (HasValue word found → ⊥)
    → ((k : ℕ) (name : List ℕ) → k < n → slice_get names k ≡ Some name → HasValue word name → ⊥)
    → (k : ℕ) (name : List ℕ) → k < n + 1 → slice_get names k ≡ Some name → HasValue word name → ⊥
option_next names word found n at not_found h k name b got v =
    elim (lt_or k n b) [
      | inl l ↦ h k name l got v
      | inr e ↦ not_found (subst (λ (t : List ℕ). HasValue word t) (same_text name found (sym got ∙ ap (λ (i : ℕ). slice_get names i) e ∙ at)) v)
    ]
  where
    same_text : (y x : List ℕ) → Some y ≡ Some x → y ≡ x
    same_text y x e = cc

-- two plain words of which the first is the mode
two_texts : (ps : List (List ℕ)) (t m : List ℕ) → length ps ≡ 2 → slice_get ps 0 ≡ Some t → (t ≡ m → (operand : List ℕ) × (ps ≡ m ∷ (operand ∷ []))) × ((operand : List ℕ) → ps ≡ m ∷ (operand ∷ []) → t ≡ m)
two_texts [] t m l at = cc
two_texts (a ∷ []) t m l at = absurd (omega (arith, l))
two_texts (a ∷ (b ∷ [])) t m l at = (λ e. (b, ap (λ (x : List ℕ). x ∷ (b ∷ [])) (same_text a t at ∙ e)), λ operand e. sym (same_text a t at) ∙ first_text a m (b ∷ []) (operand ∷ []) e)
  where
    same_text : (y x : List ℕ) → Some y ≡ Some x → y ≡ x
    same_text y x e = cc
two_texts (a ∷ (b ∷ (c ∷ ps))) t m l at = absurd (omega (arith, l))

pub two_words : (mode : Mode) (ps : List (List ℕ)) (t : List ℕ) (r : Bool) → length ps ≡ 2 → slice_get ps 0 ≡ Some t → r ≡ bytes_eq t (mode_word mode) → (r ≡ true → AreModeAndOperand mode ps) × (AreModeAndOperand mode ps → r ≡ true)
two_words mode ps t r l at e =
    let d = bytes_eq-Decides t (mode_word mode) in
    let p = two_texts ps t (mode_word mode) l at in
    (λ h. p.0 (d.0 (sym e ∙ h)), λ h. e ∙ d.1 (p.1 h.0 h.1))

-- a text that may stand again
pub any_here : (q : List ℕ → Bool) (xs : List (List ℕ)) (i : ℕ) (x : List ℕ) → slice_get xs i ≡ Some x → q x ≡ true → list_any q (drop i xs) ≡ true
any_here q xs i x at h = ap (λ (t : List (List ℕ)). list_any q t) (drop_more xs i x at) ∙ ap (λ (b : Bool). b || list_any q (drop (suc i) xs)) h

pub any_on : (q : List ℕ → Bool) (xs : List (List ℕ)) (i : ℕ) (x : List ℕ) → slice_get xs i ≡ Some x → q x ≡ false → list_any q (drop i xs) ≡ list_any q (drop (i + 1) xs)
any_on q xs i x at h = rw add-one (ap (λ (t : List (List ℕ)). list_any q t) (drop_more xs i x at) ∙ ap (λ (b : Bool). b || list_any q (drop (suc i) xs)) h)

pub twins_here : (xs : List (List ℕ)) (i : ℕ) (x : List ℕ) → slice_get xs i ≡ Some x → list_any (λ other. bytes_eq x other) (drop (i + 1) xs) ≡ true → no_twins (drop i xs) ≡ false
twins_here xs i x at h =
    ap (λ (t : List (List ℕ)). no_twins t) (drop_more xs i x at)
    ∙ ap (λ (b : Bool). not b && no_twins (drop (suc i) xs)) (subst (λ (n : ℕ). list_any (λ other. bytes_eq x other) (drop n xs) ≡ true) (add_one i) h)
  where
    add_one : (i : ℕ) → i + 1 ≡ suc i
    add_one i = omega arith

pub twins_on : (xs : List (List ℕ)) (i : ℕ) (x : List ℕ) → slice_get xs i ≡ Some x → list_any (λ other. bytes_eq x other) (drop (i + 1) xs) ≡ false → no_twins (drop i xs) ≡ no_twins (drop (i + 1) xs)
twins_on xs i x at h =
    ap (λ (t : List (List ℕ)). no_twins t) (drop_more xs i x at)
    ∙ ap (λ (n : ℕ). not (list_any (λ other. bytes_eq x other) (drop n xs)) && no_twins (drop n xs)) (add_one i)
    ∙ ap (λ (b : Bool). not b && no_twins (drop (i + 1) xs)) h
  where
    add_one : (i : ℕ) → suc i ≡ i + 1
    add_one i = omega arith

pub not_false : (b : Bool) → not b ≡ false → b ≡ true
not_false true e = refl
not_false false e = cc

pub same_as : (r : Bool) (t u m : List ℕ) → r ≡ bytes_eq t u → u ≡ m → r ≡ bytes_eq t m
same_as r t u m e f = e ∙ ap (λ (x : List ℕ). bytes_eq t x) f

pub none_at : {X : Type 0} (o : Option X) (A : Type 0) → o ≡ None → IfNone o A → A
none_at None A e h = h
none_at (Some x) A e h = cc
