-- The contents of files, by name and by place.
use Rattle.std.proofs.Common.{◌≡◌, ◌≢◌, ℕ, List, [], ◌∷◌, ◌++◌, Option, Some, None, Bool, true, false, cond, refl, sym, ◌∙◌, ap}
use Rattle.std.specs.Str.{bytes_eq}
use Rattle.std.proofs.lemmas.List.Sums.{fold-append}
use Rattle.std.proofs.lemmas.Slice.Eq.{bytes_eq-Decides}
use Rattle.mp_host.specs.declared.files.NamedFile.{NamedFile}
use Rattle.mp_host.specs.Files.{content_of}

-- one file of the look-up
abbrev noted : List ℕ → Option (List ℕ) → NamedFile → Option (List ℕ)
noted name found file = cond (bytes_eq file.name name) (Some file.bytes) found

pub content_of-more : (files : List NamedFile) (f : NamedFile) (name : List ℕ) → content_of (files ++ f ∷ []) name ≡ cond (bytes_eq f.name name) (Some f.bytes) (content_of files name)
content_of-more files f name = fold-append (noted name) None files (f ∷ [])

differs : (xs ys : List ℕ) → (xs ≡ ys → ⊥) → bytes_eq xs ys ≡ false
differs xs ys ne =
    let go : (b : Bool) → bytes_eq xs ys ≡ b → bytes_eq xs ys ≡ false = λ (b : Bool). elim b as (λ b. bytes_eq xs ys ≡ b → bytes_eq xs ys ≡ false) [ true ↦ λ e. absurd (ne ((bytes_eq-Decides xs ys).0 e)) | false ↦ λ e. e ] in
    go (bytes_eq xs ys) refl

-- a file that is put last is found under its name
pub content_of-put : (files now : List NamedFile) (f : NamedFile) (name bytes : List ℕ) → now ≡ files ++ f ∷ [] → f.name ≡ name → f.bytes ≡ bytes → content_of now name ≡ Some bytes
content_of-put files now f name bytes put is has =
    ap (λ (fs : List NamedFile). content_of fs name) put ∙ content_of-more files f name ∙ ap (λ (b : Bool). cond b (Some f.bytes) (content_of files name)) ((bytes_eq-Decides f.name name).1 is) ∙ ap (λ (l : List ℕ). Some l) has

-- and under no other
pub content_of-others : (files now : List NamedFile) (f : NamedFile) (name other : List ℕ) → now ≡ files ++ f ∷ [] → f.name ≡ name → other ≢ name → content_of now other ≡ content_of files other
content_of-others files now f name other put is ne =
    ap (λ (fs : List NamedFile). content_of fs other) put ∙ content_of-more files f other ∙ ap (λ (b : Bool). cond b (Some f.bytes) (content_of files other)) (differs f.name other (λ e. ne (sym e ∙ is)))
