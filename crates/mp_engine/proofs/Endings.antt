-- How log texts end.
use Rattle.std.proofs.Common.{◌≡◌, ℕ, List, ◌++◌, get_or, reverse, refl, sym, ◌∙◌, ap, arith}
use Rattle.std.specs.List.{flat_map}
use Rattle.std.proofs.lemmas.List.{reverse-append}
use Rattle.mp_engine.specs.declared.done.Close.{Close}
use Rattle.mp_engine.specs.declared.done.Close.TheVariants.{Settled, Unsettled, Single, Refuted}
use Rattle.mp_engine.specs.LogText.{line_text, close_text, LogTellsClose}

-- the byte at a place from the end
from_end : (k : ℕ) (xs ys : List ℕ) (close told : Close) → xs ++ close_text close ≡ ys ++ close_text told
    → get_or (reverse (close_text close) ++ reverse xs) k 0 ≡ get_or (reverse (close_text told) ++ reverse ys) k 0
from_end k xs ys close told e =
    ap (λ (z : List ℕ). get_or z k 0) (sym (reverse-append xs (close_text close)) ∙ ap (λ (z : List ℕ). reverse z) e ∙ reverse-append ys (close_text told))

tells : (xs ys : List ℕ) (close told : Close) → xs ++ close_text close ≡ ys ++ close_text told → close ≡ told
tells xs ys Settled Settled e = refl
tells xs ys Settled Unsettled e = let q : ◌≡◌ {A = ℕ} 32 110 = from_end 8 xs ys Settled Unsettled e in absurd (omega arith)
tells xs ys Settled Single e = let q : ◌≡◌ {A = ℕ} 108 103 = from_end 3 xs ys Settled Single e in absurd (omega arith)
tells xs ys Settled Refuted e = let q : ◌≡◌ {A = ℕ} 108 116 = from_end 3 xs ys Settled Refuted e in absurd (omega arith)
tells xs ys Unsettled Settled e = let q : ◌≡◌ {A = ℕ} 110 32 = from_end 8 xs ys Unsettled Settled e in absurd (omega arith)
tells xs ys Unsettled Unsettled e = refl
tells xs ys Unsettled Single e = let q : ◌≡◌ {A = ℕ} 108 103 = from_end 3 xs ys Unsettled Single e in absurd (omega arith)
tells xs ys Unsettled Refuted e = let q : ◌≡◌ {A = ℕ} 108 116 = from_end 3 xs ys Unsettled Refuted e in absurd (omega arith)
tells xs ys Single Settled e = let q : ◌≡◌ {A = ℕ} 103 108 = from_end 3 xs ys Single Settled e in absurd (omega arith)
tells xs ys Single Unsettled e = let q : ◌≡◌ {A = ℕ} 103 108 = from_end 3 xs ys Single Unsettled e in absurd (omega arith)
tells xs ys Single Single e = refl
tells xs ys Single Refuted e = let q : ◌≡◌ {A = ℕ} 103 116 = from_end 3 xs ys Single Refuted e in absurd (omega arith)
tells xs ys Refuted Settled e = let q : ◌≡◌ {A = ℕ} 116 108 = from_end 3 xs ys Refuted Settled e in absurd (omega arith)
tells xs ys Refuted Unsettled e = let q : ◌≡◌ {A = ℕ} 116 108 = from_end 3 xs ys Refuted Unsettled e in absurd (omega arith)
tells xs ys Refuted Single e = let q : ◌≡◌ {A = ℕ} 116 103 = from_end 3 xs ys Refuted Single e in absurd (omega arith)
tells xs ys Refuted Refuted e = refl

pub log_tells : LogTellsClose
log_tells lines close told front e = tells (flat_map line_text lines) front close told e
