-- Which line is at fault in a text that is the spelling of no map.
use Rattle.std.specs.Prelude.{◌≡◌, ℕ, List, [], ◌∷◌, ◌++◌}
use Rattle.mp_text.specs.Lines.{end_line, line_behind}
use Rattle.mp_map.specs.declared.maps.MapFile.{MapFile}
use Rattle.mp_map.specs.declared.maps.MapError.{MapError}
use Rattle.mp_map.specs.declared.maps.MapError.TheVariants as errors
use Rattle.mp_map.specs.Maps.{IsMap, map_text}

-- the text is the spelling of a valid map
abbrev pub IsSpelling : List ℕ → Type 0
IsSpelling text = (m : MapFile) × IsMap m × (map_text m ≡ text)

-- some spelling begins with these bytes
abbrev pub BeginsSpelling : List ℕ → Type 0
BeginsSpelling front = (m : MapFile) × (more : List ℕ) × IsMap m × (map_text m ≡ front ++ more)

-- the byte behind this front is the first with which the bytes so far begin no spelling
pub record IsFirstFault (text front : List ℕ) : Type 0 where
  pub byte : ℕ
  pub after : List ℕ
  pub whole : text ≡ front ++ byte ∷ after
  pub begins : BeginsSpelling front
  pub ends : BeginsSpelling (front ++ byte ∷ []) → ⊥

-- It is the line of the first byte at fault. Where all bytes begin a spelling, the text ends too early, and it is the
-- line of the last byte.
pub record IsFaultLine (text : List ℕ) (line : ℕ) : Type 0 where
  pub first : (front : List ℕ) → IsFirstFault text front → line_behind front ≡ line
  pub last : BeginsSpelling text → end_line text ≡ line

-- a text is refused only where it is no spelling, with the line at fault
abbrev pub IsRefused : List ℕ → MapError → Type 0
IsRefused text (errors.BadMap line) = (IsSpelling text → ⊥) × IsFaultLine text line
IsRefused text errors.NoMemory = Unit {0}

-- the law: no two valid maps have one spelling
abbrev pub OneSpelling : Type 0
OneSpelling = (m n : MapFile) → IsMap m → IsMap n → map_text m ≡ map_text n → m ≡ n
