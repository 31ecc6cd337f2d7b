-- Why a text is refused.
use Rattle.std.proofs.Common.{◌≡◌, ◌≢◌, ℕ, List, Option, Some, None, refl, ap, sym, ◌∙◌, arith}
use Rattle.mp_logic.specs.Formula.{Formula}
use Rattle.mp_wcnf.specs.Refusals.{HasOneMeaning, IsRefused}
use Rattle.mp_wcnf.specs.declared.errors.ReadError.{ReadError}
use Rattle.mp_wcnf.specs.declared.errors.ReadError.TheVariants as errors
use Rattle.mp_wcnf.proofs.Public.{one_meaning}
use Rattle.mp_modes.specs.Instances.{IsReadable, IsReadingFault, IsWantOr, refused_reading}
use Rattle.mp_modes.specs.Limits.{program_limits}
use Rattle.mp_modes.specs.Preprocessing.{IsAccepted, IsInstanceFault, IsLabelFault, inner_vars}
use Rattle.mp_modes.specs.declared.refusal.Exceeded.TheVariants as limits
use Rattle.mp_modes.specs.declared.refusal.Refusal.{Refusal}
use Rattle.mp_modes.specs.declared.refusal.Refusal.TheVariants as refusals
use Rattle.mp_modes.specs.declared.refusal.TextRefusal.{TextRefusal}
use Rattle.mp_modes.specs.declared.refusal.TextRefusal.TheVariants as texts

pub refused_text : (text : List ℕ) (e : ReadError) → (e ≢ errors.NoMemory → IsRefused program_limits text e) → IsWantOr (IsReadingFault text) (refused_reading e)
refused_text text (errors.Syntax line) h = h (λ q. cc)
refused_text text (errors.TooManyVariables line) h = (line, h (λ q. cc))
refused_text text errors.TooManyClauses h = h (λ q. cc)
refused_text text errors.TooManyLiterals h = h (λ q. cc)
refused_text text (errors.TooHeavy line) h = (line, h (λ q. cc))
refused_text text errors.NoMemory h = tt

-- what is refused by one relation is so by a wider one
pub want_more : (P Q : TextRefusal → Type 0) (r : Refusal) → ((x : TextRefusal) → P x → Q x) → IsWantOr P r → IsWantOr Q r
want_more P Q refusals.NoMemory f h = tt
want_more P Q (refusals.Text x) f h = f x h
want_more P Q refusals.ReadFault f h = absurd h
want_more P Q refusals.TooLong f h = absurd h
want_more P Q refusals.Usage f h = absurd h

-- what can't be read is refused where it is to be labelled
pub reading_fault : (text : List ℕ) (x : TextRefusal) → IsReadingFault text x → IsInstanceFault text x
reading_fault text (texts.Instance line) h = h
reading_fault text (texts.Limit limits.Variables) h = h
reading_fault text (texts.Limit limits.Inner) h = absurd h
reading_fault text (texts.Limit limits.Clauses) h = h
reading_fault text (texts.Limit limits.Literals) h = h
reading_fault text (texts.Limit limits.Weight) h = h
reading_fault text (texts.Map line) h = absurd h
reading_fault text (texts.Solution line) h = absurd h
reading_fault text (texts.NotModel clause) h = absurd h
reading_fault text (texts.Script place) h = absurd h

-- and so is what has no label view within the limits
pub label_fault : (text : List ℕ) (f : Formula) → IsReadable text f → (x : TextRefusal) → IsLabelFault f x → IsInstanceFault text x
label_fault text f is (texts.Limit limits.Inner) h = (f, is, h)
label_fault text f is (texts.Limit limits.Variables) h = absurd h
label_fault text f is (texts.Limit limits.Clauses) h = absurd h
label_fault text f is (texts.Limit limits.Literals) h = absurd h
label_fault text f is (texts.Limit limits.Weight) h = absurd h
label_fault text f is (texts.Instance line) h = absurd h
label_fault text f is (texts.Map line) h = absurd h
label_fault text f is (texts.Solution line) h = absurd h
label_fault text f is (texts.NotModel clause) h = absurd h
label_fault text f is (texts.Script place) h = absurd h

-- a readable text is not refused
pub readable-fine : (text : List ℕ) (f : Formula) → IsReadable text f → (x : TextRefusal) → IsReadingFault text x → ⊥
readable-fine text f a (texts.Instance line) h = (one_meaning program_limits text).not_both f (errors.Syntax line) a.denotes a.within h
readable-fine text f a (texts.Limit limits.Variables) h = (one_meaning program_limits text).not_both f (errors.TooManyVariables h.0) a.denotes a.within h.1
readable-fine text f a (texts.Limit limits.Inner) h = absurd h
readable-fine text f a (texts.Limit limits.Clauses) h = (one_meaning program_limits text).not_both f errors.TooManyClauses a.denotes a.within h
readable-fine text f a (texts.Limit limits.Literals) h = (one_meaning program_limits text).not_both f errors.TooManyLiterals a.denotes a.within h
readable-fine text f a (texts.Limit limits.Weight) h = (one_meaning program_limits text).not_both f (errors.TooHeavy h.0) a.denotes a.within h.1
readable-fine text f a (texts.Map line) h = absurd h
readable-fine text f a (texts.Solution line) h = absurd h
readable-fine text f a (texts.NotModel clause) h = absurd h
readable-fine text f a (texts.Script place) h = absurd h

-- a text denotes one readable instance at most
pub one_instance : (text : List ℕ) (f g : Formula) → IsReadable text f → IsReadable text g → f ≡ g
one_instance text f g a b = (one_meaning program_limits text).one_instance f g a.denotes b.denotes

-- an accepted text is not refused
pub accepted-fine : (text : List ℕ) (f : Formula) → IsAccepted text f → (x : TextRefusal) → IsInstanceFault text x → ⊥
accepted-fine text f a (texts.Limit limits.Inner) h =
    let is : IsReadable text f = record { denotes = a.denotes; within = a.within } in
    let same = ap inner_vars (one_instance text f h.0 is h.1) in
    omega (arith, same, a.inner, h.2)
accepted-fine text f a (texts.Limit limits.Variables) h = readable-fine text f (record { denotes = a.denotes; within = a.within }) (texts.Limit limits.Variables) h
accepted-fine text f a (texts.Limit limits.Clauses) h = readable-fine text f (record { denotes = a.denotes; within = a.within }) (texts.Limit limits.Clauses) h
accepted-fine text f a (texts.Limit limits.Literals) h = readable-fine text f (record { denotes = a.denotes; within = a.within }) (texts.Limit limits.Literals) h
accepted-fine text f a (texts.Limit limits.Weight) h = readable-fine text f (record { denotes = a.denotes; within = a.within }) (texts.Limit limits.Weight) h
accepted-fine text f a (texts.Instance line) h = readable-fine text f (record { denotes = a.denotes; within = a.within }) (texts.Instance line) h
accepted-fine text f a (texts.Map line) h = absurd h
accepted-fine text f a (texts.Solution line) h = absurd h
accepted-fine text f a (texts.NotModel clause) h = absurd h
accepted-fine text f a (texts.Script place) h = absurd h

-- a value that is none is not some
pub no_line : (fault : Option ℕ) (line : ℕ) → fault ≡ None → fault ≡ Some line → ⊥
no_line fault line a b = let clash : Some line ≡ None = sym b ∙ a in absurd cc
