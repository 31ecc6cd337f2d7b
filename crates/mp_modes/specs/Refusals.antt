-- The status, the line and the faults of a refusal, and the number of a status. A refusal of the text of an input has a
-- line in `text_status`, `front_of` and `number_of`, and nowhere else but where it has its cause.
use Rattle.std.specs.Prelude.{ℕ, List, [], ◌∷◌, ◌++◌, codes, decimal}
use Rattle.mp_modes.specs.Limits.{program_limits}
use Rattle.mp_modes.specs.declared.status.Status.{Status}
use Rattle.mp_modes.specs.declared.status.Status.TheVariants as statuses
use Rattle.mp_modes.specs.declared.refusal.Exceeded.{Exceeded}
use Rattle.mp_modes.specs.declared.refusal.Exceeded.TheVariants as limits
use Rattle.mp_modes.specs.declared.refusal.TextRefusal.{TextRefusal}
use Rattle.mp_modes.specs.declared.refusal.TextRefusal.TheVariants as texts
use Rattle.mp_modes.specs.declared.refusal.Refusal.{Refusal}
use Rattle.mp_modes.specs.declared.refusal.Refusal.TheVariants as refusals

-- the status of a refused text
abbrev pub text_status : TextRefusal → Status
text_status (texts.Instance line) = statuses.BadInstance
text_status (texts.Limit exceeded) = statuses.Limit
text_status (texts.Map line) = statuses.BadMap
text_status (texts.Solution line) = statuses.BadSolution
text_status (texts.NotModel clause) = statuses.NotModel
text_status (texts.Script place) = statuses.BadScript

-- the status of a refusal
abbrev pub status_of : Refusal → Status
status_of refusals.NoMemory = statuses.NoMemory
status_of refusals.Usage = statuses.Usage
status_of refusals.ReadFault = statuses.ReadFault
status_of refusals.TooLong = statuses.TooLong
status_of (refusals.Text refusal) = text_status refusal

-- what the line of a limit calls it
abbrev pub limit_word : Exceeded → List ℕ
limit_word limits.Variables = codes "variables"
limit_word limits.Inner = codes "inner"
limit_word limits.Clauses = codes "clauses"
limit_word limits.Literals = codes "literals"
limit_word limits.Weight = codes "weight"

-- the limit that was passed
abbrev pub limit_of : Exceeded → ℕ
limit_of limits.Variables = program_limits.variables
limit_of limits.Inner = program_limits.inner
limit_of limits.Clauses = program_limits.clauses
limit_of limits.Literals = program_limits.literals
limit_of limits.Weight = program_limits.weight

-- what the line of a refused text says before its number
abbrev pub front_of : TextRefusal → List ℕ
front_of (texts.Instance line) = codes "instance: line "
front_of (texts.Limit exceeded) = codes "limit: " ++ (limit_word exceeded ++ codes " ")
front_of (texts.Map line) = codes "map: line "
front_of (texts.Solution line) = codes "solution: line "
front_of (texts.NotModel clause) = codes "not a model: hard clause "
front_of (texts.Script place) = codes "script: byte "

-- the number in the line of a refused text
abbrev pub number_of : TextRefusal → ℕ
number_of (texts.Instance line) = line
number_of (texts.Limit exceeded) = limit_of exceeded
number_of (texts.Map line) = line
number_of (texts.Solution line) = line
number_of (texts.NotModel clause) = clause
number_of (texts.Script place) = place

-- what the program says on the log
abbrev pub line_of : Refusal → List ℕ
line_of refusals.NoMemory = codes "maxpre: out of memory\n"
line_of refusals.Usage = codes "maxpre: usage: maxpre MODE OPERAND [--NAME=VALUE]\n"
line_of refusals.ReadFault = codes "maxpre: read fault\n"
line_of refusals.TooLong = codes "maxpre: input too long\n"
line_of (refusals.Text refusal) = codes "maxpre: " ++ (front_of refusal ++ (decimal (number_of refusal) ++ 10 ∷ []))

-- how many host calls failed before the line is said
abbrev pub faults_of : Refusal → ℕ
faults_of refusals.ReadFault = 1
faults_of _ = 0

-- the line has no number, so that saying it takes no memory
abbrev pub HasFixedLine : Refusal → Type 0
HasFixedLine (refusals.Text refusal) = ⊥
HasFixedLine _ = Unit {0}

-- the number with which the program ends
abbrev pub exit_status : Status → ℕ
exit_status statuses.Ok = 0
exit_status statuses.NoMemory = 1
exit_status statuses.Usage = 2
exit_status statuses.ReadFault = 3
exit_status statuses.WriteFault = 4
exit_status statuses.BadInstance = 5
exit_status statuses.Limit = 6
exit_status statuses.BadMap = 7
exit_status statuses.BadSolution = 8
exit_status statuses.NotModel = 9
exit_status statuses.BadScript = 10
exit_status statuses.TooLong = 11
