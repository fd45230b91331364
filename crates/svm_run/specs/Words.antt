-- The words that the program takes: `run IMAGE SCRIPT`, `trace IMAGE SCRIPT`, `audit IMAGE SCRIPT` and `made SEED SIZE`.
use Rattle.std.specs.Prelude.{ℕ, ◌≤◌, ◌==◌, ◌&&◌, nat_le, not, List, [], ◌∷◌, Bool, false, if◌then◌else◌, Option, Some, None, codes}
use Rattle.std.specs.Fmt.{decimal}
use Rattle.std.specs.Str.{bytes_eq}
use Rattle.std.specs.Str.Parse.{digits_value}
use Rattle.svm_run.specs.declared.words.Asked.{Asked as AskedWords}
use Rattle.svm_run.specs.declared.words.Asked.TheVariants as words
use Rattle.svm_run.specs.declared.words.Numbers.{Numbers}
use Rattle.svm_run.specs.declared.words.Work.{Work}
use Rattle.svm_run.specs.declared.words.Work.TheVariants.{Run, Trace, Audit}
use Rattle.workload.specs.Generated.{size_limit}

-- what is asked for: a work on the image and the script of these names, or on input that is made from a seed and a size
pub data Asked : Type 0 where
  Files : (work : Work) (image script : List ℕ) → Asked
  Made : (numbers : Numbers) → Asked

-- Files.

-- a name is not empty and does not begin with a dash
abbrev pub is_name : List ℕ → Bool
is_name [] = false
is_name (b ∷ bytes) = not (b == 45)

-- the work that a word names
abbrev pub work_of : List ℕ → Option Work
work_of word =
    if bytes_eq word (codes "run") then Some Run
    else if bytes_eq word (codes "trace") then Some Trace
    else if bytes_eq word (codes "audit") then Some Audit
    else None

abbrev pub files_by : Option Work → List ℕ → List ℕ → Option Asked
files_by None image script = None
files_by (Some work) image script = if is_name image && is_name script then Some (Files work image script) else None

-- Generated input.

-- the number whose decimal text a word is, so that it has neither a sign nor a leading zero, where it is at most so much
abbrev pub number_of : ℕ → List ℕ → Option ℕ
number_of most word =
    if bytes_eq word (decimal (digits_value 10 word)) && nat_le (digits_value 10 word) most then Some (digits_value 10 word) else None

abbrev pub seed_of : List ℕ → Option ℕ
seed_of word = number_of 65535 word

abbrev pub unless_0 : Option ℕ → Option ℕ
unless_0 None = None
unless_0 (Some number) = if number == 0 then None else Some number

abbrev pub size_of : List ℕ → Option ℕ
size_of word = unless_0 (number_of size_limit word)

abbrev pub numbers_of : ℕ → ℕ → Numbers
numbers_of seed size = record { seed = seed; size = size }

abbrev pub made_by : Option ℕ → Option ℕ → Option Asked
made_by None size = None
made_by (Some seed) None = None
made_by (Some seed) (Some size) = Some (Made (numbers_of seed size))

-- The words.

-- a work with the names of the image and the script, or `made` with the seed and the size
abbrev pub asked_of : List (List ℕ) → Option Asked
asked_of [] = None
asked_of (word ∷ []) = None
asked_of (word ∷ first ∷ []) = None
asked_of (word ∷ first ∷ second ∷ []) =
    if bytes_eq word (codes "made") then made_by (seed_of first) (size_of second) else files_by (work_of word) first second
asked_of (word ∷ first ∷ second ∷ more ∷ words) = None

-- generated input has no more than the largest size
abbrev pub IsInRange : AskedWords → Type 0
IsInRange (words.Files work image script) = Unit {0}
IsInRange (words.Made numbers) = numbers.size ≤ size_limit

-- the same of what the code tells
abbrev pub told : AskedWords → Asked
told (words.Files work image script) = Files work image.now script.now
told (words.Made numbers) = Made numbers
