-- Lines, words and numbers of a script.
use Rattle.std.specs.Prelude.{ℕ, ◌+◌, ◌*◌, ◌-◌, ◌^◌, ◌==◌, ◌&&◌, ◌||◌, not, nat_lt, nat_le, List, [], ◌∷◌, Bool, false, if◌then◌else◌, Result, Ok, Err, length, filter}
use Rattle.std.specs.List.{list_all, slice_split}
use Rattle.svm_model.specs.declared.formats.ScriptReason.{ScriptReason}
use Rattle.svm_model.specs.declared.formats.ScriptReason.TheVariants.{Number}

infixl 10 ◌>>=◌
abbrev pub ◌>>=◌ : {A B E : Type 0} → Result A E → (A → Result B E) → Result B E
(Ok x) >>= f = f x
(Err e) >>= f = Err e

-- Lines and words.

-- a carriage return before a line feed is dropped
abbrev pub without_return : List ℕ → List ℕ
without_return [] = []
without_return (a ∷ []) = if a == 13 then [] else a ∷ []
without_return (a ∷ b ∷ bytes) = a ∷ without_return (b ∷ bytes)

-- of the pieces between line feeds each but the last had a line feed behind it
abbrev pub lines_in : List (List ℕ) → List (List ℕ)
lines_in [] = []
lines_in (last ∷ []) = last ∷ []
lines_in (line ∷ next ∷ pieces) = without_return line ∷ lines_in (next ∷ pieces)

abbrev pub lines_of : List ℕ → List (List ℕ)
lines_of bytes = lines_in (slice_split (λ b. b == 10) bytes)

-- words are split by spaces and tabs
abbrev pub is_blank : ℕ → Bool
is_blank byte = (byte == 32) || (byte == 9)

abbrev pub is_some_word : List ℕ → Bool
is_some_word word = not (length word == 0)

abbrev pub words_of : List ℕ → List (List ℕ)
words_of line = filter is_some_word (slice_split is_blank line)

-- printable ASCII, or a tab
abbrev pub is_text : ℕ → Bool
is_text byte = (nat_le 32 byte && nat_le byte 126) || (byte == 9)

-- a word that begins with a number sign: the line is a comment
abbrev pub is_comment : List ℕ → Bool
is_comment [] = false
is_comment (a ∷ bytes) = a == 35

-- Numbers: decimal digits, the first of them 0 only in 0, or 0x with hexadecimal digits, small or capital ones.

-- the value of a digit, at least 16 where it is none
abbrev pub digit_of : ℕ → ℕ
digit_of byte =
    if nat_le 48 byte && nat_le byte 57 then byte - 48
    else if nat_le 97 byte && nat_le byte 102 then byte - 87
    else if nat_le 65 byte && nat_le byte 70 then byte - 55
    else 16

-- one or more digits of the base
abbrev pub are_digits : ℕ → List ℕ → Bool
are_digits base bytes = not (length bytes == 0) && list_all (λ b. nat_lt (digit_of b) base) bytes

-- the number of these digits behind those of a number
unfoldable pub value_from : ℕ → ℕ → List ℕ → ℕ
value_from base front [] = front
value_from base front (a ∷ bytes) = value_from base (base * front + digit_of a) bytes

-- digits of a number of at most 64 bits
abbrev pub digits_in : ℕ → List ℕ → Result ℕ ScriptReason
digits_in base bytes =
    if are_digits base bytes && nat_lt (value_from base 0 bytes) (2 ^ 64) then Ok (value_from base 0 bytes) else Err Number

abbrev pub number_in : List ℕ → Result ℕ ScriptReason
number_in [] = Err Number
number_in (a ∷ []) = digits_in 10 (a ∷ [])
number_in (a ∷ b ∷ bytes) =
    if (a == 48) && (b == 120) then digits_in 16 bytes
    else if a == 48 then Err Number
    else digits_in 10 (a ∷ b ∷ bytes)
